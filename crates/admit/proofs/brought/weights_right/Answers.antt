-- `admit::brought::weights_right` meets its contract: what the code asks of each number below the count of edges it asks of each edge.
-- Assumes nothing.
use Prim.Native.Nat.{ℕ, ◌≤◌, ◌<◌}
use mathlib.Core.Path.{◌≡◌}
use mathlib.Core.Bool.{Bool, true, false, false≢true, true≢false}
use native.Mathlib.Omega.{arith}
use lib.ListN.{length}
use mathlib.Core.List.{List}
use Rattle.std.proofs.Common.{rules, tests, zero-add, MatchBool}
use Rattle.std.specs.List.{range_with_len, AllWithin, HoldsAt}
use Rattle.std.proofs.lemmas.Iterator.{YieldsList-from_range, cases_from_all}
use Rattle.std.proofs.lemmas.List.FromFn.{length-range_with_len, get_or-range_with_len}
use Rattle.graph.specs.Graph.{Graph, weight_of, edge_count}
use Rattle.rules.proofs.Surfaces.{each_light, heavy_refused}
use Rattle.admit.specs.Brought.{WeightsTested}
use Rattle.admit.proofs.brought.weights_right.Goals as goal

module _ (g : Graph) (n : ℕ) (is : n ≡ edge_count g) where
  abbrev edges : List ℕ
  edges = range_with_len 0 n

  each_tested : (r : Bool) → MatchBool r (AllWithin (λ e. weight_of g e ≤ 1000000) edges 0 (length edges)) ((e : ℕ) × (e < length edges) × HoldsAt (λ e. 1000000 < weight_of g e) edges e) → WeightsTested g r
  each_tested true light =
      record {
        right = λ r. each_light g (λ e h. let l : e < n = omega arith in rw (get_or-range_with_len 0 n e 0, zero-add) at (light e 0 (omega arith) (omega (arith, length-range_with_len 0 n))));
        wrong = λ r. absurd (true≢false r);
      }
  each_tested false (e, h, heavy) =
      let l : e < n = omega (arith, length-range_with_len 0 n) in
      record { right = λ r. absurd (false≢true r); wrong = λ r. heavy_refused g {e = e} (omega arith) (rw (get_or-range_with_len 0 n e 0, zero-add) at (heavy 0)) }

pub returns : goal.returns
returns c =
    let g : Graph = c.args.g.now in
    each_tested
    g
    c.edge_count.result
    c.edge_count.ensures.is
    c.all.result
    (cases_from_all _ _ c.all.result (λ e. weight_of g e ≤ 1000000) (λ e. 1000000 < weight_of g e) c.all.ensures.ran (YieldsList-from_range 0 c.edge_count.result c.edge_count.result (cc) (omega arith)) (λ x q k. search (rules, tests)) (λ x q k. search (rules, tests)))
