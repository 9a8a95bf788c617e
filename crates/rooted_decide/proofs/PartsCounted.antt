-- One pass over the steps counts the trial's parts: more than there are roots have no assignment, and none need one.
-- Assumes nothing.
use Prim.Native.Nat.{ℕ, ◌≤◌, ◌<◌}
use mathlib.Core.Path.{◌≡◌, sym, ap, ◌∙◌}
use mathlib.Core.Bool.{true, false}
use mathlib.Core.List.{List}
use mathlib.Core.Option.{none}
use native.Mathlib.Omega.{arith}
use lib.ListN.{length}
use Rattle.lists.specs.Count.{from, below}
use Rattle.graph.specs.Graph.{Graph}
use Rattle.matching.specs.Assignable.{assignable}
use Rattle.rules.specs.Split.{all_parts}
use Rattle.rules.specs.RootedTrial.{unjoined_at, rooted_parts, may_go, is_assignable}
use Rattle.planner_laws.proofs.RootedPrepared.{pieces_of_whole}
use Rattle.planner_laws.proofs.RootedPieces.{part_at}
use Rattle.steps.specs.Touched.{parts_counted}
use Rattle.steps.specs.StepsPut.{Countable}
use Rattle.rooted_state.proofs.AssignmentsAlike.{too_many}
use Rattle.rooted_state.specs.Prepared.{TrialAsked, PartsReady}
use Rattle.rooted_decide.specs.Decide.{CountReady, FewReady}

-- Where every vertex is joined to a root within the limit, a trial may place its parts.
pub parts_ready : {g : Graph} {roots : List ℕ} {limit : ℕ} {kept distances : List ℕ} → TrialAsked g roots limit kept distances
    → unjoined_at g roots limit ≡ none → PartsReady g roots limit distances
parts_ready a joined = record { asked = rw a.decidable.forest at a; joined = joined }

module _ {g : Graph} {roots : List ℕ} {limit : ℕ} {distances steps : List ℕ} (r : CountReady g roots limit distances steps) where
  pub count_asked : Countable limit steps
  count_asked = record { inside = r.stepped.inside; threshold_most = omega (arith, r.ready.asked.limit_most) }

  module _ {p : ℕ} (counted : p ≡ parts_counted limit steps) where
    parts_counted_lem : p ≡ length (rooted_parts g roots limit)
    unfolding rooted_parts
    parts_counted_lem =
        counted
        ∙ r.stepped.counts limit
        ∙ ap (λ ps. length (all_parts ps)) (sym (pieces_of_whole g roots limit r.ready.asked.decidable.given.valid r.ready.joined))

    pub many_refused : length roots < p → false ≡ is_assignable g roots limit
    unfolding is_assignable
    many_refused more = sym (too_many (may_go g roots limit) (omega (arith, parts_counted_lem)))

    pub none_assigned : p ≡ 0 → true ≡ is_assignable g roots limit
    unfolding is_assignable assignable below from
    none_assigned q = let none : length (rooted_parts g roots limit) ≡ 0 = omega (arith, parts_counted_lem) in rw none

    -- Some, and no more than the roots, may be assigned. Where there is a part the limit is not 0.
    pub few_ready : 0 < p → p ≤ length roots → FewReady g roots limit distances steps
    few_ready some few =
        record {
          counted = r;
          few = omega (arith, parts_counted_lem);
          limit_some = (part_at g roots limit 0 (omega (arith, parts_counted_lem))).limit_some;
        }
