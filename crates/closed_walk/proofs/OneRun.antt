-- The entries of one tree: where they begin, and their edges, one by one.
-- Assumes nothing.
use Prim.Native.Nat.{ℕ, ◌+◌, ◌-◌, ◌≤◌, ◌<◌}
use mathlib.Core.Path.{◌≡◌, ◌∙◌}
use mathlib.Core.Bool.{true}
use mathlib.Core.List.{List}
use native.Mathlib.Omega.{arith}
use lib.ListN.{length, set, length-map}
use Rattle.lists.specs.Count as Count
use Rattle.lists.specs.Put.{PutTo}
use Rattle.lists.proofs.Put.{put_to_none, put_more, put_length}
use Rattle.lists.proofs.Runs.{length_from}
use Rattle.rules.specs.CoverBytes.{entry_edge}
use Rattle.rules.specs.CheckCover.{entries_right}
use Rattle.cover_laws.proofs.EntryTest.{passed_order}
use Rattle.cover.specs.Runs.{run_edges, BeginsAt}
use Rattle.cover.proofs.TreeRuns.{run_none, run_last}
use Rattle.closed_walk.specs.Run.{FirstOf}

module _ (c : List ℕ) where
  -- Where entries pass the test (33), none behind the first names a lower tree either.
  pub first_begins : (m : ℕ) → entries_right m c ≡ true → {j at : ℕ} → FirstOf c j at → BeginsAt c j at
  first_begins m passed {j} {at} f =
      record { inside = f.inside; lower = f.lower; higher = λ i h k. omega (arith, passed_order m c passed at i h k, f.not_lower (omega arith)) }

  -- A run has an edge for each entry.
  pub run_length : (from to : ℕ) → length (run_edges c from to) ≡ to - from
  run_length from to = length-map (Count.from from (to - from)) (entry_edge c) ∙ length_from from (to - from)

  -- Its edges before i are put into an array that has room for all.
  pub record RunPut (from to : ℕ) (out₀ out : List ℕ) (r i : ℕ) : Type 0 where
    pub forward : from ≤ i
    pub inside : i ≤ to
    pub put : PutTo 0 (run_edges c from i) out₀ out r

  pub run_put_none : (from to : ℕ) (out : List ℕ) → from ≤ to → RunPut from to out out 0 from
  run_put_none from to out h = record { forward = omega arith; inside = h; put = rw (run_none c from from (omega arith)) (put_to_none out 0 (omega arith)) }

  module _ {from to : ℕ} {out₀ out : List ℕ} {r i : ℕ} (p : RunPut from to out₀ out r i) where
    pub run_put_length : length out ≡ length out₀
    run_put_length = put_length p.put.put

    -- There is room for the next.
    pub run_put_room : to - from ≤ length out₀ → i < to → r < length out
    run_put_room room h = omega (arith, p.put.behind, run_length from i, run_put_length, p.forward)

    pub run_put_more : {x : ℕ} → x ≡ entry_edge c i → i < to → r < length out → RunPut from to out₀ (set out r x) (r + 1) (i + 1)
    run_put_more {x} q h room =
        record { forward = omega (arith, p.forward); inside = omega arith; put = rw (run_last c from i p.forward, ← q) (put_more x p.put room) }

    pub run_put_all : i ≡ to → PutTo 0 (run_edges c from to) out₀ out r
    run_put_all q = rw q at p.put
