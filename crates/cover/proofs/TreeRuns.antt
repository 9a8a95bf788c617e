-- Where entries rise by tree, the entries of each tree are one run, and the next tree's begin where it ends.
-- Assumes nothing.
use Prim.Native.Nat.{ℕ, suc, ◌+◌, ◌-◌, ◌≤◌, ◌<◌}
use mathlib.Core.Path.{◌≡◌, ap, ◌∙◌}
use mathlib.Core.Bool.{Bool, true}
use mathlib.Core.List.{List, [], ◌∷◌, ◌++◌, map, append-nil, map-append}
use native.Mathlib.Decide.{dec_lt}
use native.Mathlib.Numerals.{add-one}
use native.Mathlib.Omega.{arith}
use lib.Dec.{eqb}
use borrow.Author.Tests.{eq-eqb, ne_eqb}
use Rattle.lists.specs.Count as Count
use Rattle.lists.specs.Lists.{filter}
use Rattle.lists.proofs.Below.{of_from}
use Rattle.lists.proofs.Filters.{filter_none, filter_append, filter_all}
use Rattle.lists.proofs.Numbered.{from_append}
use Rattle.rules.specs.CoverBytes.{entries_in, start_in, entry_tree, entry_edge, tree_in}
use Rattle.rules.specs.CheckCover.{entries_right}
use Rattle.cover_laws.proofs.EntryTest.{passed_order}
use Rattle.cover.specs.Runs.{run_edges, RunOf, BeginsAt}

module _ (c : List ℕ) where
  -- The edges of tree j are those of its run.
  module _ {j at to : ℕ} (b : BeginsAt c j at) (r : RunOf c j at to) (later : (i : ℕ) → to ≤ i → i < entries_in c → j < entry_tree c i) where
    abbrev mine : ℕ → Bool
    mine i = eqb (entry_tree c i) j

    entries_cut : Count.below (entries_in c) ≡ Count.from 0 at ++ (Count.from at (to - at) ++ Count.from to (entries_in c - to))
    unfolding Count.below
    entries_cut =
        let whole : entries_in c ≡ at + ((to - at) + (entries_in c - to)) = omega (arith, r.run.forward, r.run.inside) in
        let middle : 0 + at ≡ at = omega arith in
        let end : at + (to - at) ≡ to = omega (arith, r.run.forward) in
        ap (Count.from 0) whole
        ∙ from_append 0 at ((to - at) + (entries_in c - to))
        ∙ ap (λ k. Count.from 0 at ++ Count.from k ((to - at) + (entries_in c - to))) middle
        ∙ ap (λ l. Count.from 0 at ++ l) (from_append at (to - at) (entries_in c - to))
        ∙ ap (λ k. Count.from 0 at ++ (Count.from at (to - at) ++ Count.from k (entries_in c - to))) end

    run_filter : filter mine (Count.below (entries_in c)) ≡ Count.from at (to - at)
    run_filter =
        ap (filter mine) entries_cut
        ∙ filter_append mine (Count.from 0 at) (Count.from at (to - at) ++ Count.from to (entries_in c - to))
        ∙ ap (λ l. l ++ filter mine (Count.from at (to - at) ++ Count.from to (entries_in c - to)))
        (filter_none mine (Count.from 0 at) (λ i m. ne_eqb (entry_tree c i) j (let s = of_from 0 at m in omega (arith, b.lower i (omega arith)))))
        ∙ filter_append mine (Count.from at (to - at)) (Count.from to (entries_in c - to))
        ∙ ap (λ l. l ++ filter mine (Count.from to (entries_in c - to)))
        (filter_all mine (Count.from at (to - at)) (λ i m. eq-eqb (entry_tree c i) j (let s = of_from at (to - at) m in r.named i (omega arith) (omega arith))))
        ∙ ap (λ l. Count.from at (to - at) ++ l)
        (filter_none mine (Count.from to (entries_in c - to))
        (λ i m. ne_eqb (entry_tree c i) j (let s = of_from to (entries_in c - to) m in omega (arith, later i (omega arith) (omega (arith, r.run.inside))))))
        ∙ append-nil (Count.from at (to - at))

    run_tree_lem : tree_in c j ≡ record { start = start_in c j; edges = run_edges c at to }
    unfolding tree_in
    run_tree_lem = ap (λ l. record { start = start_in c j; edges = map (entry_edge c) l }) run_filter

  -- Entries that pass the test (33) name no lower tree than those before them.
  module _ (m : ℕ) (passed : entries_right m c ≡ true) where
    -- The entries of tree 0 begin at the first.
    pub begins_first : BeginsAt c 0 0
    begins_first = record { inside = omega arith; lower = λ i h. absurd (omega arith); higher = λ i h k. omega arith }

    module _ {j at to : ℕ} (b : BeginsAt c j at) (r : RunOf c j at to) where
      pub higher_after : (i : ℕ) → to ≤ i → i < entries_in c → j < entry_tree c i
      higher_after i h k =
          omega (arith, passed_order m c passed to i h k, r.ends (omega arith), b.higher to r.run.forward (omega arith))

      -- The next tree's entries begin where a run ends.
      pub begins_next : BeginsAt c (j + 1) to
      begins_next =
          record {
            inside = r.run.inside;
            lower = λ i h. go i h (dec_lt i at);
            higher = λ i h k. omega (arith, higher_after i h k);
          }
        where
          go : (i : ℕ) → i < to → Dec (i < at) → entry_tree c i < j + 1
          go i h (yes p) = omega (arith, b.lower i p)
          go i h (no p) = omega (arith, r.named i (omega arith) h)

      -- So its edges are those of its run.
      pub tree_is_run : tree_in c j ≡ record { start = start_in c j; edges = run_edges c at to }
      tree_is_run = run_tree_lem b r higher_after

module _ (c : List ℕ) where
  -- An empty run.
  pub run_none : (from to : ℕ) → to ≤ from → run_edges c from to ≡ []
  unfolding Count.from
  run_none from to h =
      let none : to - from ≡ 0 = omega arith in
      rw none

  -- A run begins with its first entry.
  pub run_first : (i to : ℕ) → i < to → run_edges c i to ≡ entry_edge c i ∷ run_edges c (i + 1) to
  unfolding Count.from
  run_first i to h =
      let some : to - i ≡ suc (to - suc i) = omega arith in
      rw (add-one, some)

  -- A run up to the next entry ends with this one.
  pub run_last : (from i : ℕ) → from ≤ i → run_edges c from (i + 1) ≡ run_edges c from i ++ (entry_edge c i ∷ [])
  unfolding Count.from
  run_last from i h =
      let more : i + 1 - from ≡ (i - from) + 1 = omega arith in
      let there : from + (i - from) ≡ i = omega arith in
      ap (λ n. map (entry_edge c) (Count.from from n)) more
      ∙ ap (map (entry_edge c)) (from_append from (i - from) 1)
      ∙ map-append (entry_edge c) (Count.from from (i - from)) (Count.from (from + (i - from)) 1)
      ∙ ap (λ k. run_edges c from i ++ (entry_edge c k ∷ [])) there
