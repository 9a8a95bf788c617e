-- The tests of the starts (32) as the code makes them, one after the other.
-- Assumes nothing.
use Prim.Native.Nat.{ℕ, ◌≤◌, ◌<◌}
use mathlib.Core.Path.{◌≡◌, refl}
use mathlib.Core.Bool.{true, false}
use mathlib.Core.List.{List}
use mathlib.Core.Option.{Option}
use native.Mathlib.Omega.{arith}
use lib.ListN.{length, get_or}
use lib.Dec.{eqb, leb, ltb}
use borrow.Author.Tests.{ltb-true, le-leb, lt-leb, eq-eqb, ne_eqb}
use Rattle.lists.specs.Count.{below}
use Rattle.lists.specs.Lists.{all}
use Rattle.lists.proofs.AllBelow.{each_below}
use Rattle.rules.specs.Cover.{rooted, unrooted}
use Rattle.rules.specs.CoverBytes.{trees_in, start_in}
use Rattle.rules.specs.CheckCover.{starts_right, starts_below}
use Rattle.rules.specs.Questions.{roots_by}
use Rattle.rules.proofs.CrewsRight.{roots_count}
use Rattle.admit.specs.Crews.{root_at}
use Rattle.admit.proofs.Roots.{root_is}
use Rattle.filed_entries.proofs.AllNumbers.{all_alike}

module _ (b : List ℕ) where
  module _ (k : ℕ) where
    module _ (vans : Option (List ℕ)) where
      pub other_count : (trees_in b ≡ k → ⊥) → starts_right (rooted (roots_by k vans)) b ≡ false
      unfolding starts_right
      other_count d = rw (roots_count k vans, ne_eqb (trees_in b) k d)

      module _ (q : trees_in b ≡ k) where
        count_right : eqb (trees_in b) (length (roots_by k vans)) ≡ true
        count_right = rw (roots_count k vans) (eq-eqb (trees_in b) k q)

        pub starts_decide : all (λ j. eqb (start_in b j) (root_at vans j)) (below (trees_in b)) ≡ starts_right (rooted (roots_by k vans)) b
        unfolding starts_right
        starts_decide =
            rw count_right
            (all_alike (λ j. eqb (start_in b j) (root_at vans j)) (λ j. eqb (start_in b j) (get_or (roots_by k vans) j 0)) (trees_in b)
            (λ j h. rw (root_is k vans j (omega arith)) refl))

    pub no_trees : trees_in b < 1 → starts_right (unrooted k) b ≡ false
    unfolding starts_right
    no_trees h = rw (lt-leb 1 (trees_in b) h)

    pub some_trees : 1 ≤ trees_in b → starts_right (unrooted k) b ≡ leb (trees_in b) k
    unfolding starts_right
    some_trees h = rw (le-leb 1 (trees_in b) h)

  module _ (n : ℕ) where
    -- Where all starts pass, each is below n.
    pub start_passed : starts_below n b ≡ true → (j : ℕ) → j < trees_in b → start_in b j < n
    unfolding starts_below
    start_passed t j h = ltb-true (start_in b j) n (each_below (λ k. ltb (start_in b k) n) (trees_in b) t j h)
