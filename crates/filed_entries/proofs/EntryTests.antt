-- The tests of one entry (33) as the code makes them, one after the other.
-- Assumes nothing.
use Prim.Native.Nat.{ℕ, ◌-◌, ◌≤◌, ◌<◌}
use mathlib.Core.Path.{◌≡◌}
use mathlib.Core.Bool.{true, false, or-true}
use mathlib.Core.List.{List}
use native.Mathlib.Omega.{arith}
use lib.Dec.{eqb, ltb}
use borrow.Author.Tests.{lt-ltb, le-ltb, eq-eqb, ne_eqb}
use Rattle.rules.specs.CoverBytes.{trees_in, entry_tree, entry_edge}
use Rattle.rules.specs.CheckCover.{entry_rises, entry_right}

module _ (b : List ℕ) (i : ℕ) where
  pub first_rises : i ≡ 0 → entry_rises b i ≡ true
  unfolding entry_rises
  first_rises q = rw (eq-eqb i 0 q)

  pub tree_rises : entry_tree b (i - 1) < entry_tree b i → entry_rises b i ≡ true
  unfolding entry_rises
  tree_rises h = rw (lt-ltb (entry_tree b (i - 1)) (entry_tree b i) h) (or-true (eqb i 0))

  module _ (later : i ≡ 0 → ⊥) where
    pub tree_falls : entry_tree b i ≤ entry_tree b (i - 1) → (entry_tree b (i - 1) ≡ entry_tree b i → ⊥) → entry_rises b i ≡ false
    unfolding entry_rises
    tree_falls h d = rw (ne_eqb i 0 later, le-ltb (entry_tree b (i - 1)) (entry_tree b i) h, ne_eqb (entry_tree b (i - 1)) (entry_tree b i) d)

    pub edge_decides : entry_tree b (i - 1) ≡ entry_tree b i → entry_rises b i ≡ ltb (entry_edge b (i - 1)) (entry_edge b i)
    unfolding entry_rises
    edge_decides q =
        rw (ne_eqb i 0 later, le-ltb (entry_tree b (i - 1)) (entry_tree b i) (omega arith), eq-eqb (entry_tree b (i - 1)) (entry_tree b i) q)

  module _ (m : ℕ) where
    pub no_tree_lem : trees_in b ≤ entry_tree b i → entry_right m b i ≡ false
    unfolding entry_right
    no_tree_lem h = rw (le-ltb (entry_tree b i) (trees_in b) h)

    module _ (named : entry_tree b i < trees_in b) where
      pub no_edge : m ≤ entry_edge b i → entry_right m b i ≡ false
      unfolding entry_right
      no_edge h = rw (lt-ltb (entry_tree b i) (trees_in b) named, le-ltb (entry_edge b i) m h)

      pub rise_decides : entry_edge b i < m → entry_right m b i ≡ entry_rises b i
      unfolding entry_right
      rise_decides h = rw (lt-ltb (entry_tree b i) (trees_in b) named, lt-ltb (entry_edge b i) m h)
