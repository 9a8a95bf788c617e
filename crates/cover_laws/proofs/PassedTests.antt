-- The check of a cover's bytes refuses nothing exactly where all five tests (31 to 35) say yes.
-- Assumes nothing.
use Prim.Native.Nat.{ℕ}
use mathlib.Core.Path.{◌≡◌, refl}
use mathlib.Core.Bool.{true, ◌&&◌}
use mathlib.Core.List.Memᴰ
use mathlib.Core.List.{List}
use mathlib.Core.Option.{none}
use native.Mathlib.Omega.{arith}
use lib.Dec.{leb, eqb}
use lib.ListN.{length}
use borrow.Author.Tests.{eqb-true, le-leb, eq-eqb}
use Rattle.lists.proofs.Every.{both_true, first_true, second_true}
use Rattle.graph.specs.Graph.{Graph, edge_count}
use Rattle.rules.specs.Cover.{Crews}
use Rattle.rules.specs.CoverBytes.{cover_length, decode}
use Rattle.rules.specs.CheckCover.{starts_right, starts_below, entries_right, trees_right, vertices_covered, cover_fault}
use Rattle.graph.proofs.Faults.{quiet_unless, unless_quiet, quiet_each, first_quiet, none_quiet}

-- All tests say yes.
pub record Passed (g : Graph) (crews : Crews) (b : List ℕ) : Type 0 where
  pub sized : length b ≡ cover_length b
  pub starts : starts_right crews b ≡ true
  pub inside : starts_below g.vertices b ≡ true
  pub entries : entries_right (edge_count g) b ≡ true
  pub trees : trees_right g (decode b) ≡ true
  pub covered : vertices_covered g (decode b) ≡ true

module _ (g : Graph) (crews : Crews) (b : List ℕ) where
  -- Where nothing is refused, all tests say yes.
  pub quiet_passed : cover_fault g crews b ≡ none → Passed g crews b
  unfolding cover_fault
  quiet_passed e =
      let t31 = quiet_unless (leb 4 (length b) && eqb (length b) (cover_length b)) 31 (quiet_each _ e (Memᴰ.head refl)) in
      let t32 = quiet_unless (starts_right crews b && starts_below g.vertices b) 32 (quiet_each _ e (Memᴰ.tail (Memᴰ.head refl))) in
      record {
        sized = eqb-true _ _ (second_true (leb 4 (length b)) (eqb (length b) (cover_length b)) t31);
        starts = first_true (starts_right crews b) (starts_below g.vertices b) t32;
        inside = second_true (starts_right crews b) (starts_below g.vertices b) t32;
        entries = quiet_unless (entries_right (edge_count g) b) 33 (quiet_each _ e (Memᴰ.tail (Memᴰ.tail (Memᴰ.head refl))));
        trees = quiet_unless (trees_right g (decode b)) 34 (quiet_each _ e (Memᴰ.tail (Memᴰ.tail (Memᴰ.tail (Memᴰ.head refl)))));
        covered = quiet_unless (vertices_covered g (decode b)) 35 (quiet_each _ e (Memᴰ.tail (Memᴰ.tail (Memᴰ.tail (Memᴰ.tail (Memᴰ.head refl))))));
      }

  -- Where all tests say yes, nothing is refused.
  pub passed_quiet : Passed g crews b → cover_fault g crews b ≡ none
  unfolding cover_fault
  passed_quiet p =
      first_quiet _ (unless_quiet 31 (both_true (le-leb 4 (length b) (omega (arith, p.sized))) (eq-eqb _ _ p.sized)))
      (first_quiet _ (unless_quiet 32 (both_true p.starts p.inside))
      (first_quiet _ (unless_quiet 33 p.entries)
      (first_quiet _ (unless_quiet 34 p.trees)
      (first_quiet _ (unless_quiet 35 p.covered) none_quiet))))
