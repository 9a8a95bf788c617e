-- The test of the starts (32) says yes exactly where the trees that are read start as their crews ask, each at a vertex.
-- Assumes nothing.
use Prim.Native.Nat.{ℕ, ◌<◌}
use mathlib.Core.Path.{◌≡◌, sym, ap, ◌∙◌}
use mathlib.Core.Bool.{Bool, true}
use mathlib.Core.List.{List, map}
use native.Mathlib.Omega.{arith}
use lib.Dec.{eqb, leb, ltb}
use lib.ListN.{length, get_or}
use borrow.Author.Tests.{eqb-true, leb-true, ltb-true, eq-eqb, le-leb, lt-ltb}
use Rattle.lists.specs.Count.{below}
use Rattle.lists.specs.Lists.{all}
use Rattle.lists.specs.Member.{◌∈◌}
use Rattle.lists.proofs.Every.{both_true, first_true, second_true, all_each, each_all}
use Rattle.lists.proofs.Member.{in_map, of_map}
use Rattle.lists.proofs.AllBelow.{all_below, each_below}
use Rattle.lists.proofs.Runs.{map_below, get_or_map_below, length_map_below}
use Rattle.rules.specs.Cover.{Tree, Crews, rooted, unrooted, Starts}
use Rattle.rules.specs.CoverBytes.{trees_in, start_in, tree_in, decode}
use Rattle.rules.specs.CheckCover.{starts_right, starts_below}
use Rattle.cover_laws.proofs.Reading.{length_decode, starts_read}

-- Bytes that pass the test of the kind hold trees that start as the crews ask.
pub passed_starts : (crews : Crews) (b : List ℕ) → starts_right crews b ≡ true → Starts crews (decode b)
unfolding starts_right
passed_starts (rooted roots) b t =
    let test : ℕ → Bool = λ j. eqb (start_in b j) (get_or roots j 0) in
    let same = eqb (trees_in b) (length roots) in
    let count = eqb-true _ _ (first_true same (all test (below (trees_in b))) t) in
    let each = second_true same (all test (below (trees_in b))) t in
    starts_read b
    ∙ (ap (λ n. map (start_in b) (below n)) count
    ∙ map_below (start_in b) 0 roots (λ i l. eqb-true _ _ (each_below test (trees_in b) each i (omega (arith, count)))))
passed_starts (unrooted k) b t =
    let some = leb-true 1 (trees_in b) (first_true (leb 1 (trees_in b)) (leb (trees_in b) k) t) in
    let most = leb-true (trees_in b) k (second_true (leb 1 (trees_in b)) (leb (trees_in b) k) t) in
    (omega (arith, length_decode b, some), omega (arith, length_decode b, most))

-- Bytes of trees that start as the crews ask pass the test of the kind.
pub starts_pass : (crews : Crews) (b : List ℕ) → Starts crews (decode b) → starts_right crews b ≡ true
unfolding starts_right
starts_pass (rooted roots) b s =
    let read = sym s ∙ starts_read b in
    both_true (eq-eqb _ _ (sym (ap length read ∙ length_map_below (start_in b) (trees_in b))))
    (all_below (λ j. eqb (start_in b j) (get_or roots j 0)) (trees_in b)
    (λ j h. eq-eqb _ _ (sym (ap (λ l. get_or l j 0) read ∙ get_or_map_below (start_in b) 0 (trees_in b) j h))))
starts_pass (unrooted k) b s = both_true (le-leb 1 (trees_in b) (omega (arith, length_decode b))) (le-leb (trees_in b) k (omega (arith, length_decode b)))

module _ (n : ℕ) (b : List ℕ) where
  -- Where every start passes, each tree starts at one of n vertices.
  pub passed_inside : starts_below n b ≡ true → (t : Tree) → t ∈ decode b → t.start < n
  unfolding starts_below decode tree_in
  passed_inside s t m =
      let r = of_map (tree_in b) (below (trees_in b)) m in
      omega (arith, ap (λ (x : Tree). x.start) r.2, ltb-true (start_in b r.0) n (all_each (λ j. ltb (start_in b j) n) (below (trees_in b)) s r.1))

  -- Where each tree starts at one of n vertices, every start passes.
  pub inside_passes : ((t : Tree) → t ∈ decode b → t.start < n) → starts_below n b ≡ true
  unfolding starts_below decode tree_in
  inside_passes h = each_all (λ j. ltb (start_in b j) n) (below (trees_in b)) (λ j m. lt-ltb _ _ (h (tree_in b j) (in_map (tree_in b) m)))
