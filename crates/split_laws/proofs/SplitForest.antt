-- Splitting all trees grown from the roots: the pieces of all are the pieces of each, and no edge stands in two parts, or in two leftovers,
-- or in a part and a leftover.
-- Assumes nothing.
use Prim.Native.Nat.{ℕ, ◌+◌, ◌≤◌}
use mathlib.Core.Path.{◌≡◌}
use mathlib.Core.List.{List, [], ◌∷◌, map}
use native.Mathlib.Omega.{arith}
use Rattle.lists.specs.Lists.{flat, times}
use Rattle.lists.specs.Member.{◌∈◌}
use Rattle.lists.proofs.Member.{in_map, of_map}
use Rattle.lists.proofs.FlatMap.{in_flat_map, of_flat_map}
use Rattle.lists.proofs.Times.{times_none, times_append}
use Rattle.graph.specs.Graph.{Graph}
use Rattle.rules.specs.Cover.{Tree}
use Rattle.rules.specs.Grow.{Rooted, branch_edges, grow}
use Rattle.rules.specs.Split.{Pieces, split, all_parts}
use Rattle.rules.specs.CoverBytes.{entry_edges}
use Rattle.split_laws.proofs.Exact.{times_part_edges}
use Rattle.split_laws.proofs.SplitTree.{tree_exact}
use Rattle.split_laws.proofs.Trees.{all_edges}
use Rattle.split_laws.proofs.Once.{edge_at_most_once}

-- What is left of all trees.
unfoldable pub all_left : List Pieces → List ℕ
all_left pieces = flat (map (λ (p : Pieces). p.left) pieces)

-- What is picked of the pieces of all trees is what is picked of those of each.
module _ {ℓ} {B : Type ℓ} (pick : Pieces → List B) (g : Graph) (H : ℕ) where
  in_picked : {y : B} {t : Rooted} {trees : List Rooted} → t ∈ trees → y ∈ pick (split g H t) → y ∈ flat (map pick (map (split g H) trees))
  in_picked m n = in_flat_map pick (in_map (split g H) m) n

  of_picked : {y : B} (trees : List Rooted) → y ∈ flat (map pick (map (split g H) trees)) → (t : Rooted) × (t ∈ trees) × (y ∈ pick (split g H t))
  of_picked trees m =
      let (s, i, n) = of_flat_map pick (map (split g H) trees) m in
      let (t, k, q) = of_map (split g H) trees i in
      (t, k, rw q at n)

module _ (g : Graph) (H : ℕ) where
  -- A part of one of the trees is a part of all, and the other way round.
  pub in_all_parts : {p : Tree} {t : Rooted} {trees : List Rooted} → t ∈ trees → p ∈ (split g H t).parts → p ∈ all_parts (map (split g H) trees)
  unfolding all_parts
  in_all_parts m n = in_picked (λ (s : Pieces). s.parts) g H m n

  pub of_all_parts : {p : Tree} (trees : List Rooted) → p ∈ all_parts (map (split g H) trees) → (t : Rooted) × (t ∈ trees) × (p ∈ (split g H t).parts)
  unfolding all_parts
  of_all_parts trees m = of_picked (λ (s : Pieces). s.parts) g H trees m

  -- What is left of all trees is left of one of them.
  pub of_all_left : {e : ℕ} (trees : List Rooted) → e ∈ all_left (map (split g H) trees) → (t : Rooted) × (t ∈ trees) × (e ∈ (split g H t).left)
  unfolding all_left
  of_all_left trees m = of_picked (λ (s : Pieces). s.left) g H trees m

-- Each edge stands in the parts and among those left of all trees as often as in the trees.
pub trees_exact : (g : Graph) (H : ℕ) (trees : List Rooted) (e : ℕ)
    → times e (entry_edges (all_parts (map (split g H) trees))) + times e (all_left (map (split g H) trees)) ≡ times e (all_edges trees)
unfolding all_parts all_left all_edges flat entry_edges
trees_exact g H [] e = omega (arith, times_none e)
trees_exact g H (t ∷ ts) e =
    let rest = map (split g H) ts in
    let pieces = split g H t in
    omega (
      arith,
      tree_exact g H t e,
      trees_exact g H ts e,
      times_part_edges e pieces.parts (all_parts rest),
      times_append e pieces.left (all_left rest),
      times_append e (branch_edges t.branches) (all_edges ts),
    )

-- So it stands there at most once.
pub forest_split_once : (g : Graph) (H : ℕ) (edges roots : List ℕ) (e : ℕ)
    → times e (entry_edges (all_parts (map (split g H) (grow g edges roots)))) + times e (all_left (map (split g H) (grow g edges roots))) ≤ 1
forest_split_once g H edges roots e = omega (arith, trees_exact g H (grow g edges roots) e, edge_at_most_once g edges roots e)
