-- How many parts there are: each weighs at least H, so that H times their number is at most the weight of the branches.
-- With threshold 2 B that is at most one tree for each 2 B of a component's weight, and one more: what the component needs.
-- Assumes nothing.
use Prim.Native.Nat.{ℕ, zero, suc, ◌+◌, ◌*◌, ◌/◌, ◌≤◌, ◌<◌}
use mathlib.Core.Path.{◌≡◌}
use mathlib.Core.List.{List, [], ◌∷◌, ◌++◌}
use native.Mathlib.Omega.{arith}
use native.Mathlib.Nat.{le-div_iff_mul-le}
use lib.ListN.{length, length-append, length-map}
use Rattle.lists.specs.Member.{◌∈◌}
use Rattle.lists.proofs.Bounds.{sum_least}
use Rattle.lists.proofs.SumsAlike.{sum_flat_map}
use Rattle.graph.specs.Graph.{Graph}
use Rattle.rules.specs.Walk.{total_weight}
use Rattle.rules.specs.Cover.{Tree, tree_weight}
use Rattle.rules.specs.Grow.{Branches, Rooted, branch_edges}
use Rattle.rules.specs.Split.{split_at, split}
use Rattle.rules.specs.UnrootedTrial.{needs, leftovers, from_lowest, component_trees}
use Rattle.rules.specs.CoverBytes.{entry_edges}
use Rattle.split_laws.proofs.Exact.{split_weight}
use Rattle.split_laws.proofs.Weights.{weight_none, part_heavy, no_parts}

-- Trees that weigh at least H each weigh together at least H times their number.
pub heavy_together : (g : Graph) (H : ℕ) (trees : List Tree) → ((t : Tree) → t ∈ trees → H ≤ tree_weight g t) → length trees * H ≤ total_weight g (entry_edges trees)
unfolding entry_edges tree_weight total_weight
heavy_together g H trees each = rw sum_flat_map (sum_least (tree_weight g) H trees each)

-- H times the number of parts is at most the weight of the bunch and the branches.
pub parts_few : (g : Graph) (H v : ℕ) (bunch : List ℕ) (b : Branches) → length (split_at g H v bunch b).parts * H ≤ total_weight g bunch + total_weight g (branch_edges b)
parts_few g H v bunch b =
    omega (arith, heavy_together g H (split_at g H v bunch b).parts (λ t m. part_heavy g H v bunch b m), split_weight g H v bunch b)

-- A tree of weight w has at most w / 2 B parts.
pub split_few : (g : Graph) (B : ℕ) (t : Rooted) → 1 ≤ B → length (split g (2 * B) t).parts ≤ total_weight g (branch_edges t.branches) / (2 * B)
unfolding split
split_few g B t h =
    let above : 0 < 2 * B = omega arith in
    (le-div_iff_mul-le above).1 (omega (arith, parts_few g (2 * B) t.root [] t.branches, weight_none g))

one_leftover : (root : ℕ) (parts : List Tree) (left : List ℕ) → length (leftovers root parts left) ≤ 1
unfolding leftovers
one_leftover root [] left = omega arith
one_leftover root (p ∷ ps) [] = omega arith
one_leftover root (p ∷ ps) (e ∷ es) = omega arith

-- At limit 0 a component has one tree.
pub one_tree : (g : Graph) (t : Rooted) → length (component_trees g 0 t) ≡ 1
unfolding component_trees split leftovers
one_tree g t = rw (no_parts g t.root [] t.branches)

-- A component has at most as many trees as it needs.
pub trees_few : (g : Graph) (B : ℕ) (t : Rooted) → length (component_trees g B t) ≤ needs g B t
unfolding component_trees needs
trees_few g zero t = omega (arith, one_tree g t)
trees_few g (suc n) t =
    let pieces = split g (2 * suc n) t in
    let rest = leftovers t.root pieces.parts pieces.left in
    omega (arith, length-map (pieces.parts ++ rest) (from_lowest g), length-append pieces.parts rest, one_leftover t.root pieces.parts pieces.left, split_few g (suc n) t (omega arith))
