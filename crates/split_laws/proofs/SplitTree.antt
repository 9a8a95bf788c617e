-- Splitting one rooted tree: what was shown of branches, gathered for `split`.
-- Assumes nothing.
use Prim.Native.Nat.{ℕ, ◌+◌, ◌*◌, ◌≤◌, ◌<◌}
use mathlib.Core.Path.{◌≡◌}
use mathlib.Core.List.Memᴰ
use mathlib.Core.List.{[], ◌∷◌}
use mathlib.Core.Logic.{◌⊎◌}
use native.Mathlib.Omega.{arith}
use Rattle.lists.specs.Lists.{times}
use Rattle.lists.specs.Member.{◌∈◌}
use Rattle.lists.proofs.Times.{times_none}
use Rattle.graph.specs.Graph.{Graph, weight_of}
use Rattle.rules.specs.Walk.{total_weight}
use Rattle.rules.specs.Cover.{Tree, tree_weight}
use Rattle.rules.specs.Grow.{Branches, Rooted, branch_edges}
use Rattle.rules.specs.Split.{Pieces, split}
use Rattle.rules.specs.CoverBytes.{entry_edges}
use Rattle.rules.proofs.Joined.{JoinedTo}
use Rattle.split_laws.proofs.Along.{Hangs, children}
use Rattle.split_laws.proofs.Exact.{split_exact, split_weight, edge_kept, part_edge_from, left_edge_from}
use Rattle.split_laws.proofs.Weights.{weight_none, part_heavy, part_light, left_light, part_sharp}
use Rattle.split_laws.proofs.Connected.{Connected, parts_connected, left_connected}

-- Each edge stands in the parts and among those left as often as in the tree.
pub tree_exact : (g : Graph) (H : ℕ) (t : Rooted) (e : ℕ) → times e (entry_edges (split g H t).parts) + times e (split g H t).left ≡ times e (branch_edges t.branches)
unfolding split
tree_exact g H t e = omega (arith, split_exact g H t.root [] t.branches e, times_none e)

-- What splitting a rooted tree gives.
pub record IsSplit (g : Graph) (H : ℕ) (t : Rooted) (pieces : Pieces) : Type 0 where
  -- every edge of the tree stands in the parts and among those left as often as in the tree, so that together they weigh what it weighs
  pub exact : (e : ℕ) → times e (entry_edges pieces.parts) + times e pieces.left ≡ times e (branch_edges t.branches)
  pub weight : total_weight g (entry_edges pieces.parts) + total_weight g pieces.left ≡ total_weight g (branch_edges t.branches)
  pub kept : {e : ℕ} → e ∈ branch_edges t.branches → ((p : Tree) × (p ∈ pieces.parts) × (e ∈ p.edges)) ⊎ (e ∈ pieces.left)
  pub part_edges : {e : ℕ} {p : Tree} → p ∈ pieces.parts → e ∈ p.edges → e ∈ branch_edges t.branches
  pub left_edges : {e : ℕ} → e ∈ pieces.left → e ∈ branch_edges t.branches
  -- a part weighs at least H, and where no edge weighs more than H it weighs less than 2 H, and what is left less than H;
  -- where every edge weighs less than H, a part weighs at most 2 H - 2
  pub heavy : {p : Tree} → p ∈ pieces.parts → H ≤ tree_weight g p
  pub light : 1 ≤ H → ((e : ℕ) → e ∈ branch_edges t.branches → weight_of g e ≤ H) → {p : Tree} → p ∈ pieces.parts → tree_weight g p < 2 * H
  pub left_below : 1 ≤ H → ((e : ℕ) → e ∈ branch_edges t.branches → weight_of g e ≤ H) → total_weight g pieces.left < H
  pub sharp : 1 ≤ H → ((e : ℕ) → e ∈ branch_edges t.branches → weight_of g e < H) → {p : Tree} → p ∈ pieces.parts → tree_weight g p + 2 ≤ 2 * H
  -- parts are connected, each at a vertex of the tree, and what is left is connected at the root
  pub connected : {p : Tree} → p ∈ pieces.parts → Connected g (λ x. x ∈ (t.root ∷ children t.branches)) p
  pub left_joined : JoinedTo g t.root pieces.left

-- A tree that hangs at its root is split so.
pub tree_split : (g : Graph) (H : ℕ) (t : Rooted) → Hangs g t.root t.branches → IsSplit g H t (split g H t)
unfolding split
tree_split g H t hangs = record {
  exact = tree_exact g H t;
  weight = omega (arith, split_weight g H r [] b, weight_none g);
  kept = edge_kept g H r [] b;
  part_edges = part_edge_from g H r [] b;
  left_edges = left_edge_from g H r [] b;
  heavy = part_heavy g H r [] b;
  light = λ above each m. part_light g H r [] b above (omega (arith, weight_none g)) each m;
  left_below = λ above each. left_light g H r [] b above (omega (arith, weight_none g)) each;
  sharp = λ above each m. part_sharp g H r [] b above (omega (arith, weight_none g)) each m;
  connected = parts_connected g H r [] b hangs none_joined;
  left_joined = left_connected g H r [] b hangs none_joined;
}
  where
    r : ℕ
    r = t.root

    b : Branches
    b = t.branches

    none_joined : JoinedTo g t.root []
    none_joined e m = absurd (Memᴰ.not-nil m)
