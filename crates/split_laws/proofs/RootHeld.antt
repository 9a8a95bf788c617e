-- The root of a tree among its edges and its parts: every edge of a tree is linked to the root by the tree's edges; and where a tree has parts and
-- nothing is left of it, one of the parts has an edge at the root.
-- Assumes nothing.
use Prim.Native.Nat.{ℕ}
use mathlib.Core.Path.{◌≡◌, refl, subst}
use mathlib.Core.List.Memᴰ
use mathlib.Core.List.{[]}
use mathlib.Core.Logic.{◌⊎◌, inl, inr}
use native.Mathlib.Omega.{arith}
use Rattle.lists.specs.Member.{◌∈◌}
use Rattle.lists.proofs.Times.{in_times, times_in}
use Rattle.graph.specs.Graph.{Graph}
use Rattle.rules.specs.Walk.{Joins}
use Rattle.rules.specs.Cover.{Tree}
use Rattle.rules.specs.Grow.{Branches, Rooted, branch_edges}
use Rattle.rules.specs.Split.{split_at, split}
use Rattle.rules.proofs.Linked.{linked_more}
use Rattle.rules.proofs.Joined.{JoinedTo}
use Rattle.split_laws.proofs.Along.{Hangs, bare, fork}
use Rattle.split_laws.proofs.Exact.{left_edge_from}
use Rattle.split_laws.proofs.Weights.{all_left}
use Rattle.split_laws.proofs.Connected.{left_connected}
use Rattle.split_laws.proofs.SplitTree.{tree_split}

-- Every edge of branches that hang at v is linked to v by their edges: with threshold 0 all of them are left, and what is left is connected.
pub branches_joined : {g : Graph} {v : ℕ} {b : Branches} → Hangs g v b → JoinedTo g v (branch_edges b)
branches_joined {g} {v} {b} hangs e m =
    linked_more (λ f n. left_edge_from g 0 v [] b n) (left_connected g 0 v [] b hangs (λ f n. absurd (Memᴰ.not-nil n)) e left)
  where
    left : e ∈ (split_at g 0 v [] b).left
    left = times_in e (split_at g 0 v [] b).left (omega (arith, all_left g v [] b e, in_times m))

-- Branches have an edge at their vertex, or are none and have no parts.
top : {g : Graph} {v : ℕ} {b : Branches} (H : ℕ) → Hangs g v b → ((e far : ℕ) × (e ∈ branch_edges b) × Joins g e v far) ⊎ ((split_at g H v [] b).parts ≡ [])
unfolding branch_edges split_at
top H bare = inr refl
top H (fork {e = e} {child = child} j x y) = inl (e, child, Memᴰ.head refl, j)

-- Where a tree has parts and nothing is left of it, one of the parts has an edge at the root.
pub root_in_part : (g : Graph) (H : ℕ) (t : Rooted) → Hangs g t.root t.branches → {p : Tree} → p ∈ (split g H t).parts → (split g H t).left ≡ []
    → (part : Tree) × (part ∈ (split g H t).parts) × ((e far : ℕ) × (e ∈ part.edges) × Joins g e t.root far)
unfolding split
root_in_part g H t hangs {p} m none_left = go (top H hangs)
  where
    Found : Type 0
    Found = (part : Tree) × (part ∈ (split_at g H t.root [] t.branches).parts) × ((e far : ℕ) × (e ∈ part.edges) × Joins g e t.root far)

    in_part_lem : (e far : ℕ) → Joins g e t.root far
        → ((part : Tree) × (part ∈ (split_at g H t.root [] t.branches).parts) × (e ∈ part.edges)) ⊎ (e ∈ (split_at g H t.root [] t.branches).left) → Found
    in_part_lem e far j (inl (part, i, n)) = (part, i, (e, far, n, j))
    in_part_lem e far j (inr n) = absurd (Memᴰ.not-nil (subst (λ l. e ∈ l) none_left n))

    go : ((e far : ℕ) × (e ∈ branch_edges t.branches) × Joins g e t.root far) ⊎ ((split_at g H t.root [] t.branches).parts ≡ []) → Found
    go (inl (e, far, n, j)) = in_part_lem e far j ((tree_split g H t hangs).kept n)
    go (inr q) = absurd (Memᴰ.not-nil (subst (λ l. p ∈ l) q m))
