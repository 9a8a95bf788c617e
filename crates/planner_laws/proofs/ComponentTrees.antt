-- The trees of a component: each is a part or what is left at the root, started anew at its lowest vertex. A leftover is dropped only
-- where it has no edges and there are parts. All are made of the forest's edges.
-- Assumes nothing.
use Prim.Native.Nat.{ℕ, ◌*◌}
use mathlib.Core.Path.{◌≡◌, refl}
use mathlib.Core.List.Memᴰ
use mathlib.Core.List.{List, [], ◌∷◌, ◌++◌}
use mathlib.Core.Logic.{◌⊎◌, inl, inr}
use Rattle.lists.specs.Member.{◌∈◌}
use Rattle.lists.specs.Sort.{rise}
use Rattle.lists.proofs.Member.{in_map, of_map}
use Rattle.lists.proofs.Sorting.{of_rise}
use Rattle.graph.specs.Graph.{Graph}
use Rattle.rules.specs.Cover.{Tree}
use Rattle.rules.specs.Labels.{apart}
use Rattle.rules.specs.Forest.{forest}
use Rattle.rules.specs.Grow.{Rooted}
use Rattle.rules.specs.Split.{split}
use Rattle.rules.specs.UnrootedTrial.{components, leftovers, from_lowest, component_trees}
use Rattle.split_laws.proofs.SplitTree.{IsSplit, tree_split}
use Rattle.planner_laws.proofs.ComponentEdges.{component_hangs, component_edge}

-- What is left at the root, as a tree.
abbrev pub leftover_at : ℕ → List ℕ → Tree
leftover_at root left = record { start = root; edges = rise left }

module _ (root : ℕ) where
  -- The one tree that may be a leftover,
  of_leftovers : {u : Tree} (parts : List Tree) (left : List ℕ) → u ∈ leftovers root parts left → u ≡ leftover_at root left
  unfolding leftovers
  of_leftovers [] left m = Memᴰ.eq_of_singleton m
  of_leftovers (p ∷ ps) [] m = absurd (Memᴰ.not-nil m)
  of_leftovers (p ∷ ps) (e ∷ es) m = Memᴰ.eq_of_singleton m

  -- which is one, or else there is a part and no edge is left.
  in_leftovers : (parts : List Tree) (left : List ℕ) → (leftover_at root left ∈ leftovers root parts left) ⊎ (((p : Tree) × (p ∈ parts)) × (left ≡ []))
  unfolding leftovers
  in_leftovers [] left = inl (Memᴰ.head refl)
  in_leftovers (p ∷ ps) [] = inr ((p, Memᴰ.head refl), refl)
  in_leftovers (p ∷ ps) (e ∷ es) = inl (Memᴰ.head refl)

-- The parts of a component's tree, and the tree of what is left at its root.
abbrev pub component_parts : Graph → ℕ → Rooted → List Tree
component_parts g limit t = (split g (2 * limit) t).parts

abbrev pub component_leftover : Graph → ℕ → Rooted → Tree
component_leftover g limit t = leftover_at t.root (split g (2 * limit) t).left

-- The leftover is dropped: there is a part, and no edge is left.
abbrev pub Dropped : Graph → ℕ → Rooted → Type 0
Dropped g limit t = ((p : Tree) × (p ∈ component_parts g limit t)) × ((split g (2 * limit) t).left ≡ [])

module _ (g : Graph) (limit : ℕ) (t : Rooted) where
  rest : List Tree
  rest = leftovers t.root (component_parts g limit t) (split g (2 * limit) t).left

  -- A part, started anew, is a tree of the component;
  pub part_stands : {p : Tree} → p ∈ component_parts g limit t → from_lowest g p ∈ component_trees g limit t
  unfolding component_trees rest
  part_stands m = in_map (from_lowest g) (Memᴰ.append_left rest m)

  -- so is what is left, or else it is dropped;
  pub leftover_stands : (from_lowest g (component_leftover g limit t) ∈ component_trees g limit t) ⊎ Dropped g limit t
  unfolding component_trees
  leftover_stands = go (in_leftovers t.root (component_parts g limit t) (split g (2 * limit) t).left)
    where
      go : {A : Type 0} → (component_leftover g limit t ∈ leftovers t.root (component_parts g limit t) (split g (2 * limit) t).left) ⊎ A
          → (from_lowest g (component_leftover g limit t) ∈ component_trees g limit t) ⊎ A
      go (inl m) = inl (in_map (from_lowest g) (Memᴰ.append_right (component_parts g limit t) m))
      go (inr p) = inr p

  -- and every tree of the component is one of these.
  pub part_or_leftover : {u : Tree} → u ∈ component_trees g limit t → (p : Tree) × (u ≡ from_lowest g p) × ((p ∈ component_parts g limit t) ⊎ (p ≡ component_leftover g limit t))
  unfolding component_trees rest
  part_or_leftover m = let (p, n, q) = of_map (from_lowest g) (component_parts g limit t ++ rest) m in (p, q, go (Memᴰ.append_cases (component_parts g limit t) n))
    where
      go : {p : Tree} → (p ∈ component_parts g limit t) ⊎ (p ∈ rest) → (p ∈ component_parts g limit t) ⊎ (p ≡ component_leftover g limit t)
      go (inl i) = inl i
      go (inr i) = inr (of_leftovers t.root (component_parts g limit t) (split g (2 * limit) t).left i)

module _ (g : Graph) (limit : ℕ) {t : Rooted} (m : t ∈ components g limit) where
  -- The component's tree, split:
  pub component_split : IsSplit g (2 * limit) t (split g (2 * limit) t)
  component_split = tree_split g (2 * limit) t (component_hangs g limit m)

  -- its parts and its leftover are made of the forest's edges.
  pub part_known : {p : Tree} → p ∈ component_parts g limit t → (e : ℕ) → e ∈ p.edges → e ∈ forest g apart limit
  part_known n e i = component_edge g limit m (component_split.part_edges n i)

  pub leftover_known : (e : ℕ) → e ∈ (component_leftover g limit t).edges → e ∈ forest g apart limit
  leftover_known e i = component_edge g limit m (component_split.left_edges (of_rise (split g (2 * limit) t).left i))
