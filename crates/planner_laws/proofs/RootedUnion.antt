-- The union of which the tree of a root is made: the root's part, the path to it and what is left at the root. It hangs together at the root
-- and weighs at most 4 B - 2.
-- Assumes nothing.
use Prim.Native.Nat.{ℕ, ◌*◌, ◌-◌, ◌≤◌, ◌<◌}
use mathlib.Core.Path.{◌≡◌, refl}
use mathlib.Core.Bool.{true}
use mathlib.Core.List.Memᴰ
use mathlib.Core.List.{List, [], ◌++◌}
use mathlib.Core.Logic.{◌⊎◌, inl, inr}
use native.Mathlib.Omega.{arith}
use native.Mathlib.Nat.{mul-le-mul_right}
use lib.ListN.{length, get_or}
use borrow.Author.Tests.{eq-eqb}
use Rattle.lists.specs.Count.{count}
use Rattle.lists.specs.Member.{◌∈◌}
use Rattle.lists.proofs.Chosen.{in_chosen, of_chosen, chosen_most}
use Rattle.graph.specs.Graph.{Graph, weight_of, one_end}
use Rattle.rules.specs.Walk.{Linked, total_weight}
use Rattle.rules.specs.Cover.{Tree}
use Rattle.rules.specs.RootedTrial.{Choices, rooted_pieces, rooted_parts, part_of, assigned_edges, left_at}
use Rattle.rules.proofs.Linked.{linked_more}
use Rattle.rules.proofs.Joined.{JoinedTo}
use Rattle.split_laws.proofs.Weights.{weight_append}
use Rattle.planner_laws.proofs.RootedPieces.{rooted_left}
use Rattle.planner_laws.proofs.RootedAssigned.{AcceptedAt, part_with_path, goes_to, part_hangs, part_path_light, part_alone}

module _ (g : Graph) (roots : List ℕ) (limit : ℕ) (c : Choices) where
  abbrev parts : List Tree
  parts = rooted_parts g roots limit

  -- The root's part with the path to it, what is left at the root, and the union of both.
  abbrev assigned_at : ℕ → List ℕ
  assigned_at j = assigned_edges parts c j

  abbrev left_over : ℕ → List ℕ
  left_over j = left_at (rooted_pieces g roots limit) j

  abbrev pub union_at : ℕ → List ℕ
  union_at j = assigned_at j ++ left_over j

  -- A part that goes to a root is there with its path, and nothing else is.
  in_assigned : {i : ℕ} (j : ℕ) → i < length parts → goes_to g roots limit c j i ≡ true → {e : ℕ} → e ∈ part_with_path g roots limit c i → e ∈ assigned_at j
  unfolding assigned_edges
  in_assigned {i} j h is m = in_chosen (part_with_path g roots limit c) (goes_to g roots limit c j) (length parts) i h is m

  of_assigned : (j : ℕ) {e : ℕ} → e ∈ assigned_at j → (i : ℕ) × (i < length parts) × (goes_to g roots limit c j i ≡ true) × (e ∈ part_with_path g roots limit c i)
  unfolding assigned_edges
  of_assigned j m = of_chosen (part_with_path g roots limit c) (goes_to g roots limit c j) (length parts) m

  -- A part's edges are in the union at the root that the part goes to.
  pub part_in_union : (i : ℕ) → i < length parts → {e : ℕ} → e ∈ (part_of parts i).edges → e ∈ union_at (get_or c.assignment i 0)
  part_in_union i h m =
      let j : ℕ = get_or c.assignment i 0 in
      Memᴰ.append_left (left_over j) (in_assigned j h (eq-eqb j j refl) (Memᴰ.append_left (get_or c.paths i []) m))

  -- What is left at a root is in its union.
  pub left_in_union : (j : ℕ) {e : ℕ} → e ∈ left_over j → e ∈ union_at j
  left_in_union j m = Memᴰ.append_right (assigned_at j) m

  module _ (accepted : AcceptedAt g roots limit c) (j : ℕ) (is_root : j < length roots) where
    -- The union hangs together at the root.
    pub union_hangs : JoinedTo g (get_or roots j 0) (union_at j)
    union_hangs e m = go (Memᴰ.append_cases (assigned_at j) m)
      where
        go : (e ∈ assigned_at j) ⊎ (e ∈ left_over j) → Linked g (union_at j) (get_or roots j 0) (one_end g e)
        go (inl n) =
            let (i, h, is, k) = of_assigned j n in
            linked_more (λ f d. Memᴰ.append_left (left_over j) (in_assigned j h is d)) (part_hangs g roots limit c accepted i j h is e k)
        go (inr n) = linked_more (λ f d. left_in_union j d) ((rooted_left g roots limit j is_root).joined e n)

    -- The part and the path weigh less than three times the limit.
    assigned_light : total_weight g (assigned_at j) ≤ 3 * limit - 1
    unfolding assigned_edges total_weight
    assigned_light =
        let n : ℕ = count (length parts) (goes_to g roots limit c j) in
        omega (
          arith,
          chosen_most (part_with_path g roots limit c) (goes_to g roots limit c j) (length parts) (weight_of g) (3 * limit - 1)
              (λ i h is. part_path_light g roots limit c accepted i j h is),
          mul-le-mul_right {m = n} {n = 1} (3 * limit - 1) (part_alone g roots limit c accepted j),
        )

    -- The union weighs at most 4 B - 2.
    pub union_light : total_weight g (union_at j) ≤ 4 * limit - 2
    union_light = omega (arith, weight_append g (assigned_at j) (left_over j), assigned_light, (rooted_left g roots limit j is_root).light)
