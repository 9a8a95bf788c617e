-- What an assignment gives a root: a part and a shortest path to it. The path leads from the root to a vertex of the part, so that both hang
-- together at the root, and it is within the limit, since the part may go there. A root gets one part at most.
-- Assumes nothing.
use Prim.Native.Nat.{ℕ, ◌*◌, ◌-◌, ◌≤◌, ◌<◌}
use mathlib.Core.Path.{◌≡◌, sym, ◌∙◌}
use mathlib.Core.Bool.{Bool, true}
use mathlib.Core.List.Memᴰ
use mathlib.Core.List.{List, [], ◌++◌}
use mathlib.Core.Logic.{◌⊎◌, inl, inr}
use mathlib.Core.Option.{none}
use native.Mathlib.Omega.{arith}
use lib.Dec.{eqb}
use lib.ListN.{length, get_or}
use borrow.Author.Tests.{eqb-true}
use Rattle.lists.specs.Count.{count}
use Rattle.lists.specs.Member.{◌∈◌}
use Rattle.lists.proofs.Fewer.{count_alone}
use Rattle.lists.proofs.Places.{at_place}
use Rattle.graph.specs.Graph.{Graph, one_end}
use Rattle.graph.specs.Valid.{Valid}
use Rattle.matching.specs.Assignment.{IsAssignment}
use Rattle.rules.specs.Walk.{Linked, total_weight}
use Rattle.rules.specs.Cover.{Tree, tree_weight}
use Rattle.rules.specs.Distance.{IsShortestPath}
use Rattle.rules.specs.RootedTrial.{Choices, GoodChoices, unjoined_at, rooted_parts, part_of, may_go, is_assignable}
use Rattle.rules.proofs.Linked.{linked_on, linked_back, linked_more}
use Rattle.rules.proofs.Joined.{JoinedTo, walk_linked, walk_joined, joined_covers}
use Rattle.rules.proofs.TreeVertices.{stands_covered}
use Rattle.distance_laws.proofs.Shortest.{reaches_shortest}
use Rattle.split_laws.proofs.Weights.{weight_append}
use Rattle.planner_laws.proofs.RootedPieces.{IsPart, part_at}

-- A rooted question's limit is accepted: no vertex is unjoined and an assignment exists.
pub record AcceptedAt (g : Graph) (roots : List ℕ) (limit : ℕ) (c : Choices) : Type 0 where
  pub valid : Valid g
  pub some_root : 1 ≤ length roots
  pub roots_inside : (r : ℕ) → r ∈ roots → r < g.vertices
  pub all_joined_lem : unjoined_at g roots limit ≡ none
  pub assignable : is_assignable g roots limit ≡ true
  pub good : GoodChoices g roots limit c

module _ (g : Graph) (roots : List ℕ) (limit : ℕ) (c : Choices) where
  abbrev parts : List Tree
  parts = rooted_parts g roots limit

  -- The part of a number with the path to it.
  abbrev pub part_with_path : ℕ → List ℕ
  part_with_path i = (part_of parts i).edges ++ get_or c.paths i []

  -- Part i goes to root j.
  abbrev pub goes_to : ℕ → ℕ → Bool
  goes_to j i = eqb (get_or c.assignment i 0) j

  -- What is known of part i where it goes to root j.
  pub record IsAssigned (i j : ℕ) : Type 0 where
    pub part : IsPart g roots limit (part_of parts i)
    pub path : IsShortestPath g (get_or roots j 0) (part_of parts i) (get_or c.paths i [])
    pub near : total_weight g (get_or c.paths i []) ≤ limit

  module _ {i j : ℕ} (a : IsAssigned i j) where
    -- The part and the path hang together at the root,
    assigned_joined : JoinedTo g (get_or roots j 0) (part_with_path i)
    assigned_joined e m = go (Memᴰ.append_cases (part_of parts i).edges m)
      where
        along_path : {u v : ℕ} → Linked g (get_or c.paths i []) u v → Linked g (part_with_path i) u v
        along_path l = linked_more (λ f n. Memᴰ.append_right (part_of parts i).edges n) l

        in_part_lem : {u v : ℕ} → Linked g (part_of parts i).edges u v → Linked g (part_with_path i) u v
        in_part_lem l = linked_more (λ f n. Memᴰ.append_left (get_or c.paths i []) n) l

        to_start : Linked g (part_of parts i).edges a.path.end (part_of parts i).start
        to_start = linked_back (joined_covers a.part.joined (stands_covered g (part_of parts i) a.path.in_part_lem))

        go : (e ∈ (part_of parts i).edges) ⊎ (e ∈ get_or c.paths i []) → Linked g (part_with_path i) (get_or roots j 0) (one_end g e)
        go (inl n) = linked_on (along_path (walk_linked a.path.leads)) (in_part_lem (linked_on to_start (a.part.joined e n)))
        go (inr n) = along_path (walk_joined a.path.leads e n)

    -- and weigh less than three times the limit.
    assigned_light : total_weight g (part_with_path i) ≤ 3 * limit - 1
    unfolding tree_weight
    assigned_light = omega (arith, weight_append g (part_of parts i).edges (get_or c.paths i []), a.part.light, a.near)

  module _ (accepted : AcceptedAt g roots limit c) where
    assignment : IsAssignment (length parts) (length roots) (may_go g roots limit) c.assignment
    assignment = accepted.good.assigned accepted.assignable

    -- Each part goes to a root.
    pub part_goes : (i : ℕ) → i < length parts → get_or c.assignment i 0 < length roots
    part_goes i h = assignment.is_root i h

    assigned : (i j : ℕ) → i < length parts → goes_to j i ≡ true → IsAssigned i j
    unfolding may_go
    assigned i j h is = rw (← eqb-true (get_or c.assignment i 0) j is) (record { part = part_at g roots limit i h; path = path; near = near })
      where
        k : ℕ
        k = get_or c.assignment i 0

        path : IsShortestPath g (get_or roots k 0) (part_of parts i) (get_or c.paths i [])
        path = accepted.good.shortest accepted.assignable i h

        near : total_weight g (get_or c.paths i []) ≤ limit
        near = (reaches_shortest accepted.valid (accepted.roots_inside (get_or roots k 0) (at_place 0 roots k (part_goes i h))) (part_of parts i) limit path).0 (assignment.may i h)

    -- A part that goes to a root hangs there, with the path to it,
    pub part_hangs : (i j : ℕ) → i < length parts → goes_to j i ≡ true → JoinedTo g (get_or roots j 0) (part_with_path i)
    part_hangs i j h is = assigned_joined (assigned i j h is)

    -- is that light with the path,
    pub part_path_light : (i j : ℕ) → i < length parts → goes_to j i ≡ true → total_weight g (part_with_path i) ≤ 3 * limit - 1
    part_path_light i j h is = assigned_light (assigned i j h is)

    -- and is the only one there.
    pub part_alone : (j : ℕ) → count (length parts) (goes_to j) ≤ 1
    part_alone j = count_alone (length parts) (goes_to j) (λ i k hi hk pi pk. assignment.apart i k hi hk (eqb-true _ j pi ∙ sym (eqb-true _ j pk)))
