-- Several roots at one vertex (document 02, A.5): "What is left at a stop goes to its lowest-numbered van." Where an earlier root is the same vertex,
-- nothing is left at root j: its tree is a part and a path to it, or has no edges. Nothing is asked of the graph or the roots.
-- Assumes nothing.
use Prim.Native.Nat.{ℕ, ◌<◌}
use mathlib.Core.Path.{◌≡◌, refl, ap, ◌∙◌}
use mathlib.Core.Bool.{false}
use mathlib.Core.List.Memᴰ
use mathlib.Core.List.{List, [], ◌++◌, append-nil}
use lib.ListN.{length, get_or, get_or-map}
use lib.Dec.{eqb}
use borrow.Author.Tests.{ne_eqb}
use Rattle.lists.specs.Count.{below}
use Rattle.lists.specs.Lists.{flat, member, any}
use Rattle.lists.specs.Member.{◌∈◌}
use Rattle.lists.specs.Sort.{rise, sort_by}
use Rattle.lists.proofs.Below.{of_below}
use Rattle.lists.proofs.Filters.{filter_none}
use Rattle.lists.proofs.Runs.{get_or_map_below}
use Rattle.graph.specs.Graph.{Graph}
use Rattle.rules.specs.Cover.{Tree}
use Rattle.rules.specs.Order.{ordered}
use Rattle.rules.specs.Labels.{together}
use Rattle.rules.specs.Forest.{keep, forest}
use Rattle.rules.specs.Grow.{none, Rooted, grow_from, grow}
use Rattle.rules.specs.Split.{Pieces, split_at, split, all_parts}
use Rattle.rules.specs.RootedTrial.{Choices, rooted_pieces, rooted_parts, left_at, assigned_edges, union_tree, rooted_cover}
use Rattle.split_laws.proofs.Repeats.{branchless, again_bare}

-- No pieces, which is what a root without branches has.
abbrev no_pieces : Pieces
no_pieces = record { parts = []; left = [] }

branchless_split : (g : Graph) (H : ℕ) (t : Rooted) → t.branches ≡ none → split g H t ≡ no_pieces
unfolding split split_at
branchless_split g H t q = rw q refl

-- A tree of no edges.
union_none : (g : Graph) (r : ℕ) → union_tree g r [] ≡ record { start = r; edges = [] }
unfolding union_tree member any keep rise sort_by
union_none g r = rw (filter_none (λ (e : ℕ). false) (ordered g) (λ e m. refl)) refl

-- No edges where no part is the root's.
none_assigned : (parts : List Tree) (c : Choices) (j : ℕ) → ((i : ℕ) → i < length parts → get_or c.assignment i 0 ≡ j → ⊥) → assigned_edges parts c j ≡ []
unfolding assigned_edges flat
none_assigned parts c j out =
    rw (filter_none (λ i. eqb (get_or c.assignment i 0) j) (below (length parts)) (λ i m. ne_eqb (get_or c.assignment i 0) j (out i (of_below (length parts) m)))) refl

-- Root j is the vertex of an earlier root i.
pub record Again (roots : List ℕ) (i j : ℕ) : Type 0 where
  pub earlier : i < j
  pub listed : j < length roots
  pub same : get_or roots i 0 ≡ get_or roots j 0

module _ (g : Graph) (roots : List ℕ) (limit : ℕ) where
  module _ {i j : ℕ} (again : Again roots i j) where
    abbrev edges : List ℕ
    edges = rise (forest g (together roots) limit)

    again_no_pieces : get_or (rooted_pieces g roots limit) j no_pieces ≡ no_pieces
    unfolding rooted_pieces grow split split_at
    again_no_pieces =
        get_or-map (split g limit) (grow_from g edges roots []) j branchless
        ∙ branchless_split g limit (get_or (grow_from g edges roots []) j branchless) (again_bare g edges roots [] i j again.earlier again.listed again.same)

    -- Nothing is left at it,
    pub again_nothing_left : left_at (rooted_pieces g roots limit) j ≡ []
    unfolding left_at
    again_nothing_left = ap (λ (s : Pieces). s.left) again_no_pieces

    -- so that its tree is its part and the path to it,
    pub again_tree : (c : Choices) (d : Tree)
        → get_or (rooted_cover g roots limit c) j d ≡ union_tree g (get_or roots j 0) (assigned_edges (rooted_parts g roots limit) c j)
    unfolding rooted_cover rooted_parts
    again_tree c d =
        get_or_map_below (λ k. union_tree g (get_or roots k 0) (assigned_edges (all_parts (rooted_pieces g roots limit)) c k ++ left_at (rooted_pieces g roots limit) k)) d (length roots) j again.listed
        ∙ ap (union_tree g (get_or roots j 0))
        (ap (λ (left : List ℕ). assigned_edges (all_parts (rooted_pieces g roots limit)) c j ++ left) again_nothing_left
        ∙ append-nil (assigned_edges (all_parts (rooted_pieces g roots limit)) c j))

    -- or, where it has no part, has no edges.
    pub again_empty : (c : Choices) (d : Tree) → ((k : ℕ) → k < length (rooted_parts g roots limit) → get_or c.assignment k 0 ≡ j → ⊥)
        → get_or (rooted_cover g roots limit c) j d ≡ record { start = get_or roots j 0; edges = [] }
    again_empty c d out =
        again_tree c d ∙ ap (union_tree g (get_or roots j 0)) (none_assigned (rooted_parts g roots limit) c j out) ∙ union_none g (get_or roots j 0)

  -- "What is left at a stop goes to its lowest-numbered van": where an edge is left at root j, no earlier root is the same vertex.
  pub left_at_lowest : {i j e : ℕ} → e ∈ left_at (rooted_pieces g roots limit) j → Again roots i j → ⊥
  left_at_lowest m again = Memᴰ.not-nil (rw (again_nothing_left again) at m)
