-- Where the piece left at a root, its part and the path to it are marked, the edges kept are those of the union's tree.
-- Assumes nothing.
use Prim.Native.Nat.{ℕ, ◌+◌, ◌≤◌, ◌<◌}
use mathlib.Core.Path.{◌≡◌, refl, sym, ap, ◌∙◌}
use mathlib.Core.Bool.{cond, or_comm}
use mathlib.Core.List.{List, [], ◌++◌}
use native.Mathlib.Omega.{arith}
use lib.ListN.{length, get_or, replicate, length-append, length-replicate}
use lib.Dec.{eqb}
use Rattle.lists.specs.Lists.{filter, any, member}
use Rattle.lists.specs.Segments.{segment}
use Rattle.lists.proofs.AnyOn.{any_on}
use Rattle.lists.proofs.InOrder.{filter_in_order}
use Rattle.lists.proofs.Lengths.{length_within}
use Rattle.lists.proofs.Member.{member_in, of_filter}
use Rattle.lists.proofs.Zeros.{zeros_at}
use Rattle.graph.specs.Graph.{Graph, edge_count}
use Rattle.graph.specs.Valid.{Valid}
use Rattle.matching.specs.Assignment as assigned
use Rattle.rules.specs.Order.{ordered}
use Rattle.forest_laws.proofs.Ordering.{ordered_once}
use Rattle.edges.specs.Marked.{Marked}
use Rattle.rooted_cover.specs.Tree.{EdgesMarked, most_in_piece, most_on_path, AssignedMarked, TreeKept, RootWritten}
use Rattle.unions.proofs.TreeMarks.{marked_both}
use Rattle.unions.proofs.UnionEdges.{marked_union, union_edges}

member_swap : (e : ℕ) (xs ys : List ℕ) → member e (xs ++ ys) ≡ member e (ys ++ xs)
unfolding member
member_swap e xs ys = any_on (eqb e) xs ys ∙ or_comm (any (eqb e) xs) (any (eqb e) ys) ∙ sym (any_on (eqb e) ys xs)

-- Nothing is marked for no edges.
pub marked_none : (a : List ℕ) → EdgesMarked [] a a (most_in_piece + most_on_path) 0
unfolding member any
marked_none a = record { marks = record { size = refl; each = λ j h. refl }; count = refl; within = omega arith }

module _ {g : Graph} (valid : Valid g) (union : List ℕ) {marks : List ℕ} (marked : Marked (λ e. member e union) (replicate 2048 0) marks) where
  -- The marks of the graph's edges say which are in the union,
  mark_says : (e : ℕ) → e < edge_count g → get_or marks e 0 ≡ cond (member e union) 1 0
  mark_says e h =
      marked.each e (omega (arith, valid.edges_most, length-replicate {A = ℕ} 2048 0)) ∙ ap (cond (member e union) 1) (zeros_at 2048 e)

  -- so that no more edges are marked than the union has.
  marked_few : length (filter (assigned.marked marks) (ordered g)) ≤ length union
  marked_few =
      rw (marked_union g union marks mark_says)
      (length_within (filter_in_order (λ e. member e union) (ordered_once g)) (λ e m. member_in e union (of_filter (λ e. member e union) (ordered g) m).1))

module _ {g : Graph} (valid : Valid g) {dist last : List ℕ} {root : ℕ} {starts cuts members places assignment : List ℕ} {j : ℕ} (left : ℕ) {a b : List ℕ} {s t : ℕ}
    (m : EdgesMarked (segment cuts members left) (replicate 2048 0) a most_in_piece s) (n : AssignedMarked g dist last root starts cuts members places assignment j a b t) where
  all_marked : Marked (λ e. member e (segment cuts members left ++ n.edges)) (replicate 2048 0) b
  all_marked = marked_both (segment cuts members left) n.edges m.marks n.marks.marks

  pub root_few : length (filter (assigned.marked b) (ordered g)) ≤ s + t
  root_few =
      omega (arith, marked_few valid (segment cuts members left ++ n.edges) all_marked, length-append (segment cuts members left) n.edges, m.count, n.marks.count)

  pub root_written : {before after : List ℕ} {r : ℕ} → TreeKept g b before after r
      → RootWritten g dist last root starts cuts members left places assignment j before after r
  root_written t =
      let edges = n.edges in
      let each : (e : ℕ) → e < edge_count g → get_or b e 0 ≡ cond (member e (edges ++ segment cuts members left)) 1 0 =
      λ e h. mark_says valid (segment cuts members left ++ edges) all_marked e h ∙ ap (λ t. cond t 1 0) (member_swap e (segment cuts members left) edges) in
      record {
        edges = edges;
        assigned = n.are;
        written = rw (union_edges g root (edges ++ segment cuts members left) b each) at t.kept;
        fewer = t.fewer;
      }
