-- The trial of a rooted question at a limit (document 01, a "yard trial", steps 1 to 6).
-- Assumes nothing.
use Rattle.std.specs.Prelude.{ℕ, ◌<◌, ◌≡◌, Bool, true, false, cond, List, [], ◌++◌, map, length, get_or, leb, eqb}
use Rattle.std.proofs.Math.Option.{Option, some, none}
use Rattle.lists.specs.Count.{below}
use Rattle.lists.specs.Lists.{filter, flat, member}
use Rattle.lists.specs.Sort.{rise, sort_by}
use Rattle.graph.specs.Graph.{Graph}
use Rattle.matching.specs.Assignment.{IsAssignment, IsDeficient, marked, marked_parts, allowed_roots}
use Rattle.matching.specs.Assignable.{assignable}
use Rattle.rules.specs.Cover.{Tree, heaviest}
use Rattle.rules.specs.Order.{ordered}
use Rattle.rules.specs.Labels.{apart, together}
use Rattle.rules.specs.Forest.{keep, forest, labels_at, unjoined}
use Rattle.rules.specs.Grow.{grow}
use Rattle.rules.specs.Split.{Pieces, split, all_parts, smallest_edge}
use Rattle.rules.specs.Distance.{reaches_part, IsShortestPath}
use Rattle.rules.specs.Reply.{Reply, covered, too_low_stop, too_low_parts}

-- Step 2: the lowest vertex that the edges of weight at most the limit join to no root.
unfoldable pub unjoined_at : Graph → List ℕ → ℕ → Option ℕ
unjoined_at g roots limit = unjoined g roots (labels_at g (together roots) limit)

-- Steps 2 to 4: for each root, the parts of its tree and what is left at the root; H is the limit.
unfoldable pub rooted_pieces : Graph → List ℕ → ℕ → List Pieces
rooted_pieces g roots limit = map (split g limit) (grow g (rise (forest g (together roots) limit)) roots)

-- The parts of all roots, numbered by their place.
unfoldable pub rooted_parts : Graph → List ℕ → ℕ → List Tree
rooted_parts g roots limit = all_parts (rooted_pieces g roots limit)

-- The part of a number.
unfoldable pub part_of : List Tree → ℕ → Tree
part_of parts i = get_or parts i (record { start = 0; edges = [] })

-- Step 5: part i may go to root j, "whose distance to the part's nearest stop is at most B".
unfoldable pub may_go : Graph → List ℕ → ℕ → ℕ → ℕ → Bool
may_go g roots limit i j = reaches_part g limit (get_or roots j 0) (part_of (rooted_parts g roots limit) i)

-- "Every part needs a yard, no yard gets two": an assignment exists.
unfoldable pub is_assignable : Graph → List ℕ → ℕ → Bool
is_assignable g roots limit = assignable (may_go g roots limit) (below (length (rooted_parts g roots limit))) (below (length roots))

-- What document 01 leaves free: the root of each part, a shortest path to each part, and the marks of a set of parts.
pub record Choices : Type 0 where
  pub assignment : List ℕ
  pub paths : List (List ℕ)
  pub marks : List ℕ

-- Nothing is chosen: where there is nothing to choose.
abbrev pub no_choices : Choices
no_choices = record { assignment = []; paths = []; marks = [] }

-- What holds of each choice. Where an assignment exists, the first is one, and the path of part i is a shortest path to it from its root;
-- where none exists, the marks are of a set with fewer allowed roots than parts.
pub record GoodChoices (g : Graph) (roots : List ℕ) (limit : ℕ) (c : Choices) : Type 0 where
  pub assigned : is_assignable g roots limit ≡ true
      → IsAssignment (length (rooted_parts g roots limit)) (length roots) (may_go g roots limit) c.assignment
  pub shortest : is_assignable g roots limit ≡ true → (i : ℕ) → i < length (rooted_parts g roots limit)
      → IsShortestPath g (get_or roots (get_or c.assignment i 0) 0) (part_of (rooted_parts g roots limit) i) (get_or c.paths i [])
  pub deficient : is_assignable g roots limit ≡ false
      → IsDeficient (length (rooted_parts g roots limit)) (length roots) (may_go g roots limit) c.marks

-- Step 6: "from the union, lines are taken by weight, then number, and kept if their ends are not yet joined".
unfoldable pub union_tree : Graph → ℕ → List ℕ → Tree
union_tree g root union = record { start = root; edges = rise (keep g apart (filter (λ e. member e union) (ordered g))) }

-- The edges of root j's part, if it has one, and of the path to it.
unfoldable pub assigned_edges : List Tree → Choices → ℕ → List ℕ
assigned_edges parts c j =
    flat (map (λ i. (part_of parts i).edges ++ get_or c.paths i []) (filter (λ i. eqb (get_or c.assignment i 0) j) (below (length parts))))

-- "What is left at the yard" j.
unfoldable pub left_at : List Pieces → ℕ → List ℕ
left_at pieces j = (get_or pieces j (record { parts = []; left = [] })).left

-- Step 6: "a tree is the union of its part if any, a shortest path to it, and what is left at the yard".
unfoldable pub rooted_cover : Graph → List ℕ → ℕ → Choices → List Tree
rooted_cover g roots limit c =
    let pieces = rooted_pieces g roots limit in
    map (λ j. union_tree g (get_or roots j 0) (assigned_edges (all_parts pieces) c j ++ left_at pieces j)) (below (length roots))

-- Parts "ordered by smallest line".
abbrev pub by_smallest : List Tree → List Tree
by_smallest parts = sort_by (λ t u. leb (smallest_edge t) (smallest_edge u)) parts

-- Step 5: the parts of the set, so ordered.
unfoldable pub chosen_parts : List Tree → List ℕ → List Tree
chosen_parts parts marks = by_smallest (map (part_of parts) (filter (marked marks) (below (length parts))))

-- "Too low, stop v", where there is such a vertex.
unfoldable pub stop_or : Option ℕ → Reply → Reply
stop_or none reply = reply
stop_or (some v) reply = too_low_stop v

-- The trial.
unfoldable pub rooted_trial : Graph → List ℕ → ℕ → Choices → Reply
rooted_trial g roots limit c =
    let parts = rooted_parts g roots limit in
    let trees = rooted_cover g roots limit c in
    let T = marked_parts (length parts) c.marks in
    let D = allowed_roots (length parts) (length roots) (may_go g roots limit) c.marks in
    stop_or (unjoined_at g roots limit)
    (cond (is_assignable g roots limit) (covered limit (heaviest g trees) trees) (too_low_parts T D (chosen_parts parts c.marks)))
