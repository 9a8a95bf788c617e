-- The trial of an unrooted question at a limit (document 01, a "roving" trial, steps 1 to 4 and 7).
-- Assumes nothing.
use Rattle.std.specs.Prelude.{ℕ, ◌+◌, ◌*◌, ◌/◌, min, Bool, cond, ◌&&◌, ◌||◌, leb, ltb, eqb}
use mathlib.Core.List.{List, [], ◌∷◌, ◌++◌, map, foldr}
use Rattle.lists.specs.Lists.{flat, sum_of}
use Rattle.lists.specs.Sort.{rise, sort_by}
use Rattle.graph.specs.Graph.{Graph}
use Rattle.rules.specs.Walk.{total_weight}
use Rattle.rules.specs.Cover.{Tree, heaviest}
use Rattle.rules.specs.Labels.{apart}
use Rattle.rules.specs.Forest.{forest, labels_at, lowest}
use Rattle.rules.specs.Grow.{Rooted, branch_edges, grow}
use Rattle.rules.specs.Split.{split, smallest_edge}
use Rattle.rules.specs.Distance.{tree_vertices}
use Rattle.rules.specs.Reply.{Reply, covered, too_low_needs}

-- Steps 2 and 3: the components' trees, each "rooted at its lowest stop".
unfoldable pub components : Graph → ℕ → List Rooted
components g limit = grow g (rise (forest g apart limit)) (lowest g (labels_at g apart limit))

-- Step 7: "a component with tree weight w needs 1 + floor(w / 2B), or 1 at B = 0". (Here a number divided by 0 is 0.)
unfoldable pub needs : Graph → ℕ → Rooted → ℕ
needs g limit t = 1 + total_weight g (branch_edges t.branches) / (2 * limit)

-- "The sum C."
unfoldable pub needed : Graph → ℕ → ℕ
needed g limit = sum_of (needs g limit) (components g limit)

-- "The leftovers that have lines or have no part in their component."
unfoldable pub leftovers : ℕ → List Tree → List ℕ → List Tree
leftovers root [] edges = record { start = root; edges = rise edges } ∷ []
leftovers root (part ∷ parts) [] = []
leftovers root (part ∷ parts) (e ∷ edges) = record { start = root; edges = rise (e ∷ edges) } ∷ []

-- "Start is the lowest stop of the tree."
unfoldable pub from_lowest : Graph → Tree → Tree
from_lowest g t = record { start = foldr min t.start (tree_vertices g t); edges = t.edges }

-- The trees of one component: its parts, and its leftover.
unfoldable pub component_trees : Graph → ℕ → Rooted → List Tree
component_trees g limit t =
    let pieces = split g (2 * limit) t in
    map (from_lowest g) (pieces.parts ++ leftovers t.root pieces.parts pieces.left)

-- "Order is by start, then by smallest line."
unfoldable pub starts_before : Tree → Tree → Bool
starts_before t u = ltb t.start u.start || (eqb t.start u.start && leb (smallest_edge t) (smallest_edge u))

-- The trees of all components.
unfoldable pub unrooted_trees : Graph → ℕ → List Tree
unrooted_trees g limit = sort_by starts_before (flat (map (component_trees g limit) (components g limit)))

-- The trial: "if the sum C exceeds k: too low, needs C".
unfoldable pub unrooted_trial : Graph → ℕ → ℕ → Reply
unrooted_trial g k limit =
    let trees = unrooted_trees g limit in
    cond (leb (needed g limit) k) (covered limit (heaviest g trees) trees) (too_low_needs (needed g limit))
