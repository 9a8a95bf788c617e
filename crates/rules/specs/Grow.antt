-- The forest's trees as data, each grown from its root (document 01, step 3).
-- Assumes nothing.
use Rattle.std.specs.Prelude.{ℕ, zero, suc, Bool, cond, not, ◌&&◌, ◌||◌, List, [], ◌∷◌, ◌++◌, eqb}
use Rattle.lists.specs.Lists.{member}
use Rattle.graph.specs.Graph.{Graph, one_end, other_end}

-- What hangs below a vertex: nothing, or an edge to a child with what hangs below the child, and the later children.
pub data Branches : Type 0 where
  none : Branches
  branch : (edge child : ℕ) (under later : Branches) → Branches

-- All edges of the branches: each child's edge, those below the child, those of the later children.
unfoldable pub branch_edges : Branches → List ℕ
branch_edges none = []
branch_edges (branch e child under later) = e ∷ branch_edges under ++ branch_edges later

-- A tree with its root.
pub record Rooted : Type 0 where
  pub root : ℕ
  pub branches : Branches

-- What was grown, and the vertices passed so far.
pub record Grown : Type 0 where
  pub branches : Branches
  pub passed : List ℕ

-- The end of the edge that is not v.
unfoldable pub far_end : Graph → ℕ → ℕ → ℕ
far_end g e v = cond (eqb (one_end g e) v) (other_end g e) (one_end g e)

-- The edge has v as an end.
unfoldable pub touches : Graph → ℕ → ℕ → Bool
touches g v e = eqb (one_end g e) v || eqb (other_end g e) v

-- The edge leads from v to a vertex not yet passed.
unfoldable pub leads_on : Graph → List ℕ → ℕ → ℕ → Bool
leads_on g passed v e = (eqb (one_end g e) v || eqb (other_end g e) v) && not (member (far_end g e v) passed)

-- The children of v among the edges, in their order; `node` grows a child. Each edge that leads on is a child's,
-- and "at each child its own node comes first".
unfoldable pub grow_children : (ℕ → List ℕ → Grown) → Graph → ℕ → List ℕ → List ℕ → Grown
grow_children node g v [] passed = record { branches = none; passed = passed }
grow_children node g v (e ∷ es) passed =
    let child = node (far_end g e v) passed in
    let later = grow_children node g v es child.passed in
    let branched : Grown = record { branches = branch e (far_end g e v) child.branches later.branches; passed = later.passed } in
    let skipped = grow_children node g v es passed in
    cond (leads_on g passed v e) branched skipped

-- The node v: it is passed, then its children are grown. The first number bounds the depth.
unfoldable pub grow_node : ℕ → Graph → List ℕ → ℕ → List ℕ → Grown
grow_node zero g edges v passed = record { branches = none; passed = v ∷ passed }
grow_node (suc depth) g edges v passed = grow_children (grow_node depth g edges) g v edges (v ∷ passed)

-- The trees of the roots, one after the other. Where a vertex is listed as a root twice, the first has the branches.
unfoldable pub grow_from : Graph → List ℕ → List ℕ → List ℕ → List Rooted
grow_from g edges [] passed = []
grow_from g edges (r ∷ roots) passed =
    let tree = grow_node g.vertices g edges r passed in
    record { root = r; branches = tree.branches } ∷ grow_from g edges roots tree.passed

-- The trees of a forest's edges, which stand by number, from these roots.
unfoldable pub grow : Graph → List ℕ → List ℕ → List Rooted
grow g edges roots = grow_from g edges roots []
