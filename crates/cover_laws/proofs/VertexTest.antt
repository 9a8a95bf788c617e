-- The test of the vertices (35) says yes exactly where each vertex has a tree that covers it.
-- Assumes nothing.
use Prim.Native.Nat.{ℕ, ◌<◌}
use mathlib.Core.Path.{◌≡◌}
use mathlib.Core.Bool.{true}
use mathlib.Core.List.{List}
use Rattle.lists.specs.Lists.{member}
use Rattle.lists.specs.Member.{◌∈◌}
use Rattle.lists.proofs.AllBelow.{all_below, each_below}
use Rattle.lists.proofs.Member.{any_found, found_any, member_in, in_member}
use Rattle.graph.specs.Graph.{Graph}
use Rattle.rules.specs.Cover.{Tree, Covers}
use Rattle.rules.specs.Distance.{tree_vertices}
use Rattle.rules.specs.CheckCover.{vertex_covered, vertices_covered}
use Rattle.rules.proofs.TreeVertices.{covered_stands, stands_covered}

module _ (g : Graph) where
  -- Some tree of the list covers v.
  abbrev pub HasTree : List Tree → ℕ → Type 0
  HasTree trees v = (t : Tree) × (t ∈ trees) × Covers g t v

  module _ (trees : List Tree) where
    -- Where the test says yes, each vertex has a tree that covers it.
    pub passed_covered : vertices_covered g trees ≡ true → (v : ℕ) → v < g.vertices → HasTree trees v
    unfolding vertices_covered
    passed_covered t v h =
        let some = each_below (vertex_covered g trees) g.vertices t v h in
        let r = any_found (λ (s : Tree). member v (tree_vertices g s)) trees some in
        (r.0, r.1, stands_covered g r.0 (member_in v (tree_vertices g r.0) r.2))

    -- Where each vertex has a tree that covers it, the test says yes.
    pub covered_passes : ((v : ℕ) → v < g.vertices → HasTree trees v) → vertices_covered g trees ≡ true
    unfolding vertices_covered
    covered_passes h =
        all_below (vertex_covered g trees) g.vertices
        (λ v l. let r = h v l in found_any (λ (s : Tree). member v (tree_vertices g s)) r.1 (in_member (covered_stands g r.0 r.2)))
