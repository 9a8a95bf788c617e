-- `filed_entries::vertices::vertices_covered` meets its contract: the starts and the ends are marked, and nothing else is. Assumes nothing.
use native.Mathlib.Omega.{arith}
use lib.ListN.{replicate}
use Rattle.graph.specs.Graph.{Graph, edge_count}
use Rattle.graph.specs.Bytes.{graph_of}
use Rattle.filed_entries.proofs.StartTests.{start_passed}
use Rattle.lists.proofs.Zeros.{zeros_at}
use Rattle.cover_laws.proofs.EntryTest.{passed_tree}
use Rattle.filed_entries.proofs.Marking.{all_marked_covered}
use Rattle.filed_entries.proofs.vertices.vertices_covered.Goals as goal

pub mark_starts-requires : goal.mark_starts-requires
mark_starts-requires c =
    let g : Graph = c.args.g.now in
    λ j h. omega (arith, start_passed c.args.c.now g.vertices c.requires.starts j h, c.requires.valid.vertices_most)

pub returns : goal.returns
returns c =
    let g : Graph = c.args.g.now in
    all_marked_covered g c.args.c.now (replicate 256 0) _ _ (λ v q. omega (arith, q, zeros_at 256 v)) c.mark_starts.ensures c.mark_ends.ensures
    (passed_tree (edge_count g) c.args.c.now c.requires.entries) c.all_marked.result (rw c.vertex_count.ensures.is at c.all_marked.ensures)
