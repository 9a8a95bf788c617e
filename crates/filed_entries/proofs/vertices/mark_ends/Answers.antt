-- `filed_entries::vertices::mark_ends` meets its contract. The loop's invariant: the ends of the edges of the entries before i are marked.
-- Assumes nothing.
use mathlib.Core.Path.{ap, ◌∙◌}
use native.Mathlib.Omega.{arith}
use Rattle.graph.specs.Graph.{Graph, one_end, other_end}
use Rattle.graph.specs.Bytes.{graph_of}
use Rattle.graph.proofs.Ranges.{one_end_below, other_end_below}
use Rattle.filed_entries.proofs.Marking.{ends_read}
use Rattle.filed_entries.proofs.vertices.mark_ends.Goals as goal

pub loop-i-preserved : goal.loop-i-preserved
loop-i-preserved c =
    let g : Graph = c.args.g.now in
    ends_read c.loop-i.invariant (c.one_end-u.ensures.is ∙ ap (one_end g) c.entry_edge-e.ensures.is) (c.other_end-v.ensures.is ∙ ap (other_end g) c.entry_edge-e.ensures.is)
    (omega arith) (omega arith)
    (omega (arith, one_end_below c.requires.valid c.entry_edge-e.result, c.requires.room, c.one_end-u.ensures.is))
    (omega (arith, other_end_below c.requires.valid c.entry_edge-e.result, c.requires.room, c.other_end-v.ensures.is))
