-- `rooted_cover::tree::mark_piece` meets its contract. Assumes nothing.
use mathlib.Core.Path.{◌≡◌, ap}
use lib.ListN.{length}
use Rattle.lists.specs.Segments.{segment}
use Rattle.cover.proofs.ChosenBytes.{held_readable, held_edges}
use Rattle.unions.proofs.TreeMarks.{each_below, marked_named}
use borrow.Author.Rules.{rules}
use Rattle.rooted_cover.proofs.tree.mark_piece.Goals as goal

pub edges_at-edges-requires : goal.edges_at-edges-requires
edges_at-edges-requires c = held_readable c.requires.held c.wide.ensures

pub mark_edges-requires : goal.mark_edges-requires
mark_edges-requires c =
    let taken : c.edges_at-edges.result.now ≡ segment c.args.cuts.now c.args.members.now c.args.c = held_edges c.wide.ensures c.edges_at-edges.ensures in
    each_below taken c.requires.marks

pub returns : goal.returns
returns c =
    let taken : c.edges_at-edges.result.now ≡ segment c.args.cuts.now c.args.members.now c.args.c = held_edges c.wide.ensures c.edges_at-edges.ensures in
    record { marks = marked_named taken c.mark_edges.ensures; count = ap length taken; within = search rules }
