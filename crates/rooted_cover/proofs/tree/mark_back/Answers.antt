-- `rooted_cover::tree::mark_back` meets its contract. Assumes nothing.
use mathlib.Core.Path.{sym, ap, ◌∙◌}
use native.Mathlib.Omega.{arith}
use lib.ListN.{length}
use Rattle.lists.proofs.Put.{put_taken, put_count, put_fits}
use Rattle.unions.proofs.TreeMarks.{each_below, marked_named}
use Rattle.rooted_cover.proofs.tree.mark_back.Goals as goal

pub slice_bounds-mark_edges-end : goal.slice_bounds-mark_edges-end
slice_bounds-mark_edges-end c = put_count c.path_back-r.ensures ∙ sym (ap length (put_taken c.path_back-r.ensures))

pub mark_edges-requires : goal.mark_edges-requires
mark_edges-requires c = each_below (put_taken c.path_back-r.ensures) c.requires.marks

pub returns : goal.returns
returns c = record { marks = marked_named (put_taken c.path_back-r.ensures) c.mark_edges.ensures; count = put_count c.path_back-r.ensures; within = omega (arith, put_fits c.path_back-r.ensures) }
