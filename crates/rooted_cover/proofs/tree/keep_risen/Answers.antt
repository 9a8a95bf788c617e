-- `rooted_cover::tree::keep_risen` meets its contract: the marked edges are kept, and then sorted where they stand. Assumes nothing.
use mathlib.Core.Path.{sym, ap, ◌∙◌}
use lib.ListN.{length}
use Rattle.lists.proofs.Put.{put_taken, put_count}
use Rattle.pieces.proofs.LaidLists.{front_then_risen}
use Rattle.rooted_cover.proofs.tree.keep_risen.Goals as goal

pub keep_union-r-requires : goal.keep_union-r-requires
keep_union-r-requires c = record { valid = c.requires.asked.valid; room = c.requires.asked.room; few = rw c.requires.asked.in_order c.requires.few }

pub slice_bounds-rise_edges-end-2 : goal.slice_bounds-rise_edges-end-2
slice_bounds-rise_edges-end-2 c = put_count c.keep_union-r.ensures.kept ∙ sym (ap length (put_taken c.keep_union-r.ensures.kept))

pub returns : goal.returns
returns c = record { kept = rw c.requires.asked.in_order at (front_then_risen c.keep_union-r.ensures.kept c.rise_edges.ensures); fewer = c.keep_union-r.ensures.fewer }
