-- `rooted_cover::tree::rooted_tree` meets its contract. Assumes nothing.
use native.Mathlib.Omega.{arith}
use Rattle.rooted_cover.proofs.RootUnion.{root_few, root_written}
use Rattle.rooted_cover.proofs.tree.rooted_tree.Goals as goal

pub mark_assigned-assigned-requires : goal.mark_assigned-assigned-requires
mark_assigned-assigned-requires c = rw c.mark_piece-remaining.ensures.marks.size c.requires.assigned

pub overflow_add-remaining : goal.overflow_add-remaining
overflow_add-remaining c = omega (arith, c.mark_assigned-assigned.ensures.marks.within, c.mark_piece-remaining.ensures.within)

pub keep_risen-requires : goal.keep_risen-requires
keep_risen-requires c =
    record {
      asked = c.requires.asked;
      few = root_few c.requires.asked.valid c.args.left c.mark_piece-remaining.ensures c.mark_assigned-assigned.ensures;
    }

pub returns : goal.returns
returns c = root_written c.requires.asked.valid c.args.left c.mark_piece-remaining.ensures c.mark_assigned-assigned.ensures c.keep_risen.ensures
