-- `rooted_answer::answer_sized` meets its contract: vertices and roots fit in the arrays. Assumes nothing.
use Rattle.rooted_answer.proofs.ArraysLent.{zeros_lent}
use Rattle.rooted_answer.proofs.answer_sized.Goals as goal

pub answer_parts-requires : goal.answer_parts-requires
answer_parts-requires g c = zeros_lent c.requires
