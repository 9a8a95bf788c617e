-- `asking::ask::answer_asked` meets its contract: what is asked decides. Assumes nothing.
use Rattle.asking.proofs.Answering.{trial_answered}
use Rattle.asking.proofs.ask.answer_asked.Goals as goal

pub returns-in-At : goal.returns-in-At
returns-in-At c = rw c.in-At.is (trial_answered c.answer_at-reply.ensures)
