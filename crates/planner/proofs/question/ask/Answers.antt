-- `planner::question::ask` meets its contract: what is refused decides, then what is asked. Assumes nothing.
use Rattle.planner.proofs.Promised.{can_ask, refusal_given, answer_given, ask_promised}
use Rattle.planner.proofs.question.ask.Goals as goal

pub ask_crews-requires : goal.ask_crews-requires
ask_crews-requires c = can_ask c.args.asked c.args.question.now _ c.in-Ok.ensures

pub returns-in-Err : goal.returns-in-Err
returns-in-Err c = ask_promised c.args.asked (refusal_given c.args.asked c.args.question.now c.in-Err.f c.in-Err.ensures)

pub returns-in-Ok : goal.returns-in-Ok
returns-in-Ok c = ask_promised c.args.asked (answer_given c.args.asked c.args.question.now c.in-Ok.ensures c.ask_crews.ensures)
