-- `planner_c::planner_ask` meets its contract: what the planner promises, said in numbers. Assumes nothing.
use Rattle.planner_c.proofs.Values.{asked_exported}
use Rattle.planner_c.proofs.planner_ask.Goals as goal

pub returns : goal.returns
returns c =
    let p = rw (c.asked_of.ensures, c.question_of-question.ensures) at c.ask-told.ensures in
    asked_exported c.args.asked c.args.limit _ _ _ c.ask-told.result p c.number_of.ensures c.put_values.ensures
