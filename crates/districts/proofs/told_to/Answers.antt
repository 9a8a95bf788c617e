-- What the planner tells can be printed.
use Rattle.std.proofs.Common.{arith}
use Rattle.districts.proofs.Asked.{ask_asked}
use Rattle.districts.proofs.told_to.Goals as goal

pub returns : goal.returns
returns c =
    let q = c.args in
    ask_asked q.asked q.question.now q.buf.now c.ask.result c.ask.ensures (omega arith)
