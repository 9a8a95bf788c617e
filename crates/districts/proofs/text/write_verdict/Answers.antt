-- Answer by answer.
use Rattle.std.proofs.Common.{arith}
use Rattle.reply_text.specs.Lines.{line}
use Rattle.reply_text.proofs.TextLengths.{last_few}
use Rattle.districts.proofs.DistrictReplies.{yes_put, number_put}
use Rattle.districts.proofs.text.write_verdict.Goals as goal

pub put_line-requires : goal.put_line-requires
unfolding line
put_line-requires c = omega (arith, last_few c.in-Ok.heaviest (omega arith), c.requires)

pub returns-in-Ok : goal.returns-in-Ok
unfolding line
returns-in-Ok c = yes_put c.args.verdict c.in-Ok.is c.put_line.ensures

pub returns-in-Err : goal.returns-in-Err
returns-in-Err c = number_put c.args.verdict c.in-Err.is (rw c.number.ensures at c.write_refused.ensures)
