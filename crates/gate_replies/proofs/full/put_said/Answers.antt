-- `gate_replies::full::put_said` meets its contract, reply by reply.
-- Assumes nothing.
use Rattle.gate_replies.proofs.FullReplies.{said_put}
use Rattle.gate_replies.proofs.full.put_said.Goals as goal

pub returns-in-Refused : goal.returns-in-Refused
returns-in-Refused c = said_put c.in-Refused.is (rw c.number.ensures at c.put_head.ensures)

pub returns-in-Cover : goal.returns-in-Cover
returns-in-Cover c = said_put c.in-Cover.is c.put_head-in-Cover.ensures

pub returns-in-Stop : goal.returns-in-Stop
returns-in-Stop c = said_put c.in-Stop.is c.put_head-in-Stop.ensures

pub returns-in-Parts : goal.returns-in-Parts
returns-in-Parts c = said_put c.in-Parts.is c.put_head-in-Parts.ensures

pub returns-in-Needs : goal.returns-in-Needs
returns-in-Needs c = said_put c.in-Needs.is c.put_head-in-Needs.ensures

pub returns-in-NoCover : goal.returns-in-NoCover
returns-in-NoCover c = said_put c.in-NoCover.is c.put_head-in-NoCover.ensures
