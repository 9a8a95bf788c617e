-- `rooted_parts::parts::assign_roots` meets its contract: an input as asked is not refused, and each arm says what its case says.
-- Assumes nothing.
use Rattle.rooted_parts.proofs.NotRefused.{done_refused, done_assigned, done_deficient}
use Rattle.rooted_parts.proofs.parts.assign_roots.Goals as goal

pub returns-in-Refused : goal.returns-in-Refused
returns-in-Refused c = done_refused c.requires c.assign-answer.ensures c.in-Refused.is

pub returns-in-Assigned : goal.returns-in-Assigned
returns-in-Assigned c = done_assigned c.requires c.assign-answer.ensures c.in-Assigned.is

pub returns-in-Deficient : goal.returns-in-Deficient
returns-in-Deficient c = done_deficient c.requires c.assign-answer.ensures c.in-Deficient.is
