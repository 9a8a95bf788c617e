-- `rooted_decide::parts_assigned` meets its contract: more parts than roots have no assignment, none needs a root, and others decide.
-- Assumes nothing.
use native.Mathlib.Omega.{arith}
use Rattle.rooted_decide.proofs.PartsCounted.{count_asked, many_refused, none_assigned, few_ready}
use Rattle.rooted_decide.proofs.parts_assigned.Goals as goal

pub count_parts-parts-requires : goal.count_parts-parts-requires
count_parts-parts-requires c = count_asked c.requires

pub returns-then-roots-parts : goal.returns-then-roots-parts
returns-then-roots-parts c = many_refused c.requires c.count_parts-parts.ensures c.if-roots-parts.true

pub returns-then-parts-eq0 : goal.returns-then-parts-eq0
returns-then-parts-eq0 c = none_assigned c.requires c.count_parts-parts.ensures c.if-parts-eq0.true

pub few_assigned-requires : goal.few_assigned-requires
few_assigned-requires c = few_ready c.requires c.count_parts-parts.ensures (omega (arith, c.if-parts-eq0.false)) (omega (arith, c.if-roots-parts.false))
