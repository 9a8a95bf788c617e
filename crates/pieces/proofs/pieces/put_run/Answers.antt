-- `pieces::pieces::put_run` meets its contract. The loop's invariant: the numbers before c are written. Assumes nothing.
use native.Mathlib.Omega.{arith}
use Rattle.lists.proofs.NextPlace.{numbers_next, numbers_none}
use Rattle.lists.proofs.PutOneByOne.{so_far_none, so_far_more, so_far_all}
use borrow.Author.Rules.{rules}
use Rattle.pieces.proofs.pieces.put_run.Goals as goal

pub loop-c-init : goal.loop-c-init
loop-c-init c = record { room = search rules; putting = so_far_none _ _ (omega arith) }

pub loop-c-preserved : goal.loop-c-preserved
loop-c-preserved c =
    let more = so_far_more c.loop-c.invariant.putting (numbers_next _ c.loop-c.c c.loop-c-test.true) (omega arith) in
    record { room = omega (arith, more.same, c.loop-c.invariant.putting.same); putting = more }

pub returns : goal.returns
returns c = so_far_all c.loop-c.invariant.putting (numbers_none _ c.loop-c.c c.loop-c-test.false)
