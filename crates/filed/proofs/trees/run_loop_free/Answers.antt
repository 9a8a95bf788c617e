-- `filed::trees::run_loop_free` meets its contract. The loop's invariant: the entries before i are taken.
-- Assumes nothing.
use native.Mathlib.Omega.{arith}
use borrow.Author.Tests.{not-true, not-false}
use Rattle.filed.proofs.RunTests.{run_start, run_loop, run_next, run_done}
use Rattle.filed.proofs.trees.run_loop_free.Goals as goal

pub loop-i-init : goal.loop-i-init
loop-i-init c =
    run_start c.args.g.now c.args.c.now c.args.from c.args.to c.requires.0 c.requires.1.parented

pub join_ends-requires : goal.join_ends-requires
join_ends-requires c = record { valid = c.requires.1.valid; parented = c.loop-i.invariant.parents }

pub returns-then-not-join_ends : goal.returns-then-not-join_ends
returns-then-not-join_ends c =
    run_loop c.args.g.now c.args.c.now c.args.from c.args.to c.loop-i.invariant (omega arith) (rw c.entry_edge.ensures.is at c.join_ends.ensures) (not-true c.join_ends.result c.if-not-join_ends.true-raw)

pub loop-i-preserved : goal.loop-i-preserved
loop-i-preserved c =
    run_next c.args.g.now c.args.c.now c.args.from c.args.to c.loop-i.invariant (omega arith) (rw c.entry_edge.ensures.is at c.join_ends.ensures) (not-false c.join_ends.result c.if-not-join_ends.false-raw)

pub returns : goal.returns
returns c =
    run_done c.args.g.now c.args.c.now c.args.from c.args.to c.loop-i.invariant (omega arith)
