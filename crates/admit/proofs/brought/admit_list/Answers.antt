-- `admit::brought::admit_list` meets its contract: the list's length, then the weights decide.
-- Assumes nothing.
use native.Mathlib.Omega.{arith}
use borrow.Author.Tests.{not-true, not-false}
use Rattle.admit.proofs.Tested.{count_refused, weights_decide}
use Rattle.admit.proofs.brought.admit_list.Goals as goal

pub returns-then-list-sheet_edges : goal.returns-then-list-sheet_edges
returns-then-list-sheet_edges c = count_refused c.args.b.now c.args.list.now (λ l. omega arith)

pub returns-then-not-weights_right : goal.returns-then-not-weights_right
returns-then-not-weights_right c = weights_decide c.args.b.now c.args.list.now (omega arith) (rw c.new.ensures at c.weights_right.ensures.wrong (not-true c.weights_right.result c.if-not-weights_right.true-raw))

pub returns : goal.returns
returns c = weights_decide c.args.b.now c.args.list.now (omega arith) (rw c.new.ensures at c.weights_right.ensures.right (not-false c.weights_right.result c.if-not-weights_right.false-raw))
