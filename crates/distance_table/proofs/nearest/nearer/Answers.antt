-- `distance_table::nearest::nearer` meets its contract: the definition takes the arm that the test says. Assumes nothing.
use lib.ListN.{get_or}
use borrow.Author.Tests.{lt-ltb, le-ltb}
use Rattle.distance_table.proofs.nearest.nearer.Goals as goal

pub returns-then-dist-v : goal.returns-then-dist-v
returns-then-dist-v c = rw (lt-ltb (get_or c.args.dist.now c.args.v 0) (get_or c.args.dist.now c.args.u 0) c.if-dist-v.true)

pub returns : goal.returns
returns c = rw (le-ltb (get_or c.args.dist.now c.args.v 0) (get_or c.args.dist.now c.args.u 0) c.if-dist-v.false)
