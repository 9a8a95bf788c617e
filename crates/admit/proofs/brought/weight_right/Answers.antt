-- `admit::brought::weight_right` meets its contract: a weight is at most doubled.
-- Assumes nothing.
use mathlib.Core.Path.{sym, ap}
use native.Mathlib.Omega.{arith}
use lib.Dec.{leb}
use borrow.Author.Tests.{le-leb}
use Rattle.graph.specs.Graph.{weight_of}
use Rattle.admit.proofs.brought.weight_right.Goals as goal

pub returns-then-given_weight-le500000 : goal.returns-then-given_weight-le500000
returns-then-given_weight-le500000 c = sym (le-leb (weight_of c.args.g.now c.args.e) 1000000 (omega arith))

pub returns : goal.returns
returns c = ap (λ x. leb x 1000000) c.weight.ensures.is
