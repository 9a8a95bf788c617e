-- `unrooted::answer::no_cover_unrooted` meets its contract: each edge of the whole forest leaves one component fewer. Assumes nothing.
use native.Mathlib.Omega.{arith}
use Rattle.needs.proofs.WholeForest.{kept_fewer}
use Rattle.unrooted.proofs.UnrootedDecided.{none_at_all}
use Rattle.unrooted.proofs.answer.no_cover_unrooted.Goals as goal

pub overflow_sub-result : goal.overflow_sub-result
overflow_sub-result c = omega (arith, c.vertex_count.ensures.is, kept_fewer c.requires)

pub returns : goal.returns
returns c = none_at_all c.requires c.args.k c.vertex_count.ensures.is
