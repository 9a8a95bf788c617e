-- `admit::vans::admit_vans` meets its contract: the kind decides whether a list is read, then its test. Assumes nothing.
use Rattle.admit.specs.Brought.{lent}
use Rattle.admit.proofs.CrewTests.{vans_unread, vans_not_brought}
use Rattle.admit.proofs.vans.admit_vans.Goals as goal

pub returns-in-None : goal.returns-in-None
returns-in-None c = rw c.in-None.is (vans_not_brought c.args.k c.args.n c.in-Rooted.is)

pub returns-in-Unrooted : goal.returns-in-Unrooted
returns-in-Unrooted c = vans_unread c.args.k c.args.n (lent c.args.vans) c.in-Unrooted.is
