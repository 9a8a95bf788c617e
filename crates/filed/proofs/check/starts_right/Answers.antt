-- `filed::check::starts_right` meets its contract: the kind decides. Assumes nothing.
use Rattle.filed.proofs.check.starts_right.Goals as goal

pub returns-in-Rooted : goal.returns-in-Rooted
returns-in-Rooted c = rw (← c.kind.ensures, c.in-Rooted.is, ← c.k.ensures, ← c.vans.ensures) c.starts_at_roots.ensures

pub returns-in-Unrooted : goal.returns-in-Unrooted
returns-in-Unrooted c = rw (← c.kind.ensures, c.in-Unrooted.is, ← c.k-in-Unrooted.ensures) c.starts_at_most.ensures
