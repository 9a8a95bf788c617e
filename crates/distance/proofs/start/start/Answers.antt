-- `distance::start::start` meets its contract: the first n vertices are filled, then the root's distance is stored. Assumes nothing.
use Rattle.distance.proofs.SearchStart.{started}
use Rattle.distance.proofs.start.start.Goals as goal

pub returns : goal.returns
returns c = started c.requires (c.fill.ensures.after (λ y e. e))
