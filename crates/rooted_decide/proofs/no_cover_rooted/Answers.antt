-- `rooted_decide::no_cover_rooted` meets its contract: the whole forest leaves the same vertex joined to no root as all edges do.
-- Assumes nothing.
use mathlib.Core.Path.{◌∙◌}
use Rattle.rooted_state.proofs.LimitDecided.{stop_asked, found_no_cover}
use Rattle.rooted_decide.proofs.no_cover_rooted.Goals as goal

pub stop_at-requires : goal.stop_at-requires
stop_at-requires c = stop_asked c.requires.given

pub returns : goal.returns
returns c =
    c.is_some.ensures
    ∙ found_no_cover c.args.g.now c.args.roots.now c.requires.forest c.stop_at.ensures
