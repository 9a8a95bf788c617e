-- `rooted_decide::parts_near` meets its contract: the vertices' words are made, and the parts' by one pass over the steps. Assumes nothing.
use native.Mathlib.Omega.{arith}
use Rattle.rooted_state.proofs.RootsReady.{limit_ready}
use Rattle.rooted_parts.proofs.WordsWithin.{within_asked}
use Rattle.rooted_decide.proofs.PartsNear.{near_parts_asked, parts_near}
use Rattle.rooted_decide.proofs.parts_near.Goals as goal

pub roots_within-requires : goal.roots_within-requires
roots_within-requires c = within_asked (limit_ready c.requires.ready.counted.ready.asked)

pub near_parts-requires : goal.near_parts-requires
near_parts-requires c = near_parts_asked c.requires.ready (omega arith) c.requires.room

pub returns : goal.returns
returns c =
    record {
      near = parts_near c.requires.ready c.roots_within.ensures.near c.near_parts.ensures;
      rest = c.near_parts.ensures.rest;
    }
