-- `rooted_parts::parts::pieces_near` meets its contract: the words of the vertices are made, and those of the parts by them. Assumes nothing.
use mathlib.Core.Path.{sym}
use native.Mathlib.Omega.{arith}
use Rattle.rooted_parts.proofs.PartsAssembled.{many}
use Rattle.rooted_parts.proofs.WordsWithin.{within_asked}
use Rattle.rooted_parts.proofs.PiecesNear.{near_pieces_asked, pieces_near}
use Rattle.rooted_parts.proofs.parts.pieces_near.Goals as goal

pub roots_within-requires : goal.roots_within-requires
roots_within-requires c = within_asked c.requires.held.ready

pub slice_bounds-near_pieces-end-2 : goal.slice_bounds-near_pieces-end-2
slice_bounds-near_pieces-end-2 c = sym (many c.requires.held)

pub near_pieces-requires : goal.near_pieces-requires
near_pieces-requires c = near_pieces_asked c.requires (omega arith)

pub returns : goal.returns
returns c =
    record {
      near = pieces_near c.requires c.roots_within.ensures.near c.near_pieces.ensures;
      rest = rw (many c.requires.held) at c.near_pieces.ensures.rest;
    }
