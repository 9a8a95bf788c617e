-- `closed_walk::turn::arcs_at` meets its contract: what stands between two bounds is a segment. Assumes nothing.
use native.Mathlib.Omega.{arith}
use lib.ListN.{length-take}
use Rattle.lists.proofs.SegmentTaken.{segment_taken}
use Rattle.closed_walk.proofs.turn.arcs_at.Goals as goal

pub returns : goal.returns
returns c =
    let is = segment_taken c.args.bounds.now c.args.arcs.now c.args.v c.wide-from.ensures.is c.wide-to.ensures.is
    c.requires.forward c.requires.inside in
    record { is = is; few = rw length-take (omega (arith, c.wide-to.ensures.small)) }
