-- `forest::lowest::lowest_of_each` meets its contract. The loop's invariant: the lowest vertices below v are written, and the labels of the
-- vertices below v have been met. Assumes nothing.
use native.Mathlib.Omega.{arith}
use lib.Seq.{length-take-le}
use Rattle.forest.proofs.LowestVertices.{label_read, listing_none, listing_passed, listing_more, listing_all}
use Rattle.forest.proofs.LowestVertices.{meeting_none, meeting_again, meeting_new, met_joined, new_apart}
use Rattle.forest.proofs.lowest.lowest_of_each.Goals as goal

pub loop-v-init : goal.loop-v-init
loop-v-init c = record { listing = listing_none _; meeting = meeting_none }

pub loop-v-preserved-then-met-x : goal.loop-v-preserved-then-met-x
loop-v-preserved-then-met-x c =
    let (l, q) = label_read c.args.n c.args.label.now c.loop-v.v c.requires.labels_room c.loop-v-test.true c.wide-x.ensures.is in
    record {
      listing = listing_passed c.loop-v.invariant.listing l (met_joined c.loop-v.invariant.meeting q c.if-met-x.true);
      meeting = meeting_again c.loop-v.invariant.meeting q c.if-met-x.true;
    }

pub loop-v-preserved : goal.loop-v-preserved
loop-v-preserved c =
    let (l, q) = label_read c.args.n c.args.label.now c.loop-v.v c.requires.labels_room c.loop-v-test.true c.wide-x.ensures.is in
    record {
      listing = listing_more c.loop-v.invariant.listing l (new_apart c.loop-v.invariant.meeting q c.if-met-x.false) (omega arith);
      meeting = meeting_new c.loop-v.invariant.meeting q (omega (arith, q, c.requires.most, c.requires.labels_below c.loop-v.v l));
    }

pub returns : goal.returns
returns c = listing_all c.loop-v.invariant.listing (omega (arith, length-take-le c.args.n c.args.label.now c.requires.labels_room))
