-- `deficient::write_deficient` meets its contract: the places of the marked parts are taken, and their pieces written.
-- Assumes nothing.
use Prim.Native.Nat.{ℕ}
use mathlib.Core.Path.{◌≡◌, sym, ap, ◌∙◌}
use mathlib.Core.List.{List}
use native.Mathlib.Omega.{arith}
use lib.ListN.{length, take}
use lib.Seq.{length-take-le}
use Rattle.lists.proofs.Put.{put_taken, put_count}
use Rattle.unions.specs.Deficient.{places_marked}
use Rattle.deficient.specs.TooLowParts.{ChosenGiven}
use Rattle.deficient.proofs.MarkedPieces.{marked_given, marked_in_order}
use Rattle.deficient.proofs.write_deficient.Goals as goal

pub slice_bounds-marked_places-end : goal.slice_bounds-marked_places-end
slice_bounds-marked_places-end c = sym (length-take-le c.args.parts c.args.places.now c.requires.places_room)

pub slice_bounds-marked_places-end-2 : goal.slice_bounds-marked_places-end-2
slice_bounds-marked_places-end-2 c = sym (length-take-le c.args.parts c.args.marks.now c.requires.marks_room)

pub marked_places-t-requires : goal.marked_places-t-requires
marked_places-t-requires c = omega (arith, length-take-le c.args.parts c.args.places.now c.requires.places_room, c.requires.few)

pub slice_bounds-write_parts-end : goal.slice_bounds-write_parts-end
slice_bounds-write_parts-end c = put_count c.marked_places-t.ensures.places_are ∙ sym (ap length (put_taken c.marked_places-t.ensures.places_are))

pub write_parts-requires : goal.write_parts-requires
write_parts-requires c =
    rw (put_taken c.marked_places-t.ensures.places_are)
    (marked_given c.args.pieces.starts.now c.args.pieces.cuts.now c.args.pieces.members.now (take c.args.parts c.args.places.now) (take c.args.parts c.args.marks.now)
    c.requires.held (omega (arith, length-take-le c.args.parts c.args.places.now c.requires.places_room, c.requires.few)) c.requires.light c.requires.most)

pub slice_bounds-count_allowed-end : goal.slice_bounds-count_allowed-end
slice_bounds-count_allowed-end c = sym (length-take-le c.args.parts c.args.marks.now c.requires.marks_room)

pub returns : goal.returns
returns c =
    let in_order = marked_in_order c.args.pieces.starts.now c.args.pieces.cuts.now c.args.pieces.members.now (take c.args.parts c.args.places.now) (take c.args.parts c.args.marks.now) in
    record {
      bytes = c.write_parts.result;
      written = rw in_order at (rw (put_taken c.marked_places-t.ensures.places_are) at c.write_parts.ensures);
      parts_are = rw (length-take-le c.args.parts c.args.places.now c.requires.places_room) at c.marked_places-t.ensures.count;
      roots_are = c.count_allowed-d.ensures;
    }
