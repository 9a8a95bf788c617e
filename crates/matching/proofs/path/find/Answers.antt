-- `find` meets its contract: each way through the loops' bodies is one of `Searching`. Places rise.
-- Assumes nothing.
use Prim.Native.Nat.{◌<◌}
use mathlib.Core.Path.{◌≡◌, ◌∙◌, sym}
use mathlib.Core.Bool.{true}
use native.Mathlib.Omega.{arith}
use lib.ListN.{get_or, length-set}
use Rattle.matching.specs.Input.{allowed_at}
use Rattle.matching.proofs.Searching.{search_few, search_byte, search_closed, search_found, search_room, search_push}
use Rattle.matching.proofs.path.find.Goals as goal
use Rattle.matching.proofs.path.find.Goals.{Else-not-allows}

-- A root that is not reached yet is allowed to the part at hand,
may : (c : Else-not-allows) → allowed_at c.args.allowed.now c.args.y (get_or c.loop-j.parts c.loop-at.at 0) c.loop-j.j ≡ true
may c = sym c.allows.ensures ∙ c.if-not-allows.false

-- so that there is a place for the part that has it.
room : (c : Else-not-allows) → c.loop-j.t < 33
room c = search_room c.loop-j.invariant.1 c.requires.few c.loop-j.invariant.0 (omega arith) (may c) c.if-from-j-ne-NONE.false

pub offset_bounds-parts-at : goal.offset_bounds-parts-at
offset_bounds-parts-at c = omega (arith, search_few c.loop-j.invariant.1, c.loop-j.invariant.0)

pub bounds-parts-at : goal.bounds-parts-at
bounds-parts-at c = omega (arith, search_few c.loop-j.invariant.1, c.loop-j.invariant.0)

pub allows-requires : goal.allows-requires
allows-requires c = search_byte c.loop-j.invariant.1 _ c.requires.enough c.loop-j.invariant.0 (omega arith)

pub returns-then-k-eq-NONE : goal.returns-then-k-eq-NONE
returns-then-k-eq-NONE c =
    record {
      finding =
          search_found c.loop-j.invariant.1 c.requires.few c.loop-j.invariant.0 (omega arith) (may (goal.at.returns-then-k-eq-NONE c).Else-not-allows)
          c.if-from-j-ne-NONE.false
          c.if-k-eq-NONE.true;
      parts_scratch = c.loop-j.invariant.1.queue.parts_size ∙ sym c.requires.places.0;
      via_scratch = c.loop-j.invariant.1.queue.via_size ∙ sym c.requires.places.1;
      from_scratch = length-set c.loop-j.from c.loop-j.j c.loop-at.at ∙ c.loop-j.invariant.1.queue.from_size ∙ sym c.requires.roots;
    }

pub offset_bounds-parts-t : goal.offset_bounds-parts-t
offset_bounds-parts-t c = omega (arith, room (goal.at.offset_bounds-parts-t c).Else-not-allows)

pub bounds-parts-t : goal.bounds-parts-t
bounds-parts-t c = room (goal.at.bounds-parts-t c).Else-not-allows

pub offset_bounds-via-t : goal.offset_bounds-via-t
offset_bounds-via-t c = omega (arith, room (goal.at.offset_bounds-via-t c).Else-not-allows)

pub bounds-via-t : goal.bounds-via-t
bounds-via-t c = room (goal.at.bounds-via-t c).Else-not-allows

pub overflow_add-t : goal.overflow_add-t
overflow_add-t c = omega (arith, room (goal.at.overflow_add-t c).Else-not-allows)

pub loop-j-preserved : goal.loop-j-preserved
loop-j-preserved c =
    let has : get_or c.args.owner.now c.loop-j.j 0 < c.args.i = c.requires.owner_below c.loop-j.j (omega arith) c.if-k-eq-NONE.false in (
      omega (arith, c.loop-j.invariant.0),
      search_push c.loop-j.invariant.1 c.requires.few c.loop-j.invariant.0 (omega arith) (may (goal.at.loop-j-preserved c).Else-not-allows) c.if-from-j-ne-NONE.false has,
    )

pub loop-at-smaller : goal.loop-at-smaller
loop-at-smaller c = omega (arith, search_few c.loop-at.invariant)

pub returns : goal.returns
returns c =
    record {
      finding = search_closed c.loop-at.invariant c.loop-at-test.false c.requires.few;
      parts_scratch = c.loop-at.invariant.queue.parts_size ∙ sym c.requires.places.0;
      via_scratch = c.loop-at.invariant.queue.via_size ∙ sym c.requires.places.1;
      from_scratch = c.loop-at.invariant.queue.from_size ∙ sym c.requires.roots;
    }
