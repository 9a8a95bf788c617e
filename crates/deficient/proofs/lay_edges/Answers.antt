-- `deficient::lay_edges` meets its contract. The loop's invariant: the edges of the pieces before i are laid, and those left fit.
-- Assumes nothing.
use Prim.Native.Nat.{ℕ, ◌+◌, ◌<◌}
use mathlib.Core.Path.{◌≡◌, refl, ap, ◌∙◌}
use mathlib.Core.List.{List}
use native.Mathlib.Omega.{arith}
use lib.ListN.{length, get_or, drop, length-set}
use lib.Seq.{get_or-set_same}
use Rattle.lists.specs.Segments.{segment}
use Rattle.lists.specs.Sort.{rise}
use Rattle.lists.specs.Put.{PutTo}
use Rattle.lists.proofs.Places.{at_place}
use Rattle.lists.proofs.Put.{put_length}
use Rattle.lists.proofs.OnlyFirst.{only_first_none, only_first_store, only_first_on, only_first_put}
use Rattle.lists.proofs.Sorting.{rise_length}
use Rattle.cover.proofs.ChosenBytes.{held_readable, held_edges}
use Rattle.deficient.specs.TooLowParts.{edges_of}
use Rattle.lists.proofs.SumLeft.{sum_next}
use Rattle.pieces.proofs.LaidLists.{laid_none, laid_more}
use Rattle.deficient.proofs.lay_edges.Goals as goal

-- In a turn: the edges of the next piece were taken.
module _ (cuts members chosen : List ℕ) (i at : ℕ) (taken : List ℕ) (h : i < length chosen) (left : at + edges_of cuts members (drop i chosen) ≡ edges_of cuts members chosen)
    (is : taken ≡ segment cuts members (get_or chosen i 0)) where
  -- Behind them come those of the pieces that are left.
  left_behind : at + length taken + edges_of cuts members (drop (i + 1) chosen) ≡ edges_of cuts members chosen
  left_behind = omega (arith, left, ap length is, sum_next (λ c. length (segment cuts members c)) chosen i h)

-- They end as many places further on as they are.
put_behind : {at r : ℕ} (taken : List ℕ) {before after : List ℕ} → PutTo at (rise taken) before after r → r ≡ at + length taken
put_behind taken p = omega (arith, p.behind, rise_length taken)

pub loop-i-init : goal.loop-i-init
loop-i-init c =
    record {
      left = omega arith;
      laid = laid_none _ _ _ (get_or-set_same c.args.bounds.now 0 0 0 (omega (arith, c.requires.bounds_fit)));
      bounds-size = refl;
      edges-size = refl;
      bounds_rest = only_first_none _ _;
      edges_rest = only_first_none _ _;
    }

pub edges_at-requires : goal.edges_at-requires
edges_at-requires c = held_readable (c.requires.held _ (at_place 0 c.args.chosen.now c.loop-i.i c.loop-i-test.true)) c.wide.ensures

pub put_risen-at-requires : goal.put_risen-at-requires
put_risen-at-requires c =
    let behind = left_behind c.args.cuts.now c.args.members.now c.args.chosen.now c.loop-i.i c.loop-i.at c.edges_at.result.now c.loop-i-test.true c.loop-i.invariant.left (held_edges c.wide.ensures c.edges_at.ensures) in
    omega (arith, behind, c.loop-i.invariant.edges-size, c.requires.edges_fit)

pub overflow_cast-bounds : goal.overflow_cast-bounds
overflow_cast-bounds c =
    let behind = left_behind c.args.cuts.now c.args.members.now c.args.chosen.now c.loop-i.i c.loop-i.at c.edges_at.result.now c.loop-i-test.true c.loop-i.invariant.left (held_edges c.wide.ensures c.edges_at.ensures) in
    omega (arith, behind, put_behind c.edges_at.result.now c.put_risen-at.ensures, c.requires)

pub loop-i-preserved : goal.loop-i-preserved
loop-i-preserved c =
    let taken = held_edges c.wide.ensures c.edges_at.ensures in
    let behind = left_behind c.args.cuts.now c.args.members.now c.args.chosen.now c.loop-i.i c.loop-i.at c.edges_at.result.now c.loop-i-test.true c.loop-i.invariant.left taken in
    let ends = put_behind c.edges_at.result.now c.put_risen-at.ensures in
    let room : c.loop-i.i + 1 < length c.loop-i.bounds = omega (arith, c.loop-i-test.true, c.loop-i.invariant.bounds-size, c.requires.bounds_fit, length-set c.args.bounds.now 0 0) in
    record {
      left = omega (arith, behind, ends);
      laid = laid_more c.loop-i.invariant.laid room c.put_risen-at.ensures (ap rise taken);
      bounds-size = length-set c.loop-i.bounds (c.loop-i.i + 1) _ ∙ c.loop-i.invariant.bounds-size;
      edges-size = put_length c.put_risen-at.ensures.put ∙ c.loop-i.invariant.edges-size;
      bounds_rest = only_first_store c.loop-i.invariant.bounds_rest (c.loop-i.i + 1) _ (omega (arith, c.loop-i-test.true));
      edges_rest =
          only_first_on c.loop-i.invariant.edges_rest
          (only_first_put c.put_risen-at.ensures.put (edges_of c.args.cuts.now c.args.members.now c.args.chosen.now) (omega (arith, c.put_risen-at.ensures.behind, behind, ends)));
    }

pub returns : goal.returns
returns c =
    let all : c.loop-i.i ≡ length c.args.chosen.now = omega (arith, c.loop-i-test.false) in
    let laid = rw all at c.loop-i.invariant.laid in
    record {
      laid = rw laid.bounded.last laid;
      bounds_rest = only_first_on (only_first_store (only_first_none _ c.args.bounds.now) 0 0 (omega arith)) c.loop-i.invariant.bounds_rest;
      edges_rest = c.loop-i.invariant.edges_rest;
    }
