-- `split::split_roots` meets its contract. The loop's invariant: the first j roots' trees are grown and split. Assumes nothing.
use mathlib.Core.Path.{◌≡◌, refl, sym, ◌∙◌}
use native.Mathlib.Omega.{arith}
use lib.ListN.{length}
use Rattle.split.specs.ForestSplit.{lent}
use Rattle.split.proofs.ChildWalked.{walked_of}
use Rattle.split.proofs.RootsSplit.{root_walkable, left_puttable, left_number, roots_more}
use Rattle.split.proofs.ForestSplit.{roots_first, all_split}
use Rattle.split.proofs.split_roots.Goals as goal

pub bounds-cuts-0 : goal.bounds-cuts-0
bounds-cuts-0 c = omega (arith, c.requires.splittable.cuts_room)

pub loop-j-init : goal.loop-j-init
loop-j-init c = roots_first c.requires

pub walk_node-left-requires : goal.walk_node-left-requires
walk_node-left-requires c =
    root_walkable c.loop-j.invariant c.loop-j-test.true refl (c.requires.splittable.roots_inside c.loop-j.j c.loop-j-test.true) c.requires.splittable.around

pub overflow_cast-lefts : goal.overflow_cast-lefts
overflow_cast-lefts c =
    let inside = c.requires.splittable.roots_inside c.loop-j.j c.loop-j-test.true in
    let walked = walked_of c.loop-j.invariant.room.stack_length c.walk_node-left.ensures in
    omega (arith, left_number c.loop-j.invariant c.loop-j-test.true refl inside walked c.requires.splittable.roots_few)

pub put_piece-s-requires : goal.put_piece-s-requires
put_piece-s-requires c =
    let inside = c.requires.splittable.roots_inside c.loop-j.j c.loop-j-test.true in
    let walked = walked_of c.loop-j.invariant.room.stack_length c.walk_node-left.ensures in
    left_puttable c.loop-j.invariant c.loop-j-test.true refl inside walked

pub loop-j-preserved : goal.loop-j-preserved
loop-j-preserved c =
    let inside = c.requires.splittable.roots_inside c.loop-j.j c.loop-j-test.true in
    let walked = walked_of c.loop-j.invariant.room.stack_length c.walk_node-left.ensures in
    roots_more c.loop-j.invariant c.loop-j-test.true refl inside walked refl c.put_piece-s.ensures

pub returns : goal.returns
returns c =
    let q : c.loop-j.j ≡ length c.args.roots.now = omega (arith, c.loop-j.invariant.within, c.loop-j-test.false) in
    record {
      split = all_split (lent c.args.starts.now c.args.cuts.now c.args.members.now c.args.lefts.now) (rw q at c.loop-j.invariant);
      marks_scratch = c.loop-j.invariant.room.marks_length ∙ sym c.requires.marks_length;
      stack_scratch = c.loop-j.invariant.room.stack_length;
    }
