-- `bunches::piece::put_piece` meets its contract: the edges are copied, and the start and the bound are stored.
-- Assumes nothing.
use Prim.Native.Nat.{ℕ, ◌-◌}
use mathlib.Core.Path.{◌≡◌, refl}
use mathlib.Core.List.{List}
use native.Mathlib.Omega.{arith}
use lib.ListN.{length, take, drop}
use lib.Seq.{slice, length-slice}
use Rattle.lists.proofs.SegmentSizes.{slice_taken}
use Rattle.bunches.proofs.PiecesAdded.{piece_added}
use Rattle.bunches.proofs.piece.put_piece.Goals as goal

pub copy_edges-requires : goal.copy_edges-requires
copy_edges-requires c = omega (arith, length-slice c.args.from c.args.s.top c.args.stack.now (omega (arith, c.requires.fits)), c.requires.fits, c.requires.on_stack, c.requires.sound.members_room)

pub returns : goal.returns
returns c =
    let edges : List ℕ = slice c.args.from c.args.s.top c.args.stack.now in
    let taken : edges ≡ take (c.args.s.top - c.args.from) (drop c.args.from c.args.stack.now) =
    slice_taken c.args.from c.args.s.top c.args.stack.now c.requires.on_stack (omega (arith, c.requires.fits)) in
    let count : length edges ≡ c.args.s.top - c.args.from = length-slice c.args.from c.args.s.top c.args.stack.now (omega (arith, c.requires.fits)) in
    record {
      added =
          rw count at
          (piece_added c.requires.sound c.args.v c.requires.inside edges (omega (arith, c.requires.fits, c.requires.on_stack)) (omega (arith, c.requires.starts_room, c.requires.on_stack))
          (omega (arith, c.requires.cuts_room, c.requires.on_stack))
          (rw (← taken) at c.copy_edges.ensures));
      used_is = omega (arith, c.requires.on_stack);
      top_is = refl;
      weight_is = refl;
    }
