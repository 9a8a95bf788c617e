-- `deficient::take_starts` meets its contract. The loop's invariant: the starts of the pieces before i are written.
-- Assumes nothing.
use Prim.Native.Nat.{ℕ}
use mathlib.Core.Path.{◌≡◌, sym, ap, ◌∙◌}
use native.Mathlib.Omega.{arith}
use lib.ListN.{length, get_or, length-set}
use Rattle.lists.proofs.PutMapped.{put_map_more, put_map_all}
use Rattle.deficient.proofs.take_starts.Goals as goal

pub loop-i-preserved : goal.loop-i-preserved
loop-i-preserved c =
    let start : ℕ → ℕ = λ x. get_or c.args.starts.now x 0 in
    let read : start (get_or c.args.chosen.now c.loop-i.i 0) ≡ c.number_at.result = sym (c.number_at.ensures.is ∙ ap start c.wide.ensures.is) in
    record {
      size = length-set c.loop-i.laid c.loop-i.i _ ∙ c.loop-i.invariant.size;
      putting = put_map_more start c.args.chosen.now c.loop-i.invariant.putting 0 _ c.loop-i-test.true (omega arith) read;
    }

pub returns : goal.returns
returns c =
    let all : c.loop-i.i ≡ length c.args.chosen.now = omega (arith, c.loop-i-test.false) in
    rw all at (put_map_all (λ x. get_or c.args.starts.now x 0) c.args.chosen.now c.loop-i.invariant.putting c.loop-i-test.false)
