-- `near::vertices::add_run` meets its contract. The loop's invariant: the run is added to the words of the first v vertices. Assumes nothing.
use Prim.Native.Nat.{ℕ, ◌+◌, ◌*◌, ◌-◌, ◌%◌, ◌^◌, ◌<◌}
use mathlib.Core.Path.{◌≡◌}
use mathlib.Core.Bool.{cond}
use mathlib.Core.List.{List}
use native.Mathlib.Omega.{arith}
use lib.Dec.{leb, ltb}
use lib.ListN.{length, get_or}
use Rattle.lists.proofs.SetUpTo.{set_none}
use Rattle.near.specs.Vertices.{RunAsked}
use Rattle.near.proofs.BitsMade.{run_fits, shift_small, shifted}
use Rattle.near.proofs.NearWords.{word_with_run, run_more, run_all}
use borrow.Author.Rules.{rules}
use Rattle.near.proofs.vertices.add_run.Goals as goal

-- The next word has room for the run. What is written is that word with the run, and it fits.
module _ {r : ℕ} (limit : ℕ) (near : List ℕ) {row before : List ℕ} (asked : RunAsked r row before) {v : ℕ} (inside : v < length before)
    (as_it_came : get_or near v 0 ≡ get_or before v 0) {shift bits own : ℕ} (shift_is : shift ≡ cond (ltb r 32) r 0) (bits_are : bits ≡ 2 ^ r - 1)
    (own_is : own ≡ cond (leb (get_or row v 0) limit) bits 0) where
  low : get_or near v 0 < 2 ^ (32 - r)
  low = omega (arith, asked.low v inside)

  written : get_or near v 0 * 2 ^ shift % 2 ^ 32 + own ≡ word_with_run r limit row near v
  written = let up = shifted (get_or near v 0) r asked.few low shift_is in cc (up, own_is, bits_are)

  written_fits : get_or near v 0 * 2 ^ shift % 2 ^ 32 + own < 4294967296
  written_fits = rw written (run_fits (leb (get_or row v 0) limit) _ r asked.few low)

pub loop-v-init : goal.loop-v-init
loop-v-init c = set_none _

pub overflow_cast-word : goal.overflow_cast-word
overflow_cast-word c =
    let small : c.shift_for-shift.result < 32 = shift_small c.args.r c.shift_for-shift.ensures in
    search rules

pub overflow_shl-word : goal.overflow_shl-word
overflow_shl-word c = shift_small c.args.r c.shift_for-shift.ensures

pub bounds-row-v : goal.bounds-row-v
bounds-row-v c = omega (arith, c.requires.room)

pub overflow_add-word : goal.overflow_add-word
overflow_add-word c =
    let fits =
    written_fits c.args.limit c.loop-v.near c.requires c.loop-v-test.true (c.loop-v.invariant.rest c.loop-v.v (omega arith)) c.shift_for-shift.ensures
    c.first_bits-bits.ensures c.bits_within.ensures
    in
    search rules

pub loop-v-preserved : goal.loop-v-preserved
loop-v-preserved c =
    run_more c.args.r c.args.limit c.args.row.now c.loop-v.invariant c.loop-v-test.true
    (written c.args.limit c.loop-v.near c.requires c.loop-v-test.true (c.loop-v.invariant.rest c.loop-v.v (omega arith)) c.shift_for-shift.ensures
    c.first_bits-bits.ensures c.bits_within.ensures)

pub returns : goal.returns
returns c = run_all _ _ _ c.loop-v.invariant c.loop-v-test.false
