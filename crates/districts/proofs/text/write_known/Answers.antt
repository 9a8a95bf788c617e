-- The word and three numbers, one behind the other.
use Rattle.std.proofs.Common.{ℕ, ◌^◌, ◌<◌, ◌≡◌, Bool, true, false, arith, ◌++◌, length-append}
use Rattle.lists.proofs.Put.{put_behind}
use Rattle.reply_text.specs.Lines.{bytes_of, spaced}
use Rattle.reply_text.proofs.TextLengths.{spaced_few, last_few}
use Rattle.replies.specs.Replies.{bit_of}
use Rattle.gate_replies.proofs.BehindRoom.{behind_room}
use Rattle.districts.specs.Text.{known_text}
use Rattle.districts.proofs.text.write_known.Goals as goal

-- A bit is a small number.
bit_small : {r : ℕ} (is : Bool) → r ≡ bit_of is → r < 2 ^ 64
bit_small true q = omega arith
bit_small false q = omega arith

pub put_spaced-behind_trials-requires : goal.put_spaced-behind_trials-requires
put_spaced-behind_trials-requires c =
    behind_room _ c.put_word-behind_word.ensures (omega (arith, spaced_few c.args.trials c.ranges.trials.fits, c.requires))

pub put_spaced-behind_floor-requires : goal.put_spaced-behind_floor-requires
put_spaced-behind_floor-requires c =
    behind_room _ (put_behind c.put_word-behind_word.ensures c.put_spaced-behind_trials.ensures)
    (omega (
      arith,
      spaced_few c.args.trials c.ranges.trials.fits,
      spaced_few c.args.floor c.ranges.floor.fits,
      length-append (bytes_of "known") (spaced c.args.trials),
      c.requires,
    ))

pub put_last-requires : goal.put_last-requires
put_last-requires c =
    behind_room _ (put_behind (put_behind c.put_word-behind_word.ensures c.put_spaced-behind_trials.ensures) c.put_spaced-behind_floor.ensures)
    (omega (
      arith,
      spaced_few c.args.trials c.ranges.trials.fits,
      spaced_few c.args.floor c.ranges.floor.fits,
      last_few c.bit.result (bit_small c.args.spent c.bit.ensures),
      length-append (bytes_of "known") (spaced c.args.trials),
      length-append (bytes_of "known" ++ spaced c.args.trials) (spaced c.args.floor),
      c.requires,
    ))

pub returns : goal.returns
unfolding known_text
returns c =
    put_behind c.put_word-behind_word.ensures
    (put_behind c.put_spaced-behind_trials.ensures (put_behind c.put_spaced-behind_floor.ensures (rw c.bit.ensures at c.put_last.ensures)))
