-- `gate_replies::fixed::write_sure` meets its contract: the word, the limit, `yes` or `no`, and the number of trees, one behind the other.
-- Assumes nothing.
use mathlib.Core.List.{◌++◌}
use native.Mathlib.Omega.{arith}
use lib.ListN.{length-append}
use Rattle.lists.specs.Put.{PutTo}
use Rattle.lists.proofs.Put.{put_behind}
use Rattle.reply_text.specs.Lines.{bytes_of, spaced}
use Rattle.reply_text.proofs.TextLengths.{spaced_few, last_few}
use Rattle.gate_replies.specs.Fixed.{yes_word, sure_line}
use Rattle.gate_replies.proofs.BehindRoom.{behind_room}
use Rattle.gate_replies.proofs.FixedLines.{yes_few}
use Rattle.gate_replies.proofs.fixed.write_sure.Goals as goal

pub put_spaced-behind_limit-requires : goal.put_spaced-behind_limit-requires
put_spaced-behind_limit-requires c = behind_room _ c.put_word-behind_word.ensures (omega (arith, spaced_few c.args.limit (omega (arith, c.ranges.limit.fits)), c.requires))

pub put_yes-behind_yes-requires : goal.put_yes-behind_yes-requires
put_yes-behind_yes-requires c =
    let limit_put : PutTo 0 (bytes_of "cover" ++ spaced c.args.limit) c.args.out.now c.put_spaced-behind_limit.new.out c.put_spaced-behind_limit.result = put_behind c.put_word-behind_word.ensures c.put_spaced-behind_limit.ensures in
    behind_room _ limit_put
    (omega (
      arith,
      spaced_few c.args.limit (omega (arith, c.ranges.limit.fits)),
      yes_few c.args.sure,
      length-append (bytes_of "cover") (spaced c.args.limit),
      c.requires,
    ))

pub put_last-requires : goal.put_last-requires
put_last-requires c =
    let limit_put : PutTo 0 (bytes_of "cover" ++ spaced c.args.limit) c.args.out.now c.put_spaced-behind_limit.new.out c.put_spaced-behind_limit.result = put_behind c.put_word-behind_word.ensures c.put_spaced-behind_limit.ensures in
    let yes_put : PutTo 0 ((bytes_of "cover" ++ spaced c.args.limit) ++ yes_word c.args.sure) c.args.out.now c.put_yes-behind_yes.new.out c.put_yes-behind_yes.result = put_behind limit_put c.put_yes-behind_yes.ensures in
    behind_room _ yes_put
    (omega (
      arith,
      spaced_few c.args.limit (omega (arith, c.ranges.limit.fits)),
      last_few c.args.t (omega (arith, c.ranges.t.fits)),
      yes_few c.args.sure,
      length-append (bytes_of "cover") (spaced c.args.limit),
      length-append (bytes_of "cover" ++ spaced c.args.limit) (yes_word c.args.sure),
      c.requires,
    ))

pub returns : goal.returns
unfolding sure_line
returns c = put_behind c.put_word-behind_word.ensures (put_behind c.put_spaced-behind_limit.ensures (put_behind c.put_yes-behind_yes.ensures c.put_last.ensures))
