-- `gate_replies::full::write_front` meets its contract: what the reply says, the length, the front, and the last byte, one behind the other.
-- Assumes nothing.
use mathlib.Core.Path.{ap, ◌∙◌}
use mathlib.Core.List.{◌++◌}
use native.Mathlib.Omega.{arith}
use lib.ListN.{length, length-append}
use Rattle.lists.specs.Put.{PutTo}
use Rattle.lists.proofs.Put.{put_behind}
use Rattle.replies.specs.Replies.{says}
use Rattle.gate_replies.specs.Fields.{field}
use Rattle.gate_replies.specs.Full.{head_of, full_of}
use Rattle.replies.specs.Replies.{bit_of}
use Rattle.gate_replies.proofs.FieldLaws.{field_length}
use Rattle.gate_replies.proofs.FullReplies.{head_few}
use Rattle.gate_replies.proofs.BehindRoom.{behind_room}
use Rattle.gate_replies.proofs.full.write_front.Goals as goal

pub put_field-behind_length-requires : goal.put_field-behind_length-requires
put_field-behind_length-requires c = behind_room 4 c.put_said-behind_said.ensures (omega (arith, head_few c.args.reply, c.requires))

pub put_word-behind_front-requires : goal.put_word-behind_front-requires
put_word-behind_front-requires c =
    let length_put : PutTo 0 (head_of (says c.args.reply) ++ field 4 (length c.args.front.now)) c.args.out.now c.put_field-behind_length.new.out c.put_field-behind_length.result = put_behind c.put_said-behind_said.ensures c.put_field-behind_length.ensures in
    behind_room (length c.args.front.now) length_put
    (omega (
      arith,
      head_few c.args.reply,
      field_length 4 (length c.args.front.now),
      length-append (head_of (says c.args.reply)) (field 4 (length c.args.front.now)),
      c.requires,
    ))

pub put_field-requires : goal.put_field-requires
put_field-requires c =
    let length_put : PutTo 0 (head_of (says c.args.reply) ++ field 4 (length c.args.front.now)) c.args.out.now c.put_field-behind_length.new.out c.put_field-behind_length.result = put_behind c.put_said-behind_said.ensures c.put_field-behind_length.ensures in
    behind_room 1 (put_behind length_put c.put_word-behind_front.ensures)
    (omega (
      arith,
      head_few c.args.reply,
      field_length 4 (length c.args.front.now),
      length-append (head_of (says c.args.reply)) (field 4 (length c.args.front.now)),
      length-append (head_of (says c.args.reply) ++ field 4 (length c.args.front.now)) c.args.front.now,
      c.requires,
    ))

pub returns : goal.returns
unfolding full_of
returns c =
    put_behind c.put_said-behind_said.ensures
    (put_behind c.put_field-behind_length.ensures
    (put_behind c.put_word-behind_front.ensures (rw (c.bit.ensures ∙ ap bit_of c.is_untouched.ensures) at c.put_field.ensures)))
