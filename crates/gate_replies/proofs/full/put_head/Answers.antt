-- `gate_replies::full::put_head` meets its contract: the number, how many values there are, and these, one behind the other.
-- Assumes nothing.
use Prim.Native.Nat.{◌*◌}
use native.Mathlib.Omega.{arith}
use lib.ListN.{length, length-append}
use Rattle.lists.proofs.Put.{put_behind}
use Rattle.gate_replies.specs.Fields.{field}
use Rattle.gate_replies.specs.Full.{head_of}
use Rattle.gate_replies.proofs.FieldLaws.{field_length}
use Rattle.gate_replies.proofs.BehindRoom.{behind_room}
use Rattle.gate_replies.proofs.full.put_head.Goals as goal

pub put_field-behind_count-requires : goal.put_field-behind_count-requires
put_field-behind_count-requires c = behind_room 2 c.put_field-behind_number.ensures (omega (arith, field_length 2 c.args.number, c.requires))

pub put_values-requires : goal.put_values-requires
put_values-requires c =
    let count = length c.args.values.now in
    behind_room (8 * count) (put_behind c.put_field-behind_number.ensures c.put_field-behind_count.ensures)
    (omega (arith, field_length 2 c.args.number, field_length 2 count, length-append (field 2 c.args.number) (field 2 count), c.requires))

pub returns : goal.returns
unfolding head_of
returns c = put_behind c.put_field-behind_number.ensures (put_behind c.put_field-behind_count.ensures c.put_values.ensures)
