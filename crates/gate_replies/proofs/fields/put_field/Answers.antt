-- `gate_replies::fields::put_field` meets its contract. The loop's invariant: the bytes so far, with those of the rest of the number, are the field.
-- Assumes nothing.
use Prim.Native.Nat.{ℕ, ◌+◌, ◌-◌, ◌≤◌}
use mathlib.Core.Path.{◌≡◌}
use mathlib.Core.List.{List}
use native.Mathlib.Omega.{arith}
use lib.ListN.{length, take, drop, length-take, length-drop}
use Rattle.cover.proofs.Writing.{put_copied}
use Rattle.gate_replies.proofs.FieldLaws.{field_length, field_more, field_whole}
use Rattle.gate_replies.proofs.fields.put_field.Goals as goal

-- The bytes that are written are as many as the field is wide.
part_length : (at width : ℕ) (out : List ℕ) → at + width ≤ length out → length (take (at + width - at) (drop at out)) ≡ width
part_length at width out h = simp (length-take, length-drop) (omega arith)

pub loop-byte-preserved : goal.loop-byte-preserved
loop-byte-preserved c =
    let long = part_length c.args.at c.args.width c.args.out.now c.requires in
    field_more c.args.width c.args.x c.loop-byte.byte-items c.loop-byte.byte-index c.loop-byte.rest (omega (arith, long)) c.loop-byte.invariant (omega (arith, long))

pub returns : goal.returns
returns c =
    let long = part_length c.args.at c.args.width c.args.out.now c.requires in
    put_copied _ _ (omega (arith, field_length c.args.width c.args.x)) c.requires
    (field_whole c.args.width c.args.x c.loop-byte.byte-items c.loop-byte.byte-index c.loop-byte.rest (omega (arith, long)) c.loop-byte.invariant (omega (arith, long)))
