-- `gate_replies::fields::put_field` meets its contract. The loop's invariant: the bytes so far, with those of the rest of the number, are the field.
-- Assumes nothing.
use Prim.Native.Nat.{◌-◌}
use mathlib.Core.Path.{◌≡◌}
use mathlib.Core.List.{◌++◌}
use lib.ListN.{take}
use Rattle.gate_replies.specs.Fields.{field}
use Rattle.gate_replies.proofs.fields.put_field.Given as goal

abbrev pub invariant-loop-byte : goal.invariant-loop-byte
invariant-loop-byte l = take l.byte-index l.byte-items ++ field (l.width - l.byte-index) l.rest ≡ field l.width l.x
