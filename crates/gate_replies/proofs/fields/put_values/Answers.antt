-- `gate_replies::fields::put_values` meets its contract. The loop's invariant: the values so far are put.
-- Assumes nothing.
use Prim.Native.Nat.{ℕ, ◌+◌, ◌<◌}
use mathlib.Core.Path.{◌≡◌, ap, ◌∙◌}
use mathlib.Core.List.{List, ◌++◌}
use native.Mathlib.Omega.{arith}
use lib.ListN.{length, drop, get_or}
use Rattle.lists.proofs.NextPlace.{rest_next, rest_none}
use Rattle.lists.proofs.PutOneByOne.{so_far_on, so_far_all, so_far_room}
use Rattle.gate_replies.specs.Fields.{field, fields}
use Rattle.gate_replies.proofs.FieldLaws.{field_length, fields_length, fields_none, fields_next}
use Rattle.gate_replies.proofs.fields.put_values.Goals as goal

-- The fields from the next value on: its own, and those behind it.
next_value : (values : List ℕ) (i : ℕ) → i < length values → fields 8 (drop i values) ≡ field 8 (get_or values i 0) ++ fields 8 (drop (i + 1) values)
next_value values i h = ap (fields 8) (rest_next values i h) ∙ fields_next 8 (get_or values i 0) (drop (i + 1) values)

pub put_field-next-requires : goal.put_field-next-requires
put_field-next-requires c =
    let value : ℕ = get_or c.args.values.now c.loop-value.value-index 0 in
    rw field_length at
    (so_far_room c.loop-value.invariant (field 8 value) _ (next_value c.args.values.now c.loop-value.value-index (omega arith)) (rw fields_length c.requires))

pub loop-value-preserved : goal.loop-value-preserved
loop-value-preserved c = so_far_on c.loop-value.invariant (next_value c.args.values.now c.loop-value.value-index (omega arith)) c.put_field-next.ensures

pub returns : goal.returns
returns c = so_far_all c.loop-value.invariant (ap (fields 8) (rest_none c.args.values.now c.loop-value.value-index (omega arith)) ∙ fields_none 8)
