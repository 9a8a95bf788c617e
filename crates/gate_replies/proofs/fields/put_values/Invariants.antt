-- `gate_replies::fields::put_values` meets its contract. The loop's invariant: the values so far are put.
-- Assumes nothing.
use lib.ListN.{drop}
use Rattle.lists.proofs.PutOneByOne.{PutSoFar}
use Rattle.gate_replies.specs.Fields.{fields}
use Rattle.gate_replies.proofs.fields.put_values.Given as goal

abbrev pub invariant-loop-value : goal.invariant-loop-value
invariant-loop-value l = PutSoFar l.at (fields 8 l.values) (fields 8 (drop l.value-index l.values)) l.initial.out l.out l.next
