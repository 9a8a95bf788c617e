-- `unrooted_pieces::components::write_keys` meets its contract. The loop's invariant: the keys of the pieces before i are written.
-- Assumes nothing.
use native.Mathlib.Omega.{arith}
use Rattle.rules.specs.Held.{tree_at}
use Rattle.lists.proofs.SetUpTo.{set_only_first}
use Rattle.lists.proofs.OnlyFirst.{only_first_of_more}
use Rattle.unrooted_pieces.proofs.components.write_keys.Goals as goal

pub returns : goal.returns
unfolding tree_at
returns c = record { keyed = record { each = λ j h. c.loop-i.invariant.done j (omega arith) }; rest = only_first_of_more (set_only_first c.loop-i.invariant) _ (omega arith) }
