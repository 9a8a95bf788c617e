-- `cover::write::put_starts` meets its contract. The loop's invariant: the starts of the trees so far are put.
-- Assumes nothing.
use Prim.Native.Nat.{ℕ}
use mathlib.Core.Path.{◌≡◌}
use mathlib.Core.List.{List, map}
use native.Mathlib.Omega.{arith}
use lib.ListN.{get_or, length-map}
use Rattle.lists.proofs.EachPlace.{made_from, made_map}
use Rattle.cover.proofs.Writing.{none_put, next_room, next_put, all_put, as_list}
use Rattle.cover.proofs.write.put_starts.Invariants.{field}
use Rattle.cover.proofs.write.put_starts.Goals as goal

whole : (starts chosen : List ℕ) → made_from (field starts) 0 chosen ≡ map (λ c. get_or starts c 0) chosen
whole starts chosen = made_map (λ c. get_or starts c 0) 0 chosen

pub loop-c-init : goal.loop-c-init
loop-c-init c = none_put (field c.args.starts.now) c.args.chosen.now c.args.at c.args.buf.now (rw (whole, length-map) c.requires)

pub put_u16-next-requires : goal.put_u16-next-requires
put_u16-next-requires c = next_room c.loop-c.invariant (omega arith)

pub loop-c-preserved : goal.loop-c-preserved
loop-c-preserved c = next_put c.loop-c.invariant (omega arith) (as_list _ (rw c.number_at.ensures.is at c.put_u16-next.ensures))

pub returns : goal.returns
returns c = rw whole at (all_put c.loop-c.invariant (omega arith))
