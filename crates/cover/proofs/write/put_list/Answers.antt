-- `cover::write::put_list` meets its contract. The loop's invariant: the fields of the elements so far are put.
-- Assumes nothing.
use Prim.Native.Nat.{ℕ}
use mathlib.Core.Path.{◌≡◌, ◌∙◌}
use mathlib.Core.List.{List, map-id}
use native.Mathlib.Omega.{arith}
use Rattle.lists.proofs.EachPlace.{made_from, made_map}
use Rattle.cover.proofs.Writing.{none_put, next_room, next_put, all_put, as_list}
use Rattle.cover.proofs.write.put_list.Invariants.{field}
use Rattle.cover.proofs.write.put_list.Goals as goal

whole : (xs : List ℕ) → made_from field 0 xs ≡ xs
whole xs = made_map (λ x. x) 0 xs ∙ map-id xs

pub loop-x-init : goal.loop-x-init
loop-x-init c = none_put field c.args.xs.now c.args.at c.args.buf.now (rw whole c.requires)

pub put_u16-next-requires : goal.put_u16-next-requires
put_u16-next-requires c = next_room c.loop-x.invariant (omega arith)

pub loop-x-preserved : goal.loop-x-preserved
loop-x-preserved c = next_put c.loop-x.invariant (omega arith) (as_list _ c.put_u16-next.ensures)

pub returns : goal.returns
returns c = rw whole at (all_put c.loop-x.invariant (omega arith))
