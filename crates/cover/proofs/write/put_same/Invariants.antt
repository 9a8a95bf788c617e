-- `cover::write::put_same` meets its contract. The loop's invariant: as many fields are put as turns are done.
-- Assumes nothing.
use lib.ListN.{replicate}
use Rattle.lists.specs.Put.{PutTo}
use Rattle.rules.specs.CoverBytes.{u16_list}
use Rattle.cover.proofs.write.put_same.Given as goal

abbrev pub invariant-loop : goal.invariant-loop
invariant-loop l = PutTo l.at (u16_list (replicate l.counter l.x)) l.initial.buf l.buf l.next
