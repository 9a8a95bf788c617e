-- `cover::write::put_list` meets its contract. The loop's invariant: the fields of the elements so far are put.
-- Assumes nothing.
use Prim.Native.Nat.{ℕ}
use mathlib.Core.List.{List, [], ◌∷◌}
use Rattle.cover.proofs.Writing.{FirstPut}
use Rattle.cover.proofs.write.put_list.Given as goal

-- Each number makes one field.
abbrev pub field : ℕ → ℕ → List ℕ
field i x = x ∷ []

abbrev pub invariant-loop-x : goal.invariant-loop-x
invariant-loop-x l = FirstPut field l.xs l.x-index l.at l.initial.buf l.buf l.next
