-- `cover::write::put_starts` meets its contract. The loop's invariant: the starts of the trees so far are put.
-- Assumes nothing.
use Prim.Native.Nat.{ℕ}
use mathlib.Core.List.{List, [], ◌∷◌}
use lib.ListN.{get_or}
use Rattle.cover.proofs.Writing.{FirstPut}
use Rattle.cover.proofs.write.put_starts.Given as goal

-- Each chosen tree makes one field, its start.
abbrev pub field : List ℕ → ℕ → ℕ → List ℕ
field starts j c = get_or starts c 0 ∷ []

abbrev pub invariant-loop-c : goal.invariant-loop-c
invariant-loop-c l = FirstPut (field l.starts) l.chosen l.c-index l.at l.initial.buf l.buf l.next
