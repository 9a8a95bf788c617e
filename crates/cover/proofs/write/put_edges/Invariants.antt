-- `cover::write::put_edges` meets its contract. The loop's invariant: the edges of the trees so far are put.
-- Assumes nothing.
use Prim.Native.Nat.{ℕ}
use mathlib.Core.List.{List}
use Rattle.lists.specs.Segments.{segment}
use Rattle.cover.proofs.Writing.{FirstPut}
use Rattle.cover.proofs.write.put_edges.Given as goal

-- Each chosen tree makes its edges.
abbrev pub fields : List ℕ → List ℕ → ℕ → ℕ → List ℕ
fields bounds edges j c = segment bounds edges c

abbrev pub invariant-loop-c : goal.invariant-loop-c
invariant-loop-c l = FirstPut (fields l.bounds l.edges) l.chosen l.c-index l.at l.initial.buf l.buf l.next
