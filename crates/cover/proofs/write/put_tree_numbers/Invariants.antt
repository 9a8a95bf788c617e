-- `cover::write::put_tree_numbers` meets its contract. The loop's invariant: the numbers of the first j trees are put.
-- Assumes nothing.
use Prim.Native.Nat.{ℕ}
use mathlib.Core.List.{List}
use lib.ListN.{replicate}
use Rattle.cover.specs.Chosen.{size_at}
use Rattle.cover.proofs.Writing.{FirstPut}
use Rattle.cover.proofs.write.put_tree_numbers.Given as goal

-- Each chosen tree makes its number, once for each of its edges.
abbrev pub numbers : List ℕ → ℕ → ℕ → List ℕ
numbers bounds j c = replicate (size_at bounds c) j

abbrev pub invariant-loop-j : goal.invariant-loop-j
invariant-loop-j l = FirstPut (numbers l.bounds) l.chosen l.j l.at l.initial.buf l.buf l.next
