-- `near::vertices::add_root` meets its contract. The loop's invariant: the root is added to the words of the first v vertices. Assumes nothing.
use Rattle.lists.proofs.SetUpTo.{SetUpTo}
use Rattle.near.proofs.NearWords.{word_with}
use Rattle.near.proofs.vertices.add_root.Given as goal

abbrev pub invariant-loop-v : goal.invariant-loop-v
invariant-loop-v l = SetUpTo (word_with l.limit l.row l.initial.near) l.v l.initial.near l.near
