-- What is left of the question of the walk where the cover passed the check.
-- Assumes nothing.
use Rattle.std.specs.Prelude.{ℕ, ◌≤◌, List, [], ◌∷◌, ltb, length, Result}
use Rattle.lists.specs.Member.{◌∈◌}
use Rattle.graph.specs.Graph.{Graph}
use Rattle.graph.specs.Fault.{Fault, fault_if, fault_unless, first_fault, refused_or}
use Rattle.rules.specs.Cover.{Tree, IsTree}
use Rattle.rules.specs.CoverBytes.{trees_in, tree_in, decode}
use Rattle.rules.specs.ClosedWalk.{stops_of, length_of, closed_walk}
use Rattle.rules.specs.WalkQuestion.{least_walk_room, WalkReply, refused, walks}
use Rattle.cover.specs.Runs.{CoverGiven}
use Rattle.admit.specs.declared.refusal.Refusal.{Refusal}
use Rattle.closed_walk.specs.declared.walk.Walked.{Walked}
use Rattle.closed_walk.specs.Promise.{WalkReplied}

-- A cover that passed the check.
pub record CheckedGiven (g : Graph) (c : List ℕ) : Type 0 where
  pub cover : CoverGiven g c
  pub are_trees : (t : Tree) → t ∈ decode c → IsTree g t

-- One of its trees, and room for any walk.
pub record TreeAsked (g : Graph) (c : List ℕ) (j room : ℕ) : Type 0 where
  pub cover : CoverGiven g c
  pub is_tree : IsTree g (tree_in c j)
  pub fits : least_walk_room ≤ room

-- What is answered of a tree.
abbrev pub reply_to : Graph → Tree → WalkReply
reply_to g t = let walk = closed_walk g t in walks (stops_of g walk) (length_of g walk)

abbrev pub TreeWalked : Graph → List ℕ → ℕ → List ℕ → List ℕ → Result Walked Refusal → Type 0
TreeWalked g c j before after r = WalkReplied (reply_to g (tree_in c j)) before after r

-- The two numbers that the walk alone has.
abbrev pub tree_fault : List ℕ → ℕ → ℕ → Fault
tree_fault c j room = first_fault (fault_unless (ltb j (trees_in c)) 51 ∷ fault_if (ltb room least_walk_room) 52 ∷ [])

abbrev pub CheckedWalked : Graph → List ℕ → ℕ → List ℕ → List ℕ → Result Walked Refusal → Type 0
CheckedWalked g c j before after r = WalkReplied (refused_or refused (tree_fault c j (length before)) (reply_to g (tree_in c j))) before after r
