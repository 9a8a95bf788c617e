-- What the question of the walk promises on every input, refused ones too (document 02, A.1).
-- Assumes nothing.
use Rattle.std.specs.Prelude.{ℕ, ◌+◌, ◌*◌, ◌≤◌, ◌≡◌, List, [], ◌∷◌, ◌↔◌, length, Result, Ok, Err}
use Rattle.std.proofs.Math.Option.{some, none}
use Rattle.lists.specs.Member.{◌∈◌}
use Rattle.graph.specs.Graph.{Graph}
use Rattle.rules.specs.Cover.{Tree, IsTree, Covers, tree_weight}
use Rattle.rules.specs.CoverBytes.{tree_in}
use Rattle.rules.specs.Questions.{Question, graph_in}
use Rattle.rules.specs.ClosedWalk.{stops_of, length_of, closed_walk}
use Rattle.rules.specs.WalkRule.{IsClosedWalk}
use Rattle.rules.specs.WalkQuestion.{walk_fault, WalkReply, refused, walks, ask_walk, walk_after}
use Rattle.admit.specs.declared.refusal.Refusal.{Refusal}
use Rattle.admit.specs.Refusals.{number_of}
use Rattle.replies.specs.Replies.{Said, said}
use Rattle.closed_walk.specs.declared.walk.Walked.{Walked}

-- What the rules' reply says, besides the stops that are written: a refusal its number, a walk 0, its count of stops and its length.
abbrev pub said_of : WalkReply → Said
said_of (refused number) = said number []
said_of (walks stops long) = said 0 (length stops ∷ long ∷ [])

-- What the program's answer says.
abbrev pub says : Result Walked Refusal → Said
says (Err f) = said (number_of f) []
says (Ok walk) = said 0 (walk.stops ∷ walk.length ∷ [])

-- The answer says what the rules' reply does, and the buffer is what that reply makes of it.
pub record WalkReplied (reply : WalkReply) (before after : List ℕ) (r : Result Walked Refusal) : Type 0 where
  pub same : says r ≡ said_of reply
  pub buffer : after ≡ walk_after reply before

-- What the walk along a tree is: the only one that is closed, crosses each edge of the tree exactly twice and no other, and goes by the rule;
-- "twice the tree's weight" long; "at most 511" stops, at the vertices that the tree covers.
pub record WalksTree (g : Graph) (t : Tree) : Type 0 where
  pub is_tree : IsTree g t
  pub exactly : (crossings : List ℕ) → IsClosedWalk g t crossings ↔ (crossings ≡ (closed_walk g t).crossings)
  pub long : length_of g (closed_walk g t) ≡ 2 * tree_weight g t
  pub count : length (stops_of g (closed_walk g t)) ≡ 2 * length t.edges + 1
  pub few : length (stops_of g (closed_walk g t)) ≤ 511
  pub passes : (v : ℕ) → (v ∈ stops_of g (closed_walk g t)) ↔ Covers g t v

-- The question of the walk. Refused exactly where documents 01 and 02 say so, with the number alone, and no lent byte changes. Otherwise the answer and
-- the buffer are those of the walk along the tree, which is what document 02 says of it.
pub record WalkPromise (q : Question) (c : List ℕ) (tree : ℕ) (before after : List ℕ) (r : Result Walked Refusal) : Type 0 where
  pub refuses : (n : ℕ) → walk_fault q c tree (length before) ≡ some n → (says r ≡ said n []) × (after ≡ before)
  pub rule : WalkReplied (ask_walk q c tree (length before)) before after r
  pub means : walk_fault q c tree (length before) ≡ none → WalksTree (graph_in q) (tree_in c tree)
