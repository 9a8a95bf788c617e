-- The question of the walk along one tree of a filed cover (document 02, A.1), from bytes to its reply.
-- Assumes nothing.
use Rattle.std.specs.Prelude.{ℕ, List, [], ◌∷◌, ◌++◌, length, drop, ltb}
use Rattle.graph.specs.Fault.{Fault, fault_if, fault_unless, first_fault, refused_or}
use Rattle.rules.specs.CoverBytes.{u16_list, trees_in, tree_in}
use Rattle.rules.specs.Questions.{Question, graph_in, check_fault}
use Rattle.rules.specs.ClosedWalk.{Route, stops_of, length_of, closed_walk}

-- 52: "buffer below 1,022 bytes", the room of 511 stops.
abbrev pub least_walk_room : ℕ
least_walk_room = 1022

-- What is refused: all that the check refuses, then 51, "tree number not below t", and 52.
unfoldable pub walk_fault : Question → List ℕ → ℕ → ℕ → Fault
walk_fault q cover tree room =
    first_fault (check_fault q cover ∷ fault_unless (ltb tree (trees_in cover)) 51 ∷ fault_if (ltb room least_walk_room) 52 ∷ [])

-- The walk along that tree.
abbrev pub walk_in : Question → List ℕ → ℕ → Route
walk_in q cover tree = closed_walk (graph_in q) (tree_in cover tree)

-- What is answered: the number of a refusal, or the walk's stops and its length.
pub data WalkReply : Type 0 where
  refused : (number : ℕ) → WalkReply
  walks : (stops : List ℕ) (length : ℕ) → WalkReply

unfoldable pub ask_walk : Question → List ℕ → ℕ → ℕ → WalkReply
ask_walk q cover tree room =
    let walk = walk_in q cover tree in
    refused_or refused (walk_fault q cover tree room) (walks (stops_of (graph_in q) walk) (length_of (graph_in q) walk))

-- What is written: "each stop takes 2 bytes".
unfoldable pub stop_bytes : WalkReply → List ℕ
stop_bytes (refused number) = []
stop_bytes (walks stops length) = u16_list stops

-- The buffer afterwards: "the walk fills the buffer's first bytes, the rest is untouched".
unfoldable pub walk_after : WalkReply → List ℕ → List ℕ
walk_after reply buffer = stop_bytes reply ++ drop (length (stop_bytes reply)) buffer
