-- What answering a rooted trial asks, over what is prepared once a question (document 01, a "yard" trial, steps 2 to 6).
-- Assumes nothing.
use Rattle.std.specs.Prelude.{ℕ, ◌*◌, ◌≤◌, ◌≡◌, Bool, List, length}
use Rattle.std.proofs.Math.Option.{none}
use Rattle.lists.specs.Put.{OnlyFirst}
use Rattle.graph.specs.Graph.{Graph}
use Rattle.rules.specs.Cover.{rooted}
use Rattle.rules.specs.Order.{ordered}
use Rattle.rules.specs.Labels.{together}
use Rattle.rules.specs.Forest.{keep}
use Rattle.rules.specs.RootedTrial.{unjoined_at}
use Rattle.rules.specs.Questions.{least_room, most_limit}
use Rattle.replies.specs.declared.Reply.{Reply}
use Rattle.replies.specs.Replies.{Answers}
use Rattle.rooted_state.specs.Placed.{TrialArrays, PartsPlaced, CoverReady}
use Rattle.rooted_state.specs.Prepared.{Prepared}

-- What the answer at a limit asks: what is prepared, a limit no larger than document 01 has it, and a large buffer.
pub record RootedAnswerAsked (g : Graph) (roots : List ℕ) (limit : ℕ) (order kept bounds arcs distances lasts : List ℕ) (room : ℕ) : Type 0 where
  pub prepared : Prepared g roots order kept bounds arcs distances lasts
  pub limit_most : limit ≤ most_limit
  pub most : least_room ≤ room

-- What is asked for the parts: the edges within the limit join every vertex to a root.
pub record JoinedAsked (g : Graph) (roots : List ℕ) (limit : ℕ) (order bounds arcs distances lasts : List ℕ) (room : ℕ) : Type 0 where
  pub asked : RootedAnswerAsked g roots limit order (keep g (together roots) (ordered g)) bounds arcs distances lasts room
  pub joined : unjoined_at g roots limit ≡ none

-- The same, with the arrays that are lent for it: for each vertex and each root room for a byte in the rows, and for an edge.
pub record JoinedLent (g : Graph) (roots : List ℕ) (limit : ℕ) (order bounds arcs distances lasts rows : List ℕ) (edges_room room : ℕ) : Type 0 where
  pub asked : JoinedAsked g roots limit order bounds arcs distances lasts room
  pub rows_room : g.vertices * length roots ≤ length rows
  pub edges_fit : length roots * g.vertices ≤ edges_room

-- The same without them, where vertices and roots are so few that arrays of that size are enough.
pub record JoinedFits (g : Graph) (roots : List ℕ) (limit : ℕ) (order bounds arcs distances lasts : List ℕ) (size room : ℕ) : Type 0 where
  pub asked : JoinedAsked g roots limit order bounds arcs distances lasts room
  pub fits : g.vertices * length roots ≤ size
  pub size_most : size ≤ 8192

-- What is asked where the parts are placed: what a cover is made by, and the arrays of the trial, with a row for each part.
pub record PlacedGiven (g : Graph) (roots : List ℕ) (limit : ℕ) (order distances lasts : List ℕ) (a : TrialArrays) (parts : ℕ) (assigned : Bool)
    (edges_room room : ℕ) : Type 0 where
  pub cover : CoverReady g roots limit order distances lasts edges_room room
  pub joined : unjoined_at g roots limit ≡ none
  pub placed : PartsPlaced g roots limit a parts assigned
  pub rows_room : parts * length roots ≤ length a.rows

-- The answer where the parts are placed. Behind an element for each vertex and each root the array of edges is as it came.
pub record PlacedReplied (g : Graph) (roots : List ℕ) (limit : ℕ) (edges₀ edges before after : List ℕ) (r : Reply) : Type 0 where
  pub answers : Answers g (rooted roots) limit before after r
  pub edges_rest : OnlyFirst (length roots * g.vertices) edges₀ edges

-- The answer where every vertex is joined to a root. So it is with the edges, and with the rows.
pub record JoinedReplied (g : Graph) (roots : List ℕ) (limit : ℕ) (rows₀ rows edges₀ edges before after : List ℕ) (r : Reply) : Type 0 where
  pub answers : Answers g (rooted roots) limit before after r
  pub rows_rest : OnlyFirst (g.vertices * length roots) rows₀ rows
  pub edges_rest : OnlyFirst (length roots * g.vertices) edges₀ edges
