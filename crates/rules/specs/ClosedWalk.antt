-- The closed walk along a tree (document 02, A.1): "At every stop the lowest-numbered line of the tree not yet walked goes first. Where none is left,
-- the line by which the stop was first reached is walked back."
-- Assumes nothing.
use Rattle.std.specs.Prelude.{ℕ, zero, suc, ◌*◌, not, ◌&&◌, List, [], ◌∷◌, ◌++◌, length}
use Rattle.std.proofs.Math.Option.{Option, some, none}
use Rattle.lists.specs.Lists.{first_that, member}
use Rattle.graph.specs.Graph.{Graph}
use Rattle.rules.specs.Walk.{total_weight}
use Rattle.rules.specs.Cover.{Tree}
use Rattle.rules.specs.Grow.{far_end, touches}

-- A route: where it begins, and the edges that it crosses, in order. (With several edges between two vertices the stops do not tell which was crossed.)
pub record Route : Type 0 where
  pub start : ℕ
  pub crossings : List ℕ

-- The stops that these crossings pass, from u on: u first, and one more for each crossing.
unfoldable pub stops_from : Graph → ℕ → List ℕ → List ℕ
stops_from g u [] = u ∷ []
stops_from g u (e ∷ crossings) = u ∷ stops_from g (far_end g e u) crossings

-- The stops of a route.
unfoldable pub stops_of : Graph → Route → List ℕ
stops_of g route = stops_from g route.start route.crossings

-- "The walk's length."
unfoldable pub length_of : Graph → Route → ℕ
length_of g route = total_weight g route.crossings

-- Underway: at a stop, after these crossings. The way back begins with the edge by which the stop was first reached.
pub record Underway : Type 0 where
  pub stop : ℕ
  pub crossings : List ℕ
  pub way : List ℕ

abbrev pub underway : ℕ → List ℕ → List ℕ → Underway
underway stop crossings way = record { stop = stop; crossings = crossings; way = way }

-- "The lowest-numbered line of the tree not yet walked": the first of the tree's edges, which rise, that touches the stop and is not yet crossed.
unfoldable pub next_edge : Graph → Tree → ℕ → List ℕ → Option ℕ
next_edge g t stop crossings = first_that (λ e. touches g stop e && not (member e crossings)) t.edges

-- The edge is crossed, and from where it leads this is the way back.
unfoldable pub crossed : Graph → Underway → ℕ → List ℕ → Underway
crossed g s e way = underway (far_end g e s.stop) (s.crossings ++ (e ∷ [])) way

-- "Walked back"; where no way is left the walk has ended.
unfoldable pub homeward : Graph → Underway → List ℕ → Underway
homeward g s [] = s
homeward g s (e ∷ way) = crossed g s e way

-- On by the next edge, where there is one, and otherwise back.
unfoldable pub turn_by : Graph → Underway → Option ℕ → Underway
turn_by g s (some e) = crossed g s e (e ∷ s.way)
turn_by g s none = homeward g s s.way

-- One turn.
unfoldable pub turn : Graph → Tree → Underway → Underway
turn g t s = turn_by g s (next_edge g t s.stop s.crossings)

-- So many turns from the start.
unfoldable pub after_turns : Graph → Tree → ℕ → Underway
after_turns g t zero = underway t.start [] []
after_turns g t (suc turns) = turn g t (after_turns g t turns)

-- The walk: two turns for each edge. (After them nothing is left and the walk is at the start, so that more change nothing: `closed_walk_ended` and
-- `closed_walk_turns` of the crate `cover_laws`.)
unfoldable pub closed_walk : Graph → Tree → Route
closed_walk g t = record { start = t.start; crossings = (after_turns g t (2 * length t.edges)).crossings }
