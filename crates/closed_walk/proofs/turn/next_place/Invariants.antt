-- `closed_walk::turn::next_place` meets its contract. The loop's invariant: the edges of the arcs before i are marked.
-- Assumes nothing.
use Prim.Native.Nat.{ℕ, ◌≤◌, ◌<◌}
use mathlib.Core.Path.{◌≡◌}
use lib.ListN.{get_or}
use Rattle.edges.specs.Around.{arc_edge}
use Rattle.closed_walk.proofs.turn.next_place.Given as goal

abbrev pub invariant-loop-i : goal.invariant-loop-i
invariant-loop-i l = (k : ℕ) → k < l.i → l.from ≤ k → get_or l.marks (arc_edge (get_or l.around k 0)) 0 ≡ 1
