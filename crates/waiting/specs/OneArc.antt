-- Relaxing one arc: where its head is nearer over it, the head takes that distance, and the arc's edge as its last.
-- Assumes nothing.
use Rattle.std.specs.Prelude.{ℕ, ◌+◌, ◌≤◌, ◌<◌, ◌≡◌, Bool, true, false, List, length, get_or, set}
use Rattle.edges.specs.Around.{arc_edge, arc_head, arc_weight}
use Rattle.waiting.specs.Last.{last_of}

-- What relaxing one arc of u asks: its head has a place in both arrays, and the numbers fit.
pub record ArcRelaxable (a u d : ℕ) (dist last : List ℕ) : Type 0 where
  pub small : u < 65536
  pub distance_fits : d < 4294967296
  pub head_dist : arc_head a < length dist
  pub head_last : arc_head a < length last

-- Relaxing one arc of u, which has distance d. Where its head is no nearer over the arc, all is as it was. Otherwise the head alone
-- changes, and the answer r says so.
pub data ArcRelaxed (a u d : ℕ) (dist last dist_after last_after : List ℕ) (r : Bool) : Type 0 where
  kept : get_or dist (arc_head a) 0 ≤ d + arc_weight a → dist_after ≡ dist → last_after ≡ last → r ≡ false → ArcRelaxed a u d dist last dist_after last_after r
  lowered : d + arc_weight a < get_or dist (arc_head a) 0 → dist_after ≡ set dist (arc_head a) (d + arc_weight a)
      → last_after ≡ set last (arc_head a) (last_of (arc_edge a) u) → r ≡ true → ArcRelaxed a u d dist last dist_after last_after r
