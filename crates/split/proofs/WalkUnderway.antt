-- The child-list walk under way: what is known each time before the next arc is looked at.
-- Assumes nothing.
use Prim.Native.Nat.{ℕ, ◌+◌, ◌≤◌, ◌<◌}
use mathlib.Core.Path.{◌≡◌}
use mathlib.Core.Bool.{false}
use mathlib.Core.List.{List}
use native.Mathlib.Omega.{arith}
use lib.ListN.{length, get_or}
use lib.Seq.{slice, slice_empty}
use Rattle.lists.specs.Segments.{segment}
use Rattle.lists.proofs.NextPlace.{slice_next}
use Rattle.edges.specs.Around.{arc_head, arc_weight}
use Rattle.bunches.specs.Store.{Store}
use Rattle.bunches.specs.Settles.{ChildSettled}
use Rattle.bunches.specs.declared.Progress.{Progress}
use Rattle.split.specs.SplitBelow.{unmarked, unvisited}
use Rattle.split.specs.ChildrenWalked.{State, HasRoom, Bunched, ChildrenWalked, NodeWalked}
use Rattle.split.proofs.ChildWalked.{IsChild, bunch_at, pushed, visiting, after, walk_done, walk_past, after_bunched, after_fewer, walk_child}

-- The walk began at the state `first` with no bunch and has come to s, where the bunch weighs w: whatever the walk of the arcs from i
-- up to `to` does from s, the walk of all arcs of v does from `first`.
pub record Underway (n : ℕ) (bounds arcs : List ℕ) (H v base : ℕ) (first : State) (i to : ℕ) (s : State) (w : ℕ) : Type 0 where
  pub bunched : Bunched n base s w
  pub onward : get_or bounds v 0 ≤ i
  pub within : i ≤ to
  pub fewer : unvisited n s.marks ≤ unvisited n first.marks
  pub rest : (t : State) (z : ℕ) → ChildrenWalked n bounds arcs H v base (slice i to arcs) s w t z
      → ChildrenWalked n bounds arcs H v base (segment bounds arcs v) first 0 t z

-- It begins with all arcs.
pub underway_first : {n : ℕ} {bounds arcs : List ℕ} {H v : ℕ} {first : State} → HasRoom n first → get_or bounds v 0 ≤ get_or bounds (v + 1) 0
    → Underway n bounds arcs H v first.top first (get_or bounds v 0) (get_or bounds (v + 1) 0) first 0
unfolding segment
underway_first room rising =
    record {
      bunched = record { room = room; above = omega arith; light = omega arith };
      onward = omega arith;
      within = rising;
      fewer = omega arith;
      rest = λ t z w. w;
    }

module _ {n : ℕ} {bounds arcs : List ℕ} {H v base : ℕ} {first : State} {i to : ℕ} {s : State} {w : ℕ}
    (u : Underway n bounds arcs H v base first i to s w) where
  -- Where no arc is left, all children are walked.
  pub underway_done : to ≤ i → ChildrenWalked n bounds arcs H v base (segment bounds arcs v) first 0 s w
  underway_done h =
      let q : i ≡ to = omega (arith, u.within) in
      u.rest s w (rw (q, slice_empty to arcs) (walk_done u.bunched))

  module _ (more : i < to) (all : to ≤ length arcs) where
    -- It goes on behind an arc whose head has a mark,
    pub underway_past : {head : ℕ} → head ≡ arc_head (get_or arcs i 0) → unmarked s.marks head ≡ false
        → Underway n bounds arcs H v base first (i + 1) to s w
    underway_past {head} head_is old =
        record {
          bunched = u.bunched;
          onward = omega (arith, u.onward);
          within = omega arith;
          fewer = u.fewer;
          rest = λ t z x. u.rest t z (rw (slice_next arcs i to more all) (walk_past (rw head_is at old) x));
        }

    -- and behind a child that was walked and settled.
    pub underway_child : {head edge : ℕ} (c : IsChild n s.marks (get_or arcs i 0) head edge)
        → {t : State} {y : ℕ} → NodeWalked n bounds arcs H head (visiting head (pushed s edge)) t y
        → {store : Store} {p r : Progress} → p.top ≡ t.top → p.weight ≡ arc_weight (get_or arcs i 0) + y
        → ChildSettled H v (bunch_at base s.top w) t.stack t.store store p r
        → Underway n bounds arcs H v base first (i + 1) to (after t store r.top) r.weight
    underway_child c inner top_is weight_is settled =
        record {
          bunched = after_bunched u.bunched c inner top_is weight_is settled;
          onward = omega (arith, u.onward);
          within = omega arith;
          fewer = omega (arith, u.fewer, after_fewer u.bunched c inner top_is weight_is settled);
          rest = λ last z x. u.rest last z (rw (slice_next arcs i to more all) (walk_child u.bunched c inner top_is weight_is settled x));
        }
