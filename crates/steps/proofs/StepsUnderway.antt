-- The child-list walk that writes the steps below a vertex, under way: what is known each time before the next arc is looked at.
-- Assumes nothing.
use Prim.Native.Nat.{ℕ, ◌+◌, ◌≤◌, ◌<◌}
use mathlib.Core.Path.{◌≡◌, refl, ◌∙◌}
use mathlib.Core.Bool.{false}
use mathlib.Core.List.{List, [], ◌∷◌, ◌++◌, append_assoc, append-nil}
use native.Mathlib.Omega.{arith}
use lib.ListN.{length, get_or, set, length-set}
use lib.Seq.{slice, slice_empty, append_snoc}
use Rattle.lists.specs.Put.{PutTo}
use Rattle.lists.specs.Segments.{segment}
use Rattle.lists.proofs.Put.{put_length, put_behind, put_more, put_to_none}
use Rattle.lists.proofs.NextPlace.{slice_next}
use Rattle.edges.specs.Around.{arc_edge, arc_head, arc_weight}
use Rattle.split.specs.SplitBelow.{unmarked, unvisited, passing}
use Rattle.steps.specs.Steps.{step_of}
use Rattle.steps.specs.StepsBelow.{StepsBelow, steps_done, steps_past, steps_child}
use Rattle.steps.specs.StepsPut.{StepsAsked, StepsPut}
use Rattle.split.proofs.Unvisited.{unvisited_less}
use Rattle.split.proofs.ChildWalked.{IsChild}

-- The writing began with the marks `first` at the place `at`, and has come to the place `next`: whatever steps the arcs from i up to `to` give,
-- they stand behind those that are written.
pub record StepsUnderway (bounds arcs : List ℕ) (v at : ℕ) (first array₀ : List ℕ) (i to : ℕ) (marks array : List ℕ) (next : ℕ) : Type 0 where
  pub onward : get_or bounds v 0 ≤ i
  pub within : i ≤ to
  pub size : length marks ≡ length first
  pub steps : List ℕ
  pub put : PutTo at steps array₀ array next
  pub fits : next + unvisited (length first) marks ≤ at + unvisited (length first) first
  pub rest : (later last : List ℕ) → StepsBelow bounds arcs v (slice i to arcs) marks later last
      → StepsBelow bounds arcs v (segment bounds arcs v) first (steps ++ later) last

-- It begins with all arcs.
pub steps_first : {bounds arcs : List ℕ} {v at : ℕ} {first array : List ℕ} → StepsAsked bounds arcs v at first array
    → StepsUnderway bounds arcs v at first array (get_or bounds v 0) (get_or bounds (v + 1) 0) first array at
unfolding segment
steps_first {v = v} {at = at} {array = array} a =
    record {
      onward = omega arith;
      within = a.around.rising v a.inside;
      size = refl;
      steps = [];
      put = put_to_none array at (omega (arith, a.room));
      fits = omega arith;
      rest = λ later last x. x;
    }

module _ {bounds arcs : List ℕ} {v at : ℕ} {first array₀ : List ℕ} {i to : ℕ} {marks array : List ℕ} {next : ℕ}
    (u : StepsUnderway bounds arcs v at first array₀ i to marks array next) where
  -- Where no arc is left, all steps are written.
  pub steps_all : to ≤ i → StepsPut bounds arcs v at first array₀ marks array next
  steps_all h =
      let q : i ≡ to = omega (arith, u.within) in
      let whole : u.steps ++ [] ≡ u.steps = append-nil u.steps in
      record {
        steps = u.steps;
        below = rw whole at (u.rest [] marks (rw (q, slice_empty to arcs) steps_done));
        put = u.put;
        size = u.size;
        fits = u.fits;
      }

  module _ (more : i < to) (all : to ≤ length arcs) where
    -- It goes on behind an arc whose head has a mark,
    pub steps_past_by : {head : ℕ} → head ≡ arc_head (get_or arcs i 0) → unmarked marks head ≡ false
        → StepsUnderway bounds arcs v at first array₀ (i + 1) to marks array next
    steps_past_by {head} head_is old =
        record {
          onward = omega (arith, u.onward);
          within = omega arith;
          size = u.size;
          steps = u.steps;
          put = u.put;
          fits = u.fits;
          rest = λ later last x. u.rest later last (rw (slice_next arcs i to more all) (steps_past (rw head_is at old) x));
        }

    -- and at a child first its own steps are written.
    module _ {head : ℕ} (c : IsChild (length first) marks (get_or arcs i 0) head (arc_edge (get_or arcs i 0))) where
      one_fewer : unvisited (length first) (passing head marks) < unvisited (length first) marks
      one_fewer = unvisited_less marks head (omega (arith, u.size, c.inside)) (length first) c.inside c.new

      same_size : length (passing head marks) ≡ length first
      same_size = length-set marks head 1 ∙ u.size

      pub below_fewer : unvisited (length (passing head marks)) (passing head marks) < unvisited (length first) first
      below_fewer = rw same_size (omega (arith, one_fewer, u.fits, u.put.behind))

      pub below_asked : StepsAsked bounds arcs v at first array₀ → StepsAsked bounds arcs head next (passing head marks) array
      below_asked a =
          record {
            around = rw same_size a.around;
            inside = rw same_size c.inside;
            room = rw same_size (omega (arith, one_fewer, u.fits, a.room, put_length u.put.put));
          }

      module _ (room : at + unvisited (length first) first ≤ length array₀) {marks' array' : List ℕ} {end : ℕ}
          (below : StepsPut bounds arcs head next (passing head marks) array marks' array' end) where
        fits_then : end + unvisited (length first) marks' ≤ next + unvisited (length first) (passing head marks)
        fits_then = rw same_size at below.fits

        -- there is room for the child's step
        pub step_room : end < length array₀
        step_room = omega (arith, fits_then, one_fewer, u.fits, room)

        pub step_fits : end < length array'
        step_fits = omega (arith, step_room, put_length u.put.put, put_length below.put.put)

        -- which is written behind them.
        pub steps_child_by : {step : ℕ} → step ≡ step_of head v (arc_weight (get_or arcs i 0))
            → StepsUnderway bounds arcs v at first array₀ (i + 1) to marks' (set array' end step) (end + 1)
        steps_child_by {step} step_is =
            record {
              onward = omega (arith, u.onward);
              within = omega arith;
              size = below.size ∙ same_size;
              steps = (u.steps ++ below.steps) ++ (step ∷ []);
              put = put_more step (put_behind u.put below.put) step_fits;
              fits = omega (arith, fits_then, one_fewer, u.fits);
              rest =
                  λ later last x.
                  let head_is : head ≡ arc_head (get_or arcs i 0) = c.head_is in
                  let h : head < length marks = omega (arith, u.size, c.inside) in
                  rw (append_snoc (u.steps ++ below.steps) step later, append_assoc u.steps below.steps)
                  (u.rest (below.steps ++ (step ∷ later)) last
                  (rw (slice_next arcs i to more all, step_is, head_is)
                  (steps_child (rw head_is at c.new) (rw head_is at h) (rw head_is at below.below) x)));
            }
