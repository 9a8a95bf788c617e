-- One pass over the steps below a vertex tells of each part that is split off there whether the test holds at one of its vertices, and keeps what
-- is to be kept of what is left at the vertex. Each vertex is a child once, so that what is kept at it is read after all that hangs below it, and
-- before anything else is put there.
-- Assumes nothing.
use Prim.Native.Nat.{ℕ, ◌<◌}
use mathlib.Core.Path.{◌≡◌, refl, sym, ap, ◌∙◌}
use mathlib.Core.Bool.{Bool, true, false, false≢true}
use mathlib.Core.List.Memᴰ
use mathlib.Core.List.{List, [], ◌∷◌, ◌++◌, map, map-append, append-nil, append_assoc}
use native.Mathlib.Omega.{arith}
use lib.ListN.{length, length-set}
use Rattle.lists.specs.Lists.{any}
use Rattle.lists.specs.Member.{◌∈◌}
use Rattle.lists.specs.Segments.{segment}
use Rattle.graph.specs.Graph.{Graph}
use Rattle.rules.specs.Cover.{Tree}
use Rattle.edges.specs.Around.{arc_head, arc_weight, Around}
use Rattle.bunches.specs.Settles.{Load, load}
use Rattle.split.specs.SplitBelow.{unmarked, passing, piece_of, SplitBelow, done, past, child}
use Rattle.steps.specs.Steps.{step_of}
use Rattle.steps.specs.Touched.{Sweep, sweep_step, sweep}
use Rattle.steps.specs.StepsBelow.{StepsBelow, steps_done, steps_past, steps_child}
use Rattle.split.proofs.Unvisited.{unmarked_before, marked_now}
use Rattle.steps.proofs.StepsMark.{Closes, steps_close, still_marked}
use Rattle.steps.proofs.PartTouched.{part_touched, arc_touched}
use Rattle.steps.proofs.StepSwept.{Sized, kept_at, kept_of, Stepped, stepped}

-- Steps behind steps.
pub sweep_on : (H : ℕ) (test : ℕ → Bool) (xs ys : List ℕ) (s : Sweep) → sweep H test (xs ++ ys) s ≡ sweep H test ys (sweep H test xs s)
unfolding sweep
sweep_on H test [] ys s = refl
sweep_on H test (x ∷ xs) ys s = sweep_on H test xs ys (sweep_step H test x s)

-- Parts behind parts.
pub parts_on : (f : Tree → Bool) (xs : List Bool) {ys zs : List Bool} (ps qs : List Tree) → ys ≡ xs ++ map f ps → zs ≡ ys ++ map f qs → zs ≡ xs ++ map f (ps ++ qs)
parts_on f xs ps qs a b = b ∙ ap (λ l. l ++ map f qs) a ∙ append_assoc xs (map f ps) (map f qs) ∙ ap (λ l. xs ++ l) (sym (map-append f ps qs))

-- Nothing is kept at a vertex that has no mark.
abbrev pub Clear : List ℕ → Sweep → Type 0
Clear marks s = (u : ℕ) → unmarked marks u ≡ true → kept_at s u ≡ (0, false)

-- The pass went from s to t, and what it told is of the parts that are split off.
pub record Swept (g : Graph) (test : ℕ → Bool) (bounds arcs : List ℕ) (H v : ℕ) (rest marks : List ℕ) (bunch : Load) (last : List ℕ) (s t : Sweep) : Type 0 where
  pub parts : List Tree
  pub left : Load
  pub below : SplitBelow bounds arcs H v rest marks bunch parts left last
  pub more : t.parts ≡ s.parts ++ map (part_touched g test) parts
  pub sized : Sized t
  pub clear : Clear last t

-- It keeps what is to be kept of what is left at v, and nothing changed at any other vertex that had a mark.
pub record SweptAt (g : Graph) (test : ℕ → Bool) (bounds arcs : List ℕ) (H v : ℕ) (rest marks : List ℕ) (bunch : Load) (last : List ℕ) (s t : Sweep) : Type 0 where
  pub swept : Swept g test bounds arcs H v rest marks bunch last s t
  pub at_v : kept_at t v ≡ kept_of g test swept.left
  pub others : (u : ℕ) → (u ≡ v → ⊥) → unmarked marks u ≡ false → kept_at t u ≡ kept_at s u

-- Before the steps below v: there is a mark for each vertex, v has one, what is kept there is of its bunch, and nothing is kept where there is no mark.
pub record Sweepable (g : Graph) (test : ℕ → Bool) (v : ℕ) (marks : List ℕ) (bunch : Load) (s : Sweep) : Type 0 where
  pub size : length marks ≡ g.vertices
  pub inside : v < g.vertices
  pub sized : Sized s
  pub marked : unmarked marks v ≡ false
  pub at_v : kept_at s v ≡ kept_of g test bunch
  pub clear : Clear marks s

-- An arc whose head has a mark is passed by.
abbrev pub past_swept : {g : Graph} {test : ℕ → Bool} {bounds arcs : List ℕ} {H v arc : ℕ} {rest marks last : List ℕ} {bunch : Load} {s t : Sweep}
    → unmarked marks (arc_head arc) ≡ false → Swept g test bounds arcs H v rest marks bunch last s t → Swept g test bounds arcs H v (arc ∷ rest) marks bunch last s t
past_swept p x = record { parts = x.parts; left = x.left; below = past p x.below; more = x.more; sized = x.sized; clear = x.clear }

-- At a child, along an arc of v.
module _ {g : Graph} {edges bounds arcs : List ℕ} (around : Around g edges bounds arcs) {test : ℕ → Bool} {v : ℕ} (arc : ℕ) (known : arc ∈ segment bounds arcs v)
    (marks : List ℕ) {middle : List ℕ} (new : unmarked marks (arc_head arc) ≡ true) (l : arc_head arc < length marks)
    (closes : Closes bounds arcs (segment bounds arcs (arc_head arc)) (passing (arc_head arc) marks) middle) {bunch : Load} {s : Sweep} (k : Sweepable g test v marks bunch s) where
  abbrev head : ℕ
  head = arc_head arc

  -- what had a mark is another vertex, and has it then
  another : (u : ℕ) → unmarked marks u ≡ false → u ≡ head → ⊥
  another u m e = false≢true (sym m ∙ ap (unmarked marks) e ∙ new)

  on_way : (u : ℕ) → unmarked marks u ≡ false → unmarked (passing head marks) u ≡ false
  on_way u m = still_marked marks head l u m

  -- first come the steps below it
  child_sweepable : Sweepable g test head (passing head marks) (load [] 0) s
  unfolding any
  child_sweepable =
      record {
        size = length-set marks head 1 ∙ k.size;
        inside = omega (arith, k.size);
        sized = k.sized;
        marked = marked_now marks head l;
        at_v = k.clear head new;
        clear = λ u q. k.clear u (unmarked_before marks head l u q);
      }

  module _ {H : ℕ} {s1 : Sweep} (first : SweptAt g test bounds arcs H head (segment bounds arcs head) (passing head marks) (load [] 0) middle s s1) where
    abbrev piece : Load
    piece = piece_of arc first.swept.left

    -- then its own
    child_stepped : Stepped g test H v bunch piece s1 (sweep_step H test (step_of head v (arc_weight arc)) s1)
    child_stepped =
        stepped g test H v bunch arc first.swept.left (arc_touched g test around k.inside known) s1 first.swept.sized
        (omega (arith, k.inside, around.valid.vertices_most)) (first.others v (another v k.marked) (on_way v k.marked) ∙ k.at_v)
        (omega (arith, k.size, around.valid.vertices_most)) first.at_v

    module _ {s2 : Sweep} (step : Stepped g test H v bunch piece s1 s2) where
      v_marked : unmarked middle v ≡ false
      v_marked = closes.stay v (on_way v k.marked)

      -- then those of the later children
      later_sweepable : Sweepable g test v middle step.met s2
      later_sweepable =
          record {
            size = closes.size ∙ length-set marks head 1 ∙ k.size;
            inside = k.inside;
            sized = step.sized;
            marked = v_marked;
            at_v = step.at_v;
            clear = λ u q. step.others u (λ e. false≢true (sym v_marked ∙ ap (unmarked middle) (sym e) ∙ q)) ∙ first.swept.clear u q;
          }

      child_swept : {rest last : List ℕ} {s3 : Sweep} → SweptAt g test bounds arcs H v rest middle step.met last s2 s3
          → SweptAt g test bounds arcs H v (arc ∷ rest) marks bunch last s s3
      child_swept later =
          let a = first.swept in
          let b = later.swept in
          let f : Tree → Bool = part_touched g test in
          record {
            swept =
                record {
                  parts = a.parts ++ (step.own ++ b.parts);
                  left = b.left;
                  below = child new a.below step.settles b.below;
                  more = parts_on f s.parts a.parts (step.own ++ b.parts) a.more (parts_on f s1.parts step.own b.parts step.more b.more);
                  sized = b.sized;
                  clear = b.clear;
                };
            at_v = later.at_v;
            others = λ u e m. later.others u e (closes.stay u (on_way u m)) ∙ step.others u e ∙ first.others u (another u m) (on_way u m);
          }

  -- All together, where the pass over the later children is known from every state.
  child_passed : (H : ℕ) (inner later : List ℕ) {rest last : List ℕ}
      → SweptAt g test bounds arcs H head (segment bounds arcs head) (passing head marks) (load [] 0) middle s (sweep H test inner s)
      → ((b : Load) (u : Sweep) → Sweepable g test v middle b u → SweptAt g test bounds arcs H v rest middle b last u (sweep H test later u))
      → SweptAt g test bounds arcs H v (arc ∷ rest) marks bunch last s (sweep H test (inner ++ (step_of head v (arc_weight arc) ∷ later)) s)
  unfolding sweep
  child_passed H inner later first rest =
      let step = child_stepped first in
      rw (sweep_on H test inner (step_of head v (arc_weight arc) ∷ later) s)
      (child_swept first step (rest step.met (sweep_step H test (step_of head v (arc_weight arc)) (sweep H test inner s)) (later_sweepable first step)))

-- All steps below v, along the last of its arcs.
module _ {g : Graph} {edges bounds arcs : List ℕ} (around : Around g edges bounds arcs) {test : ℕ → Bool} (H : ℕ) where
  pub steps_swept : {v : ℕ} {rest marks steps last : List ℕ} → StepsBelow bounds arcs v rest marks steps last
      → ((arc : ℕ) → arc ∈ rest → arc ∈ segment bounds arcs v) → (bunch : Load) (s : Sweep) → Sweepable g test v marks bunch s
      → SweptAt g test bounds arcs H v rest marks bunch last s (sweep H test steps s)
  unfolding sweep
  steps_swept steps_done known bunch s k =
      record {
        swept = record { parts = []; left = bunch; below = done; more = sym (append-nil s.parts); sized = k.sized; clear = k.clear };
        at_v = k.at_v;
        others = λ u e m. refl;
      }
  steps_swept (steps_past p x) known bunch s k =
      let y = steps_swept x (λ other m. known other (Memᴰ.tail m)) bunch s k in
      record { swept = past_swept p y.swept; at_v = y.at_v; others = y.others }
  steps_swept (steps_child {arc = arc} {marks = marks} {inner = inner} {later = later} new l x y) known bunch s k =
      let mine = known arc (Memᴰ.head refl) in
      child_passed around arc mine marks new l (steps_close x) k H inner later
      (steps_swept x (λ other m. m) (load [] 0) s (child_sweepable around arc mine marks new l (steps_close x) k))
      (λ b u r. steps_swept y (λ other m. known other (Memᴰ.tail m)) b u r)
