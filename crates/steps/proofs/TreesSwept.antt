-- One pass over the steps of all trees tells of each part that the rules split off whether the test holds at one of its vertices. A root that has a
-- mark already stands in an earlier tree, and nothing more is grown from it.
-- Assumes nothing.
use Prim.Native.Nat.{ℕ, zero, suc, ◌<◌}
use mathlib.Core.Path.{◌≡◌, refl, sym, ap, subst, ◌∙◌}
use mathlib.Core.Bool.{Bool, true, false, false≢true}
use mathlib.Core.List.Memᴰ
use mathlib.Core.List.{List, [], ◌++◌, map, append-nil}
use mathlib.Core.Logic.{dite, ⊎_elim}
use native.Mathlib.Decide.{ℕ_discrete}
use native.Mathlib.Omega.{arith}
use lib.ListN.{length, get_or, replicate, length-set, length-replicate}
use Rattle.lists.specs.Lists.{flat, member, any}
use Rattle.lists.specs.Segments.{segment}
use Rattle.lists.proofs.Member.{either}
use Rattle.graph.specs.Graph.{Graph}
use Rattle.rules.specs.Cover.{Tree}
use Rattle.rules.specs.Grow.{Rooted, Grown, grow_node, grow_from, grow}
use Rattle.rules.specs.Split.{Pieces, split, all_parts}
use Rattle.edges.specs.Around.{arc_head, Around}
use Rattle.bunches.specs.Settles.{load}
use Rattle.split.specs.SplitBelow.{unmarked, passing, done}
use Rattle.steps.specs.Touched.{Sweep, sweep, parts_touched}
use Rattle.steps.specs.StepsBelow.{StepsBelow, steps_done, steps_past, steps_child, StepsFrom, no_roots, steps_root}
use Rattle.split.proofs.Unvisited.{marks_kept, marked_now, unmarked_before}
use Rattle.split.proofs.SplitAsRules.{MarksAre, Gives, node_as_rules}
use Rattle.steps.proofs.StepsMark.{HeadsMarked, still_marked, steps_close}
use Rattle.steps.proofs.PartTouched.{part_touched}
use Rattle.steps.proofs.StepSwept.{Sized, kept_at}
use Rattle.steps.proofs.StepsSwept.{sweep_on, parts_on, Clear, Swept, past_swept, steps_swept}

-- Nothing is left to be grown from any vertex with a mark.
abbrev AllClosed : List ℕ → List ℕ → List ℕ → Type 0
AllClosed bounds arcs marks = (u : ℕ) → unmarked marks u ≡ false → HeadsMarked marks (segment bounds arcs u)

module _ {g : Graph} {edges bounds arcs : List ℕ} (around : Around g edges bounds arcs) (test : ℕ → Bool) (H : ℕ) where
  -- Where all heads have marks there are no steps and no parts.
  none_swept : {v : ℕ} {rest marks steps last : List ℕ} → StepsBelow bounds arcs v rest marks steps last → HeadsMarked marks rest → (s : Sweep) → Sized s → Clear marks s
      → Swept g test bounds arcs H v rest marks (load [] 0) last s (sweep H test steps s)
  unfolding sweep
  none_swept steps_done heads s sized clear = record { parts = []; left = load [] 0; below = done; more = sym (append-nil s.parts); sized = sized; clear = clear }
  none_swept (steps_past p x) heads s sized clear = past_swept p (none_swept x (λ other m. heads other (Memᴰ.tail m)) s sized clear)
  none_swept (steps_child {arc = arc} new l x y) heads s sized clear = absurd (false≢true (sym (heads arc (Memᴰ.head refl)) ∙ new))

  module _ {r : ℕ} (marks : List ℕ) {steps middle : List ℕ} (l : r < length marks) (x : StepsBelow bounds arcs r (segment bounds arcs r) (passing r marks) steps middle)
      (closed : AllClosed bounds arcs marks) where
    -- The tree of a root.
    root_swept : length marks ≡ g.vertices → (s : Sweep) → Sized s → Clear marks s
        → Swept g test bounds arcs H r (segment bounds arcs r) (passing r marks) (load [] 0) middle s (sweep H test steps s)
    unfolding any
    root_swept size s sized clear =
        let clear_now : Clear (passing r marks) s = λ u q. clear u (unmarked_before marks r l u q) in
        ⊎_elim
        (λ new.
        (steps_swept around H x (λ arc m. m) (load [] 0) s
        (record {
          size = length-set marks r 1 ∙ size;
          inside = omega arith;
          sized = sized;
          marked = marked_now marks r l;
          at_v = clear r new;
          clear = clear_now;
        })
        ).swept)
        (λ old. none_swept x (λ other m. still_marked marks r l (arc_head other) (closed r old other m)) s sized clear_now)
        (either (unmarked marks r))

    -- Then nothing is left to be grown again.
    root_closed : AllClosed bounds arcs middle
    root_closed u q =
        let c = steps_close x in
        ⊎_elim
        (λ new. c.closed u new q)
        (λ old.
        dite (ℕ_discrete u r)
        (λ e. subst (λ w. HeadsMarked middle (segment bounds arcs w)) (sym e) c.heads)
        (λ e. λ other m. c.stay (arc_head other) (still_marked marks r l (arc_head other) (closed u (sym (marks_kept marks r u e) ∙ old) other m))))
        (either (unmarked (passing r marks) u))

  -- All trees, from what is passed so far.
  trees_swept : {roots marks steps : List ℕ} → StepsFrom bounds arcs roots marks steps → {passed : List ℕ} → MarksAre g.vertices marks passed
      → AllClosed bounds arcs marks → (s : Sweep) → Sized s → Clear marks s
      → (sweep H test steps s).parts ≡ s.parts ++ map (part_touched g test) (all_parts (map (split g H) (grow_from g edges roots passed)))
  unfolding sweep grow_from all_parts flat
  trees_swept no_roots a closed s sized clear = sym (append-nil s.parts)
  trees_swept (steps_root {r = r} {roots = roots} {marks = marks} {inner = inner} {middle = middle} {later = later} l x y) {passed} a closed s sized clear =
      let c = root_swept marks l x closed a.size s sized clear in
      let grown : Grown = grow_node g.vertices g edges r passed in
      let given : Gives g H r (load [] 0) c.parts c.left middle grown = node_as_rules around c.below (omega (arith, a.size)) a in
      let tree : Rooted = record { root = r; branches = grown.branches } in
      let pieces : split g H tree ≡ record { parts = c.parts; left = c.left.edges } = unfold split in given.splits in
      let rest : List Tree = all_parts (map (split g H) (grow_from g edges roots grown.passed)) in
      let others = trees_swept y given.agrees (root_closed marks l x closed) (sweep H test inner s) c.sized c.clear in
      ap (λ (t : Sweep). t.parts) (sweep_on H test inner later s)
      ∙ parts_on (part_touched g test) s.parts c.parts rest c.more others
      ∙ ap (λ (p : Pieces). s.parts ++ map (part_touched g test) (p.parts ++ rest)) (sym pieces)

-- Before the first step nothing is kept anywhere.
nothing_kept : (n u : ℕ) → kept_at (record { left = replicate n 0; touched = replicate n false; parts = [] }) u ≡ (0, false)
nothing_kept zero u = refl
nothing_kept (suc n) zero = refl
nothing_kept (suc n) (suc u) = nothing_kept n u

-- Nor is a mark set.
module _ {g : Graph} {edges bounds arcs roots marks steps : List ℕ} (around : Around g edges bounds arcs) (size : length marks ≡ g.vertices)
    (unset : (v : ℕ) → get_or marks v 0 ≡ 0) (x : StepsFrom bounds arcs roots marks steps) where
  no_mark : (v : ℕ) → unmarked marks v ≡ true
  unfolding unmarked
  no_mark v = rw (unset v)

  pub walk_touched : (H : ℕ) (test : ℕ → Bool) → parts_touched H test steps ≡ map (part_touched g test) (all_parts (map (split g H) (grow g edges roots)))
  unfolding parts_touched grow member any
  walk_touched H test =
      trees_swept around test H x {passed = []}
      (record { size = size; at = λ v l. no_mark v })
      (λ u q. absurd (false≢true (sym q ∙ no_mark u)))
      (record { left = replicate 256 0; touched = replicate 256 false; parts = [] })
      (record { left = length-replicate {A = ℕ} 256 0; touched = length-replicate {A = Bool} 256 false })
      (λ u q. nothing_kept 256 u)
