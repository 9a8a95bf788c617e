-- The arcs of a vertex, lent as a part of all arcs: the one at a place of the part stands behind all arcs before the part.
-- Assumes nothing.
use Prim.Native.Nat.{ℕ, ◌+◌, ◌-◌, ◌≤◌, ◌<◌}
use mathlib.Core.Path.{◌≡◌, refl, ap, ◌∙◌}
use mathlib.Core.List.{List}
use native.Mathlib.Omega.{arith}
use borrow.Author.Tests.{eq-eqb}
use lib.ListN.{length, take, drop, get_or, length-drop}
use lib.Seq.{get_or-drop, get_or-take, length-take-le}
use Rattle.edges.specs.Around.{arc_edge, arc_head, arc_weight, Arcs}
use Rattle.split.specs.SplitBelow.{unmarked}
use Rattle.split.proofs.ChildWalked.{IsChild}

module _ {n : ℕ} {bounds arcs : List ℕ} (around : Arcs n bounds arcs) {v : ℕ} (inside : v < n) where
  abbrev first : ℕ
  first = get_or bounds v 0

  abbrev behind : ℕ
  behind = get_or bounds (v + 1) 0

  -- The arcs of v are among all arcs.
  pub arcs_within : behind ≤ length arcs
  arcs_within = around.within (v + 1) (omega arith)

  abbrev lent : List ℕ
  lent = take (behind - first) (drop first arcs)

  lent_size : length lent ≡ behind - first
  lent_size = length-take-le (behind - first) (drop first arcs) (simp length-drop (omega (arith, arcs_within)))

  -- Where none is left in the part, none is left among all.
  pub lent_none : (k : ℕ) → length lent ≤ k → behind ≤ first + k
  lent_none k h = omega (arith, lent_size)

  module _ {k : ℕ} (more : k < length lent) where
    pub lent_place : first + k < behind
    lent_place = omega (arith, lent_size)

    pub lent_is : get_or lent k 0 ≡ get_or arcs (first + k) 0
    lent_is = get_or-take (behind - first) (drop first arcs) k 0 (omega (arith, lent_size)) ∙ get_or-drop first arcs k 0

    pub lent_light : arc_weight (get_or arcs (first + k) 0) ≤ 1000000
    lent_light = around.weights v (first + k) inside (omega arith) lent_place

    -- An arc of v whose head has no mark leads to a child,
    pub lent_child : {marks : List ℕ} {head : ℕ} → head ≡ arc_head (get_or lent k 0) → get_or marks head 0 ≡ 0
        → IsChild n marks (get_or arcs (first + k) 0) head (arc_edge (get_or arcs (first + k) 0))
    unfolding unmarked
    lent_child {marks} {head} head_is new =
        let head_at : head ≡ arc_head (get_or arcs (first + k) 0) = head_is ∙ ap arc_head lent_is in
        record {
          head_is = head_at;
          edge_is = refl;
          inside = omega (arith, head_at, around.heads v (first + k) inside (omega arith) lent_place);
          new = eq-eqb (get_or marks head 0) 0 new;
        }

    -- over its edge.
    pub lent_child_over : {marks : List ℕ} {head edge : ℕ} → head ≡ arc_head (get_or lent k 0) → edge ≡ arc_edge (get_or lent k 0)
        → get_or marks head 0 ≡ 0 → IsChild n marks (get_or arcs (first + k) 0) head edge
    lent_child_over head_is edge_is new =
        let child = lent_child head_is new in
        record { head_is = child.head_is; edge_is = edge_is ∙ ap arc_edge lent_is; inside = child.inside; new = child.new }
