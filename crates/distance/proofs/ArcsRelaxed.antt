-- The arcs of a vertex relaxed one after the other.
-- Assumes nothing.
use Prim.Native.Nat.{ℕ, ◌+◌, ◌≤◌, ◌<◌}
use mathlib.Core.Path.{◌≡◌, refl, ◌∙◌}
use mathlib.Core.Bool.{Bool}
use mathlib.Core.List.{List}
use native.Mathlib.Omega.{arith}
use lib.ListN.{length, get_or, set}
use lib.Seq.{get_or-set_same, get_or-set_other}
use Rattle.lists.proofs.AfterStore.{at_or_not}
use Rattle.edges.specs.Around.{arc_edge, arc_head, arc_weight}
use Rattle.waiting.specs.Last.{last_of}
use Rattle.waiting.specs.OneArc.{ArcRelaxed, kept, lowered}
use Rattle.distance.specs.Relaxing.{ArcIn, Becomes, same, nearer, Relaxed}

-- An arc among fewer is one among more.
arc_wider : {arcs : List ℕ} {lo hi a : ℕ} → ArcIn arcs lo hi a → ArcIn arcs lo (hi + 1) a
arc_wider i = record { place = i.place; from = i.from; to = omega (arith, i.to); is = i.is }

becomes_wider : {arcs : List ℕ} {lo hi u v : ℕ} {d l e m : List ℕ} → Becomes arcs lo hi u v d l e m → Becomes arcs lo (hi + 1) u v d l e m
becomes_wider (same p q) = same p q
becomes_wider (nearer i h p less q) = nearer (arc_wider i) h p less q

-- No vertex becomes farther.
pub becomes_low : {arcs : List ℕ} {lo hi u v : ℕ} {d l e m : List ℕ} → Becomes arcs lo hi u v d l e m → get_or e v 0 ≤ get_or d v 0
becomes_low (same p q) = omega arith
becomes_low (nearer i h p less q) = omega arith

-- Nothing is relaxed yet.
pub relaxed_none : {arcs : List ℕ} {lo u : ℕ} {d l : List ℕ} → Relaxed arcs lo lo u d l d l
relaxed_none = record { each = λ v. same refl refl; lowest = λ a i. absurd (omega (arith, i.from, i.to)) }

-- An arc among one more is the new one, or was there.
new_or_old : {arcs : List ℕ} {lo i : ℕ} (P : ℕ → Type 0) → P (get_or arcs i 0) → ((a : ℕ) → ArcIn arcs lo i a → P a) → (a : ℕ) → ArcIn arcs lo (i + 1) a → P a
new_or_old {arcs} {lo} {i} P new old a j =
    at_or_not (λ x. a ≡ get_or arcs x 0 → P a) i j.place (λ q. rw q new)
    (λ away q. old a (record { place = j.place; from = j.from; to = omega (arith, j.to); is = q })) j.is

module _ {arcs : List ℕ} {lo i u : ℕ} {d l e m : List ℕ} (r : Relaxed arcs lo i u d l e m) (from : lo ≤ i) where
  abbrev arc : ℕ
  arc = get_or arcs i 0

  -- The next arc lowers nothing.
  relaxed_kept : get_or e (arc_head arc) 0 ≤ get_or d u 0 + arc_weight arc → Relaxed arcs lo (i + 1) u d l e m
  relaxed_kept low = record {
    each = λ v. becomes_wider (r.each v);
    lowest = new_or_old (λ a. get_or e (arc_head a) 0 ≤ get_or d u 0 + arc_weight a) low r.lowest;
  }

  -- The next arc lowers its head.
  module _ (in_dist : arc_head arc < length e) (in_last : arc_head arc < length m) (less : get_or d u 0 + arc_weight arc < get_or e (arc_head arc) 0) where
    abbrev f : List ℕ
    f = set e (arc_head arc) (get_or d u 0 + arc_weight arc)

    abbrev k : List ℕ
    k = set m (arc_head arc) (last_of (arc_edge arc) u)

    stored : get_or f (arc_head arc) 0 ≡ get_or d u 0 + arc_weight arc
    stored = get_or-set_same e (arc_head arc) (get_or d u 0 + arc_weight arc) 0 in_dist

    low : (v : ℕ) → get_or f v 0 ≤ get_or e v 0
    low v =
        at_or_not (λ x. get_or f x 0 ≤ get_or e x 0) (arc_head arc) v (omega (arith, stored))
        (λ away. omega (arith, get_or-set_other e (arc_head arc) v (get_or d u 0 + arc_weight arc) 0 away))

    at_head : Becomes arcs lo (i + 1) u (arc_head arc) d l f k
    at_head =
        nearer (record { place = i; from = from; to = omega arith; is = refl }) refl stored
        (omega (arith, stored, becomes_low (r.each (arc_head arc)))) (get_or-set_same m (arc_head arc) (last_of (arc_edge arc) u) 0 in_last)

    elsewhere : (v : ℕ) → (v ≡ arc_head arc → ⊥) → Becomes arcs lo (i + 1) u v d l f k
    elsewhere v away =
        go (r.each v) (get_or-set_other e (arc_head arc) v (get_or d u 0 + arc_weight arc) 0 away)
        (get_or-set_other m (arc_head arc) v (last_of (arc_edge arc) u) 0 away)
      where
        go : Becomes arcs lo i u v d l e m → get_or f v 0 ≡ get_or e v 0 → get_or k v 0 ≡ get_or m v 0 → Becomes arcs lo (i + 1) u v d l f k
        go (same x y) fe km = same (fe ∙ x) (km ∙ y)
        go (nearer s h x lower y) fe km = nearer (arc_wider s) h (fe ∙ x) (omega arith) (km ∙ y)

    relaxed_lowered : Relaxed arcs lo (i + 1) u d l f k
    relaxed_lowered = record {
      each = λ v. at_or_not (λ x. Becomes arcs lo (i + 1) u x d l f k) (arc_head arc) v at_head (elsewhere v);
      lowest = new_or_old (λ a. get_or f (arc_head a) 0 ≤ get_or d u 0 + arc_weight a) (omega (arith, stored)) (λ a s. omega (arith, low (arc_head a), r.lowest a s));
    }

  relaxed_by : arc_head arc < length e → arc_head arc < length m → {x : ℕ} → x ≡ get_or d u 0 → {f k : List ℕ} {b : Bool} → ArcRelaxed arc u x e m f k b
      → Relaxed arcs lo (i + 1) u d l f k
  relaxed_by in_dist in_last own (kept low p q t) = rw (p, q) (relaxed_kept (rw own at low))
  relaxed_by in_dist in_last own (lowered less p q t) = rw (p, q, own) (relaxed_lowered in_dist in_last (rw own at less))

  -- One arc more is relaxed.
  pub relaxed_more : {a : ℕ} → a ≡ arc → arc_head a < length e → arc_head a < length m → {x : ℕ} → x ≡ get_or d u 0 → {f k : List ℕ} {b : Bool}
      → ArcRelaxed a u x e m f k b → Relaxed arcs lo (i + 1) u d l f k
  relaxed_more is in_dist in_last own r = relaxed_by (rw is at in_dist) (rw is at in_last) own (rw is at r)
