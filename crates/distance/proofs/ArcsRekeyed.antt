-- While the arcs of a vertex are relaxed one after the other, whoever is nearer gets the key of its new distance.
-- Assumes nothing.
use Prim.Native.Nat.{ℕ, ◌≤◌, ◌<◌}
use mathlib.Core.Path.{◌≡◌, sym, ap, ◌∙◌}
use mathlib.Core.Bool.{Bool, true, false, true≢false, false≢true}
use mathlib.Core.List.{List}
use native.Mathlib.Omega.{arith}
use lib.ListN.{length, get_or, set}
use lib.Seq.{get_or-set_same, get_or-set_other}
use Rattle.lists.proofs.AfterStore.{at_or_not}
use Rattle.edges.specs.Around.{arc_head}
use Rattle.waiting.specs.Waiting.{key_of, Blocks, KeyGiven}
use Rattle.waiting.specs.OneArc.{ArcRelaxed, kept, lowered}
use Rattle.distance.specs.Relaxing.{Rekeyed, key_kept, key_new}
use Rattle.distance.proofs.WhoWaits.{key_nearer}

-- Each vertex has its key since the start.
abbrev pub Rekeying : List ℕ → List ℕ → List ℕ → List ℕ → Type 0
Rekeying dist₀ wait₀ dist wait = (v : ℕ) → Rekeyed v dist₀ wait₀ dist wait

module _ {dist₀ wait₀ e wait : List ℕ} (s : Rekeying dist₀ wait₀ e wait) where
  -- No key is lower than that of the distance, as at the start.
  rekeyed_no_lower : (v : ℕ) → key_of (get_or dist₀ v 0) v ≤ get_or wait₀ v 0 → key_of (get_or e v 0) v ≤ get_or wait v 0
  rekeyed_no_lower v h = go (s v)
    where
      go : Rekeyed v dist₀ wait₀ e wait → key_of (get_or e v 0) v ≤ get_or wait v 0
      go (key_kept p q) = rw (p, q) h
      go (key_new less q) = rw q (omega arith)

  -- No distance is higher than at the start.
  rekeyed_low : (v : ℕ) → get_or e v 0 ≤ get_or dist₀ v 0
  rekeyed_low v = go (s v)
    where
      go : Rekeyed v dist₀ wait₀ e wait → get_or e v 0 ≤ get_or dist₀ v 0
      go (key_kept p q) = omega arith
      go (key_new less q) = omega arith

  rekeyed_stored : (v x : ℕ) → v < length e → v < length wait → x < get_or e v 0 → Rekeying dist₀ wait₀ (set e v x) (set wait v (key_of x v))
  rekeyed_stored v x in_dist in_wait less w =
      at_or_not (λ y. Rekeyed y dist₀ wait₀ (set e v x) (set wait v (key_of x v))) v w
      (key_new (omega (arith, stored, rekeyed_low v)) (rw stored (get_or-set_same wait v (key_of x v) 0 in_wait))) (λ away. go away (s w))
    where
      stored : get_or (set e v x) v 0 ≡ x
      stored = get_or-set_same e v x 0 in_dist

      go : (w ≡ v → ⊥) → Rekeyed w dist₀ wait₀ e wait → Rekeyed w dist₀ wait₀ (set e v x) (set wait v (key_of x v))
      go away (key_kept p q) = key_kept (get_or-set_other e v w x 0 away ∙ p) (get_or-set_other wait v w (key_of x v) 0 away ∙ q)
      go away (key_new l q) =
          let old : get_or (set e v x) w 0 ≡ get_or e w 0 = get_or-set_other e v w x 0 away in
          key_new (omega arith) (rw old (get_or-set_other wait v w (key_of x v) 0 away ∙ q))

  module _ {a u d : ℕ} {m f k : List ℕ} {b : Bool} where
    -- The arc lowers nothing.
    pub rekeyed_passed : b ≡ false → ArcRelaxed a u d e m f k b → Rekeying dist₀ wait₀ f wait
    rekeyed_passed old (kept low p q t) = rw p s
    rekeyed_passed old (lowered less p q t) = absurd (false≢true (sym old ∙ t))

    module _ (in_dist : arc_head a < length e) {v key : ℕ} (head : v ≡ arc_head a) (is : key ≡ key_of (get_or f v 0) v) where
      -- The arc lowers its head, which can get a key, and gets it.
      pub rekeyed_given : {low : List ℕ} → v < 256 → Blocks wait low → key_of (get_or dist₀ v 0) v ≤ get_or wait₀ v 0 → b ≡ true → ArcRelaxed a u d e m f k b
          → KeyGiven v key wait low
      rekeyed_given small blocks h new (kept low p q t) = absurd (true≢false (sym new ∙ t))
      rekeyed_given small blocks h new (lowered less p q t) =
          let stored : get_or f (arc_head a) 0 ≡ _ = ap (λ x. get_or x (arc_head a) 0) p ∙ get_or-set_same e (arc_head a) _ 0 in_dist in
          let nearer : get_or f v 0 ≤ get_or e v 0 = rw head (omega arith) in
          record {
            vertex = small;
            blocks = blocks;
            no_higher = omega (arith, key_nearer (get_or f v 0) (get_or e v 0) v nearer, rekeyed_no_lower v h);
          }

      pub rekeyed_more : {after : List ℕ} → arc_head a < length wait → after ≡ set wait v key → b ≡ true → ArcRelaxed a u d e m f k b → Rekeying dist₀ wait₀ f after
      rekeyed_more in_wait put new (kept low p q t) = absurd (true≢false (sym new ∙ t))
      rekeyed_more in_wait put new (lowered less p q t) =
          let stored : get_or f (arc_head a) 0 ≡ _ = ap (λ x. get_or x (arc_head a) 0) p ∙ get_or-set_same e (arc_head a) _ 0 in_dist in
          rw (put, is, head, stored, p) (rekeyed_stored (arc_head a) _ in_dist in_wait less)
