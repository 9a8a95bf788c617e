-- Trails: the array alone says what a trail is, and following the last edges writes it.
-- Assumes nothing.
use Prim.Native.Nat.{ℕ, zero, suc, ◌+◌, ◌≤◌, ◌<◌}
use mathlib.Core.Path.{◌≡◌, refl, sym, ap, ◌∙◌}
use mathlib.Core.List.{List, [], ◌∷◌, ◌++◌, append_assoc, append-nil}
use native.Mathlib.Omega.{arith}
use lib.ListN.{length, get_or, set, length-set}
use borrow.Author.Tests.{eq-eqb, ne_eqb}
use Rattle.lists.specs.Put.{PutTo}
use Rattle.lists.proofs.Put.{put_to_none, put_more}
use Rattle.waiting.specs.Last.{last_edge, vertex_before}
use Rattle.distance.specs.Trail.{IsTrail, home, over, trail_in, trail_of, CanGoBack}

-- The trail is what the array says, where the bound is no less than its length.
pub trail_in_lem : {last : List ℕ} {root v : ℕ} {edges : List ℕ} (most : ℕ) → IsTrail last root edges v → length edges ≤ most → trail_in most last root v ≡ edges
unfolding trail_in
trail_in_lem zero (home q) h = refl
trail_in_lem {root = root} {v = v} (suc most) (home q) h = rw (eq-eqb v root q)
trail_in_lem zero (over away inside q t) h = absurd (omega arith)
trail_in_lem {last = last} {root = root} {v = v} (suc most) (over away inside q t) h = rw (ne_eqb v root away, trail_in_lem {v = vertex_before (get_or {A = ℕ} last v 0)} most t (omega arith), q)

pub trail_of_lem : {last : List ℕ} {root v : ℕ} {edges : List ℕ} → IsTrail last root edges v → length edges ≤ length last → trail_of last root v ≡ edges
unfolding trail_of
trail_of_lem {last} t h = trail_in_lem (length last) t h

-- So a vertex has one trail alone.
pub one_trail : {last : List ℕ} {root v : ℕ} {edges others : List ℕ} → IsTrail last root edges v → IsTrail last root others v → edges ≡ others
one_trail {edges = edges} {others = others} t u =
    sym (trail_in_lem (length edges + length others) t (omega arith)) ∙ trail_in_lem (length edges + length others) u (omega arith)

-- The trail from v is written up to the vertex `at`.
pub record Following (last : List ℕ) (root v : ℕ) (out₀ out : List ℕ) (at r : ℕ) : Type 0 where
  pub passed : List ℕ
  pub left : List ℕ
  pub trail : IsTrail last root left at
  pub whole : passed ++ left ≡ trail_of last root v
  pub put : PutTo 0 passed out₀ out r
  pub room : r + length left ≤ length out

-- What is left away from the root: the last edge, and the trail from the vertex before it.
record Left (last : List ℕ) (root at : ℕ) (left : List ℕ) : Type 0 where
  inside : at < length last
  later : List ℕ
  is : left ≡ last_edge (get_or last at 0) ∷ later
  trail : IsTrail last root later (vertex_before (get_or last at 0))

left_away : {last : List ℕ} {root at : ℕ} {left : List ℕ} → IsTrail last root left at → (at ≡ root → ⊥) → Left last root at left
left_away (home q) away = absurd (away q)
left_away (over {edges = edges} n inside q t) away = record { inside = inside; later = edges; is = ap (λ e. e ∷ edges) q; trail = t }

left_home : {last : List ℕ} {root at : ℕ} {left : List ℕ} → IsTrail last root left at → at ≡ root → left ≡ []
left_home (home q) same = refl
left_home (over away inside q t) same = absurd (away same)

pub following_none : {last : List ℕ} {root v : ℕ} {out : List ℕ} → CanGoBack last root v (length out) → Following last root v out out v 0
following_none {out = out} b = record {
  passed = [];
  left = b.edges;
  trail = b.is;
  whole = sym (trail_of_lem b.is b.short);
  put = put_to_none out 0 (omega arith);
  room = omega (arith, b.fits);
}

module _ {last : List ℕ} {root v : ℕ} {out₀ out : List ℕ} {at r : ℕ} (f : Following last root v out₀ out at r) where
  -- Away from the root there is a last edge, and room for it.
  pub following_inside : (at ≡ root → ⊥) → (at < length last) × (r < length out)
  following_inside away = let l = left_away f.trail away in (l.inside, omega (arith, f.room, ap length l.is))

  pub following_more : (at ≡ root → ⊥) → {e u : ℕ} → e ≡ last_edge (get_or last at 0) → u ≡ vertex_before (get_or last at 0)
      → Following last root v out₀ (set out r e) u (r + 1)
  following_more away {e} {u} p q =
      let l = left_away f.trail away in
      let same : f.left ≡ e ∷ l.later = rw p l.is in
      record {
        passed = f.passed ++ (e ∷ []);
        left = l.later;
        trail = rw q l.trail;
        whole = append_assoc f.passed (e ∷ []) l.later ∙ ap (λ x. f.passed ++ x) (sym same) ∙ f.whole;
        put = put_more e f.put (following_inside away).1;
        room = omega (arith, f.room, ap length same, length-set out r e);
      }

  pub following_all : at ≡ root → PutTo 0 (trail_of last root v) out₀ out r
  following_all q = rw (sym f.whole, left_home f.trail q, append-nil f.passed) f.put
