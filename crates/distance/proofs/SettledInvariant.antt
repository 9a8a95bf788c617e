-- The invariant of the search, whatever says which vertices are open, and that settling the nearest and relaxing its arcs carries it on.
-- A vertex that is open no longer is settled: its distance and its last edge change no more. Nothing here asks that a weight is above 0.
-- Assumes nothing.
use Prim.Native.Nat.{ℕ, ◌+◌, ◌≤◌, ◌<◌}
use mathlib.Core.Path.{◌≡◌, ◌∙◌}
use mathlib.Core.List.{List}
use mathlib.Core.Logic.{◌⊎◌, inl, inr, dite}
use native.Mathlib.Decide.{ℕ_discrete}
use native.Mathlib.Omega.{arith}
use lib.ListN.{get_or}
use Rattle.edges.specs.Around.{arc_edge, arc_head, arc_weight}
use Rattle.waiting.specs.Last.{last_of}
use Rattle.distance.specs.Shortest.{unreached}
use Rattle.distance.specs.Relaxing.{ArcAt, Becomes, same, nearer, Relaxed}
use Rattle.distance.proofs.ArcsRelaxed.{becomes_low}

-- The last edges lead from v back to the root, over settled vertices and at most that many edges, and the distances add up.
pub data Back (n : ℕ) (bounds arcs : List ℕ) (root : ℕ) (Open : ℕ → Type 0) (dist last : List ℕ) : ℕ → ℕ → Type 0 where
  home : {most v : ℕ} → v ≡ root → Back n bounds arcs root Open dist last most v
  over : {most less v u a : ℕ} → u < n → (Open u → ⊥) → ArcAt bounds arcs u a → v ≡ arc_head a → get_or last v 0 ≡ last_of (arc_edge a) u
      → get_or dist v 0 ≡ get_or dist u 0 + arc_weight a → Back n bounds arcs root Open dist last less u → less < most
      → Back n bounds arcs root Open dist last most v

-- The invariant, with c vertices settled.
pub record Settling (n : ℕ) (bounds arcs : List ℕ) (root : ℕ) (Open : ℕ → Type 0) (c : ℕ) (dist last : List ℕ) : Type 0 where
  pub root_zero : get_or dist root 0 ≡ 0
  pub bounded : (v : ℕ) → v < n → get_or dist v 0 ≤ unreached
  -- a settled vertex is no farther than an open one
  pub settled_near : (x v : ℕ) → x < n → (Open x → ⊥) → Open v → get_or dist x 0 ≤ get_or dist v 0
  -- the arcs of a settled vertex are relaxed
  pub relaxed : (x a : ℕ) → x < n → (Open x → ⊥) → ArcAt bounds arcs x a → get_or dist (arc_head a) 0 ≤ get_or dist x 0 + arc_weight a
  -- from each vertex reached the last edges lead back
  pub reached : (v : ℕ) → v < n → get_or dist v 0 < unreached → Back n bounds arcs root Open dist last c v
  -- from a settled one over fewer edges
  pub settled : (v : ℕ) → v < n → (Open v → ⊥) → get_or dist v 0 < unreached → (k : ℕ) × (k < c) × Back n bounds arcs root Open dist last k v

module _ {n : ℕ} {bounds arcs : List ℕ} {root : ℕ} where
  -- More edges may be allowed.
  back_wider : {W : ℕ → Type 0} {d l : List ℕ} {k j v : ℕ} → Back n bounds arcs root W d l k v → k ≤ j → Back n bounds arcs root W d l j v
  back_wider (home q) h = home q
  back_wider {j = j} (over inside settled arc head edge sum b less) h = over {most = j} inside settled arc head edge sum b (omega arith)

  -- In the end it no longer matters which are open.
  pub back_settled : {W : ℕ → Type 0} {d l : List ℕ} {k v : ℕ} → Back n bounds arcs root W d l k v → Back n bounds arcs root (λ _. ⊥) d l k v
  back_settled (home q) = home q
  back_settled (over inside settled arc head edge sum b less) = over inside (λ x. x) arc head edge sum (back_settled b) less

  -- At the start all are open, and the root alone is reached.
  pub settling_none : {W : ℕ → Type 0} {c : ℕ} {d l : List ℕ} → ((v : ℕ) → v < n → W v) → get_or d root 0 ≡ 0 → ((v : ℕ) → v < n → (v ≡ root → ⊥) → get_or d v 0 ≡ unreached)
      → Settling n bounds arcs root W c d l
  settling_none all zero others = record {
    root_zero = zero;
    bounded = λ v h. dite (ℕ_discrete v root) (λ e. rw (e, zero) (omega arith)) (λ away. omega (arith, others v h away));
    settled_near = λ x v h s w. absurd (s (all x h));
    relaxed = λ x a h s i. absurd (s (all x h));
    reached = λ v h low. dite (ℕ_discrete v root) (λ e. home e) (λ away. absurd (omega (arith, others v h away)));
    settled = λ v h s low. absurd (s (all v h));
  }

-- u, the nearest that is open, is settled: it is open no longer, and its arcs are relaxed.
module _ {n : ℕ} {bounds arcs : List ℕ} {root : ℕ} {W X : ℕ → Type 0} {c u : ℕ} {d l e m : List ℕ}
    (s : Settling n bounds arcs root W c d l) (inside : u < n) (is_open : W u) (low : get_or d u 0 < unreached)
    (least : (v : ℕ) → W v → get_or d u 0 ≤ get_or d v 0)
    (was_open : (v : ℕ) → X v → W v) (still_Open : (v : ℕ) → W v → (v ≡ u → ⊥) → X v) (not_open : X u → ⊥)
    (r : Relaxed arcs (get_or bounds u 0) (get_or bounds (u + 1) 0) u d l e m)
  where
    AsBefore : ℕ → Type 0
    AsBefore x = (get_or e x 0 ≡ get_or d x 0) × (get_or m x 0 ≡ get_or l x 0)

    -- What is no farther than u is kept.
    near_kept : (x : ℕ) → get_or d x 0 ≤ get_or d u 0 → AsBefore x
    unfolding AsBefore
    near_kept x h = go (r.each x)
      where
        go : Becomes arcs (get_or bounds u 0) (get_or bounds (u + 1) 0) u x d l e m → (get_or e x 0 ≡ get_or d x 0) × (get_or m x 0 ≡ get_or l x 0)
        go (same p q) = (p, q)
        go (nearer i head p less q) = absurd (omega arith)

    settled_or : (x : ℕ) → (X x → ⊥) → (x ≡ u) ⊎ (W x → ⊥)
    settled_or x h = dite (ℕ_discrete x u) inl (λ away. inr (λ w. h (still_Open x w away)))

    -- A settled vertex, u among them, is no farther than u was, and is kept.
    settled_low : (x : ℕ) → x < n → (X x → ⊥) → get_or d x 0 ≤ get_or d u 0
    settled_low x h out = go (settled_or x out)
      where
        go : (x ≡ u) ⊎ (W x → ⊥) → get_or d x 0 ≤ get_or d u 0
        go (inl q) = rw q (omega arith)
        go (inr w) = s.settled_near x u h w is_open

    settled_kept : (x : ℕ) → x < n → (X x → ⊥) → AsBefore x
    settled_kept x h out = near_kept x (settled_low x h out)

    -- The way back from a vertex that is kept is as it was.
    back_kept : {k v : ℕ} → Back n bounds arcs root W d l k v → AsBefore v → Back n bounds arcs root X e m k v
    unfolding AsBefore
    back_kept (home q) kept = home q
    back_kept (over {u = x} x_inside out arc head edge sum b less) kept =
        let k = settled_kept x x_inside (λ w. out (was_open x w)) in
        over x_inside (λ w. out (was_open x w)) arc head (kept.1 ∙ edge) (omega (arith, kept, k)) (back_kept b k) less

    own_kept : AsBefore u
    own_kept = settled_kept u inside not_open

    own_back : Back n bounds arcs root X e m c u
    own_back = back_kept (s.reached u inside low) own_kept

    pub settling_more : {f : ℕ} → c < f → Settling n bounds arcs root X f e m
    unfolding AsBefore
    settling_more {f} more = record {
      root_zero = omega (arith, becomes_low (r.each root), s.root_zero);
      bounded = λ v h. omega (arith, becomes_low (r.each v), s.bounded v h);
      settled_near = λ x v h out w. near x v h out w (r.each v);
      relaxed = λ x a h out i. relaxed_now x a h i (settled_or x out);
      reached = λ v h g. leads v h g (r.each v);
      settled = λ v h out g. leads_settled v h out g (settled_or v out);
    }
      where
        near : (x v : ℕ) → x < n → (X x → ⊥) → X v → Becomes arcs (get_or bounds u 0) (get_or bounds (u + 1) 0) u v d l e m → get_or e x 0 ≤ get_or e v 0
        near x v h out w (same p q) = omega (arith, settled_kept x h out, settled_low x h out, least v (was_open v w))
        near x v h out w (nearer i head p less q) = omega (arith, settled_kept x h out, settled_low x h out)

        relaxed_now : (x a : ℕ) → x < n → ArcAt bounds arcs x a → (x ≡ u) ⊎ (W x → ⊥) → get_or e (arc_head a) 0 ≤ get_or e x 0 + arc_weight a
        relaxed_now x a h i (inl q) = let own : ArcAt bounds arcs u a = rw q at i in rw q (omega (arith, r.lowest a own, own_kept))
        relaxed_now x a h i (inr w) = omega (arith, becomes_low (r.each (arc_head a)), s.relaxed x a h w i, settled_kept x h (λ v. w (was_open x v)))

        leads : (v : ℕ) → v < n → get_or e v 0 < unreached → Becomes arcs (get_or bounds u 0) (get_or bounds (u + 1) 0) u v d l e m → Back n bounds arcs root X e m f v
        leads v h g (same p q) = back_wider (back_kept (s.reached v h (omega arith)) (p, q)) (omega arith)
        leads v h g (nearer i head p less q) = over inside not_open i head q (omega (arith, own_kept)) own_back more

        leads_settled : (v : ℕ) → v < n → (X v → ⊥) → get_or e v 0 < unreached → (v ≡ u) ⊎ (W v → ⊥) → (k : ℕ) × (k < f) × Back n bounds arcs root X e m k v
        leads_settled v h out g (inl q) = (c, more, rw q own_back)
        leads_settled v h out g (inr w) =
            let (k, few, b) = s.settled v h w (omega (arith, settled_kept v h out)) in
            (k, omega arith, back_kept b (settled_kept v h out))

-- The search is over: the arcs of each vertex reached are relaxed, and from each the last edges lead back over fewer than n edges.
pub record Settled (n : ℕ) (bounds arcs : List ℕ) (root : ℕ) (dist last : List ℕ) : Type 0 where
  pub root_zero : get_or dist root 0 ≡ 0
  pub bounded : (v : ℕ) → v < n → get_or dist v 0 ≤ unreached
  pub relaxed : (x a : ℕ) → x < n → get_or dist x 0 < unreached → ArcAt bounds arcs x a → get_or dist (arc_head a) 0 ≤ get_or dist x 0 + arc_weight a
  pub reached : (v : ℕ) → v < n → get_or dist v 0 < unreached → (k : ℕ) × (k < n) × Back n bounds arcs root (λ _. ⊥) dist last k v

-- It is over where none that is open is reached.
pub settled_all : {n : ℕ} {bounds arcs : List ℕ} {root : ℕ} {W : ℕ → Type 0} {c : ℕ} {d l : List ℕ} → Settling n bounds arcs root W c d l → c ≤ n
    → ((v : ℕ) → W v → unreached ≤ get_or d v 0) → Settled n bounds arcs root d l
settled_all s few none = record {
  root_zero = s.root_zero;
  bounded = s.bounded;
  relaxed = λ x a h low. s.relaxed x a h (λ w. omega (arith, none x w));
  reached = λ v h low. let (k, less, b) = s.settled v h (λ w. omega (arith, none v w)) low in (k, omega arith, back_settled b);
}
