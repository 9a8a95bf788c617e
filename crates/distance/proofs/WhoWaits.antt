-- Who waits and who is settled, by the arrays of distances and of keys: a vertex is settled where it is reached and has no key.
-- Assumes nothing.
use Prim.Native.Nat.{ℕ, suc, ◌/◌, ◌≤◌, ◌<◌}
use mathlib.Core.Path.{◌≡◌, refl, sym, ap, ◌∙◌}
use mathlib.Core.Bool.{Bool, true, false, ◌&&◌, and-false}
use mathlib.Core.List.{List}
use mathlib.Core.Logic.{◌⊎◌, inl, inr, ⊎_elim, dite}
use native.Mathlib.Decide.{ℕ_discrete}
use native.Mathlib.Omega.{arith}
use lib.ListN.{length, get_or, set}
use lib.Seq.{get_or-set_same, get_or-set_other}
use lib.Dec.{ltb, eqb}
use borrow.Author.Tests.{ltb-true, ltb-false, lt-ltb, le-ltb, eqb-true, eq-eqb}
use Rattle.lists.specs.Count.{count}
use Rattle.lists.proofs.AfterStore.{at_or_not, after_store}
use Rattle.lists.proofs.Fewer.{count_bounded}
use Rattle.lists.proofs.Member.{either}
use Rattle.lists.proofs.Pigeonhole.{but, but_other, but_at, count_same, count_but}
use Rattle.waiting.specs.Waiting.{key_of, vertex_of, nobody, LeastFrom, Blocks}
use Rattle.distance.specs.Shortest.{unreached}

-- Each of n vertices has no key, or the key of its distance; nothing beyond them has one.
pub record Keyed (n : ℕ) (dist wait : List ℕ) : Type 0 where
  pub key : (v : ℕ) → v < n → (get_or wait v 0 ≡ nobody) ⊎ ((get_or wait v 0 ≡ key_of (get_or dist v 0) v) × (get_or dist v 0 < unreached))
  pub beyond : (v : ℕ) → n ≤ v → v < 256 → get_or wait v 0 ≡ nobody

-- v is a vertex, and not settled: where it does not wait, it is not reached.
abbrev pub Open : ℕ → List ℕ → List ℕ → ℕ → Type 0
Open n dist wait v = (v < n) × (get_or wait v 0 ≡ nobody → unreached ≤ get_or dist v 0)

-- The keys are in the order of the distances, and all are below `nobody`.
pub key_low : (d v : ℕ) → d ≤ unreached → v < 65536 → key_of d v < nobody
unfolding key_of
key_low d v h l = omega arith

pub key_order : (d v e w : ℕ) → w < 65536 → key_of d v ≤ key_of e w → d ≤ e
unfolding key_of
key_order d v e w h l = omega arith

pub key_nearer : (d e v : ℕ) → d ≤ e → key_of d v ≤ key_of e v
unfolding key_of
key_nearer d e v h = omega arith

pub key_vertex : (d v : ℕ) → v < 65536 → vertex_of (key_of d v) ≡ v
unfolding key_of vertex_of
key_vertex d v h = omega arith

-- No vertex has a lower key than that of its distance.
pub keyed_no_lower : {n : ℕ} {dist wait : List ℕ} → n ≤ 256 → Keyed n dist wait → ((v : ℕ) → v < n → get_or dist v 0 ≤ unreached)
    → (v : ℕ) → v < n → key_of (get_or dist v 0) v ≤ get_or wait v 0
keyed_no_lower {n} {dist} {wait} few k bounded v h = go (k.key v h)
  where
    go : (get_or wait v 0 ≡ nobody) ⊎ ((get_or wait v 0 ≡ key_of (get_or dist v 0) v) × (get_or dist v 0 < unreached)) → key_of (get_or dist v 0) v ≤ get_or wait v 0
    go (inl q) = omega (arith, key_low (get_or dist v 0) v (bounded v h) (omega arith))
    go (inr (q, low)) = omega arith

-- At the start the root alone has a key.
module _ {n root : ℕ} (dist none : List ℕ) (few : n ≤ 256) (size : length none ≡ 256) (inside : root < n) where
  pub keyed_start : ((v : ℕ) → v < 256 → get_or none v 0 ≡ nobody) → get_or dist root 0 ≡ 0 → Keyed n dist (set none root (key_of 0 root))
  keyed_start all zero = record {
    key =
        λ v h.
        at_or_not
        (λ x.
        (get_or (set none root (key_of 0 root)) x 0 ≡ nobody) ⊎ ((get_or (set none root (key_of 0 root)) x 0 ≡ key_of (get_or dist x 0) x) × (get_or dist x 0 < unreached)))
        root v (inr (rw zero (get_or-set_same none root (key_of 0 root) 0 (omega arith)), omega arith))
        (λ away. inl (get_or-set_other none root v (key_of 0 root) 0 away ∙ all v (omega arith)));
    beyond = λ v h l. get_or-set_other none root v (key_of 0 root) 0 (λ e. omega arith) ∙ all v l;
  }

  pub open_start : ((v : ℕ) → v < n → (v ≡ root → ⊥) → get_or dist v 0 ≡ unreached) → (v : ℕ) → v < n → Open n dist (set none root (key_of 0 root)) v
  open_start others v h = (
    h,
    λ q.
        dite (ℕ_discrete v root)
        (λ e. absurd (omega (arith, key_low 0 root (omega arith) (omega arith), get_or-set_same none root (key_of 0 root) 0 (omega arith), ap (λ x. get_or (set none root (key_of 0 root)) x 0) e)))
        (λ away. omega (arith, others v h away)),
  )

-- u has no key any longer.
pub taken_at : (wait : List ℕ) {taken : List ℕ} {u : ℕ} → taken ≡ set wait u nobody → u < length wait → get_or taken u 0 ≡ nobody
taken_at wait {taken} {u} q h = ap (λ x. get_or x u 0) q ∙ get_or-set_same wait u nobody 0 h

pub taken_other : (wait : List ℕ) {taken : List ℕ} {u : ℕ} → taken ≡ set wait u nobody → u < length wait → (v : ℕ) → get_or wait v 0 ≡ nobody → get_or taken v 0 ≡ nobody
taken_other wait {taken} {u} q h v none = ap (λ x. get_or x v 0) q ∙ after_store (λ _ y. y ≡ nobody) wait u nobody v h refl (λ _. none)

pub keyed_taken : {n : ℕ} {dist wait : List ℕ} {u : ℕ} → Keyed n dist wait → u < length wait → Keyed n dist (set wait u nobody)
keyed_taken {n} {dist} {wait} {u} k h = record {
  key =
      λ v l.
      after_store (λ x y. x < n → (y ≡ nobody) ⊎ ((y ≡ key_of (get_or dist x 0) x) × (get_or dist x 0 < unreached))) wait u nobody v h (λ _. inl refl)
      (λ _ m. k.key v m) l;
  beyond = λ v l m. taken_other wait refl h v (k.beyond v l m);
}

-- The nearest of those that wait.
pub record Nearest (n : ℕ) (dist wait : List ℕ) (u : ℕ) : Type 0 where
  pub inside : u < n
  pub reached : get_or dist u 0 < unreached
  pub waits : get_or wait u 0 ≡ nobody → ⊥
  pub lowest : (v : ℕ) → Open n dist wait v → get_or dist u 0 ≤ get_or dist v 0

module _ {n : ℕ} {dist wait low : List ℕ} {least : ℕ} (b : Blocks wait low) (k : Keyed n dist wait) (few : n ≤ 256) (l : LeastFrom low 0 16 least) where
  -- No key is below the least of all blocks.
  least_low : (v : ℕ) → v < n → least ≤ get_or wait v 0
  least_low v h = omega (arith, l.lowest (v / 16) (omega arith) (omega arith), b.lowest v (omega arith))

  -- Where that is `nobody`, none waits.
  pub keyed_nobody : least ≡ nobody → (v : ℕ) → v < n → get_or wait v 0 ≡ nobody
  keyed_nobody none v h = go (k.key v h)
    where
      go : (get_or wait v 0 ≡ nobody) ⊎ ((get_or wait v 0 ≡ key_of (get_or dist v 0) v) × (get_or dist v 0 < unreached)) → get_or wait v 0 ≡ nobody
      go (inl q) = q
      go (inr (q, r)) = absurd (omega (arith, least_low v h, key_low (get_or dist v 0) v (omega arith) (omega arith)))

  module _ (some : least ≡ nobody → ⊥) where
    -- Otherwise it is the key of a vertex, of which it says the number.
    holder : (x : ℕ) × (x < n) × (get_or wait x 0 ≡ least) × (get_or dist x 0 < unreached) × (least ≡ key_of (get_or dist x 0) x)
    holder =
        let h = b.held l.place (omega (arith, l.before)) in
        let is : get_or wait h.vertex 0 ≡ least = h.is ∙ l.is in
        let block : h.vertex < 256 = omega (arith, h.block, l.before) in
        go h.vertex is (ltb_or n h.vertex) block
      where
        ltb_or : (a x : ℕ) → (x < a) ⊎ (a ≤ x)
        ltb_or a x = ⊎_elim (λ t. inl (ltb-true x a t)) (λ t. inr (ltb-false x a t)) (either (ltb x a))

        keyed : (x : ℕ) → x < n → get_or wait x 0 ≡ least
            → (get_or wait x 0 ≡ nobody) ⊎ ((get_or wait x 0 ≡ key_of (get_or dist x 0) x) × (get_or dist x 0 < unreached))
            → (x : ℕ) × (x < n) × (get_or wait x 0 ≡ least) × (get_or dist x 0 < unreached) × (least ≡ key_of (get_or dist x 0) x)
        keyed x h is (inl q) = absurd (some (sym is ∙ q))
        keyed x h is (inr (q, r)) = (x, h, is, r, sym is ∙ q)

        go : (x : ℕ) → get_or wait x 0 ≡ least → (x < n) ⊎ (n ≤ x) → x < 256
            → (x : ℕ) × (x < n) × (get_or wait x 0 ≡ least) × (get_or dist x 0 < unreached) × (least ≡ key_of (get_or dist x 0) x)
        go x is (inl h) m = keyed x h is (k.key x h)
        go x is (inr h) m = absurd (some (sym is ∙ k.beyond x h m))

    pub nearest_is : Nearest n dist wait (vertex_of least)
    nearest_is =
        let (x, h, is, low, key) = holder in
        let vertex : vertex_of least ≡ x = ap vertex_of key ∙ key_vertex (get_or dist x 0) x (omega arith) in
        rw vertex (record {
          inside = h;
          reached = low;
          waits = λ q. some (sym is ∙ q);
          lowest = λ v o. go x h low key v o (k.key v o.0);
        })
      where
        go : (x : ℕ) → x < n → get_or dist x 0 < unreached → least ≡ key_of (get_or dist x 0) x → (v : ℕ) → Open n dist wait v
            → (get_or wait v 0 ≡ nobody) ⊎ ((get_or wait v 0 ≡ key_of (get_or dist v 0) v) × (get_or dist v 0 < unreached)) → get_or dist x 0 ≤ get_or dist v 0
        go x h low key v o (inl q) = omega (arith, o.1 q)
        go x h low key v o (inr (q, r)) = key_order (get_or dist x 0) x (get_or dist v 0) v (omega (arith, o.0)) (omega (arith, least_low v o.0))

-- Whether v is settled, and how many of n vertices are.
unfoldable pub settled_at : List ℕ → List ℕ → ℕ → Bool
settled_at dist wait v = ltb (get_or dist v 0) unreached && eqb (get_or wait v 0) nobody

-- It is where it is reached and has no key, and is not where it is open.
pub settled_yes : (dist wait : List ℕ) (v : ℕ) → get_or dist v 0 < unreached → get_or wait v 0 ≡ nobody → settled_at dist wait v ≡ true
unfolding settled_at
settled_yes dist wait v low q = rw (lt-ltb (get_or dist v 0) unreached low, eq-eqb (get_or wait v 0) nobody q)

pub settled_not : (dist wait : List ℕ) (v : ℕ) → (get_or wait v 0 ≡ nobody → unreached ≤ get_or dist v 0) → settled_at dist wait v ≡ false
unfolding settled_at
settled_not dist wait v out = go (either (eqb (get_or wait v 0) nobody))
  where
    go : (eqb (get_or wait v 0) nobody ≡ true) ⊎ (eqb (get_or wait v 0) nobody ≡ false) → (ltb (get_or dist v 0) unreached && eqb (get_or wait v 0) nobody) ≡ false
    go (inl t) = rw (le-ltb (get_or dist v 0) unreached (out (eqb-true (get_or wait v 0) nobody t)))
    go (inr t) = rw t (and-false (ltb (get_or dist v 0) unreached))

pub settled_same : (dist wait e k : List ℕ) (v : ℕ) → get_or e v 0 ≡ get_or dist v 0 → get_or k v 0 ≡ get_or wait v 0 → settled_at e k v ≡ settled_at dist wait v
unfolding settled_at
settled_same dist wait e k v p q = rw (p, q)

unfoldable pub settled_count : ℕ → List ℕ → List ℕ → ℕ
settled_count n dist wait = count n (settled_at dist wait)

-- No more are settled than there are vertices.
pub count_most : (n : ℕ) (dist wait : List ℕ) → settled_count n dist wait ≤ n
unfolding settled_count
count_most n dist wait = count_bounded n (settled_at dist wait)

-- One more is settled: u, which was not, and of the others the same.
pub count_more : {n u : ℕ} (dist wait dist_after wait_after : List ℕ) → u < n → settled_at dist wait u ≡ false → settled_at dist_after wait_after u ≡ true
    → ((v : ℕ) → v < n → (v ≡ u → ⊥) → settled_at dist_after wait_after v ≡ settled_at dist wait v)
    → settled_count n dist_after wait_after ≡ suc (settled_count n dist wait)
unfolding settled_count
count_more {n} {u} dist wait e k h was now others =
    count_but n (settled_at e k) u h now
    ∙ ap suc (count_same n (but u (settled_at e k)) (settled_at dist wait)
    (λ v l.
    at_or_not (λ x. x < n → but u (settled_at e k) x ≡ settled_at dist wait x) u v (λ _. but_at (settled_at e k) u ∙ sym was)
    (λ away m. but_other (settled_at e k) u v away ∙ others v m away) l))
