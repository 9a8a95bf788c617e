-- Relaxing the edges makes a vertex's distance the old one, or that of a neighbour with the edge's weight added, whichever is least.
-- Assumes nothing.
use Prim.Native.Nat.{ℕ, ◌+◌}
use mathlib.Core.Path.{◌≡◌, refl, sym, subst}
use mathlib.Core.Bool.{cond}
use mathlib.Core.List.Memᴰ
use mathlib.Core.List.{List, [], ◌∷◌}
use mathlib.Core.Option.{none, some}
use mathlib.Core.Logic.{◌⊎◌, inl, inr}
use lib.Dec.{eqb}
use lib.ListN.{get_or}
use borrow.Author.Tests.{eqb-true, eq-eqb}
use Rattle.lists.specs.Member.{◌∈◌}
use Rattle.graph.specs.Graph.{Graph, one_end, other_end, weight_of}
use Rattle.rules.specs.Walk.{Joins, onward, back}
use Rattle.rules.specs.Distance.{Distance, nearer, further, relaxed}
use Rattle.distance_laws.proofs.Nearer.{AtMost, cond_some, nearer_some, nearer_left, nearer_right, further_some, further_most}

-- The distance d of v is that of a neighbour over an edge of the list, with the edge's weight added.
pub record Over (g : Graph) (known : List Distance) (v : ℕ) (es : List ℕ) (d : ℕ) : Type 0 where
  pub edge : ℕ
  pub listed : edge ∈ es
  pub neighbour : ℕ
  pub joined : Joins g edge neighbour v
  pub before : ℕ
  pub known_there : get_or known neighbour none ≡ some before
  pub added : d ≡ before + weight_of g edge

module _ (g : Graph) (known : List Distance) (v : ℕ) where
  -- The distance over the edge e that has one end near v and the other end far.
  abbrev over : ℕ → ℕ → ℕ → Distance
  over e near far = cond (eqb near v) (further (weight_of g e) (get_or known far none)) none

  over_some : {e near far d : ℕ} {es : List ℕ} → (near ≡ v → Joins g e far v) → over e near far ≡ some d → Over g known v (e ∷ es) d
  over_some {e} {near} {far} join q =
      let (t, p) = cond_some (eqb near v) (further (weight_of g e) (get_or known far none)) q in
      let (k, known_far, adds) = further_some (weight_of g e) (get_or known far none) p in
      record { edge = e; listed = Memᴰ.head refl; neighbour = far; joined = join (eqb-true near v t); before = k; known_there = known_far; added = adds }

  over_most : (e near far : ℕ) {c : ℕ} → near ≡ v → AtMost (get_or known far none) c → AtMost (over e near far) (c + weight_of g e)
  over_most e near far q h = rw (eq-eqb near v q) (further_most (weight_of g e) (get_or known far none) h)

  -- What relaxing gives is the old distance or one over an edge.
  pub relaxed_some : (es : List ℕ) {d : ℕ} → relaxed g known v es ≡ some d → (get_or known v none ≡ some d) ⊎ Over g known v es d
  unfolding relaxed
  relaxed_some [] q = inl q
  relaxed_some (e ∷ es) {d} q = first (nearer_some (over e (one_end g e) (other_end g e)) (nearer (over e (other_end g e) (one_end g e)) (relaxed g known v es)) q)
      (λ r. relaxed_some es r)
    where
      Out : List ℕ → Type 0
      Out fs = (get_or known v none ≡ some d) ⊎ Over g known v fs d

      later : Out es → Out (e ∷ es)
      later (inl r) = inl r
      later (inr o) =
          inr
          (record {
            edge = o.edge;
            listed = Memᴰ.tail o.listed;
            neighbour = o.neighbour;
            joined = o.joined;
            before = o.before;
            known_there = o.known_there;
            added = o.added;
          })

      second : (over e (other_end g e) (one_end g e) ≡ some d) ⊎ (relaxed g known v es ≡ some d) → (relaxed g known v es ≡ some d → Out es) → Out (e ∷ es)
      second (inl r) ih = inr (over_some (λ p. onward refl (sym p)) r)
      second (inr r) ih = later (ih r)

      first : (over e (one_end g e) (other_end g e) ≡ some d) ⊎ (nearer (over e (other_end g e) (one_end g e)) (relaxed g known v es) ≡ some d) → (relaxed g known v es ≡ some d → Out es)
          → Out (e ∷ es)
      first (inl r) ih = inr (over_some (λ p. back refl (sym p)) r)
      first (inr r) ih = second (nearer_some (over e (other_end g e) (one_end g e)) (relaxed g known v es) r) ih

  -- Relaxing makes nothing further than it is over the first edge.
  relaxed_first : (e : ℕ) (es : List ℕ) {u c : ℕ} → Joins g e u v → AtMost (get_or known u none) c → AtMost (relaxed g known v (e ∷ es)) (c + weight_of g e)
  unfolding relaxed
  relaxed_first e es {u} {c} (onward p q) h =
      nearer_right (over e (one_end g e) (other_end g e)) (nearer (over e (other_end g e) (one_end g e)) (relaxed g known v es))
      (nearer_left (over e (other_end g e) (one_end g e)) (relaxed g known v es) (over_most e (other_end g e) (one_end g e) (sym q) (subst (λ x. AtMost (get_or known x none) c) p h)))
  relaxed_first e es {u} {c} (back p q) h =
      nearer_left (over e (one_end g e) (other_end g e)) (nearer (over e (other_end g e) (one_end g e)) (relaxed g known v es))
      (over_most e (one_end g e) (other_end g e) (sym q) (subst (λ x. AtMost (get_or known x none) c) p h))

  -- An edge more makes nothing further.
  relaxed_more : (e : ℕ) (es : List ℕ) {c : ℕ} → AtMost (relaxed g known v es) c → AtMost (relaxed g known v (e ∷ es)) c
  unfolding relaxed
  relaxed_more e es h =
      nearer_right (over e (one_end g e) (other_end g e)) (nearer (over e (other_end g e) (one_end g e)) (relaxed g known v es))
      (nearer_right (over e (other_end g e) (one_end g e)) (relaxed g known v es) h)

  -- Relaxing makes nothing further than it was.
  pub relaxed_old : (es : List ℕ) {c : ℕ} → AtMost (get_or known v none) c → AtMost (relaxed g known v es) c
  unfolding relaxed
  relaxed_old [] h = h
  relaxed_old (e ∷ es) h = relaxed_more e es (relaxed_old es h)

  over_each : {e : ℕ} {es : List ℕ} {u c : ℕ} → e ∈ es → Joins g e u v → AtMost (get_or known u none) c → AtMost (relaxed g known v es) (c + weight_of g e)
  over_each {e = e} {c = c} (Memᴰ.head {xs = es} q) j h = subst (λ x. AtMost (relaxed g known v (x ∷ es)) (c + weight_of g e)) q (relaxed_first e es j h)
  over_each (Memᴰ.tail {x = x} {xs = es} m) j h = relaxed_more x es (over_each m j h)

  -- Relaxing makes nothing further than it is over an edge of the list.
  pub relaxed_over : {es : List ℕ} {e u c : ℕ} → e ∈ es → Joins g e u v → AtMost (get_or known u none) c → AtMost (relaxed g known v es) (c + weight_of g e)
  relaxed_over m j h = over_each m j h
