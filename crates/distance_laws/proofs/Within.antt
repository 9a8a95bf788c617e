-- A linked vertex is within the edges' weight: where edges of a list link two vertices, a walk between them along edges of the list weighs at
-- most the whole list. Its first edge is used once, and after the last use the others link.
-- Assumes nothing.
use Prim.Native.Nat.{ℕ, zero, suc, ◌≤◌, ◌<◌}
use mathlib.Core.Path.{◌≡◌, refl, sym, ◌∙◌}
use mathlib.Core.List.Memᴰ
use mathlib.Core.List.{List, [], ◌∷◌}
use mathlib.Core.Logic.{◌⊎◌, inl, inr}
use native.Mathlib.Decide.{ℕ_discrete}
use native.Mathlib.Omega.{arith}
use Rattle.lists.specs.Lists.{sum_of, without}
use Rattle.lists.specs.Member.{◌∈◌}
use Rattle.lists.proofs.Member.{of_without, in_without}
use Rattle.lists.proofs.SumWithout.{sum_without}
use Rattle.graph.specs.Graph.{Graph, one_end, other_end, weight_of}
use Rattle.rules.specs.Walk.{Joins, onward, back, Walk, stay, step, total_weight, Linked}
use Rattle.rules.proofs.Linked.{walk_from, linked_same, linked_edge, linked_on}

-- A walk along edges of the list leads from u to v, and weighs at most the list.
pub record LightLink (g : Graph) (edges : List ℕ) (u v : ℕ) : Type 0 where
  pub path : List ℕ
  pub along : (e : ℕ) → e ∈ path → e ∈ edges
  pub leads : Walk g path u v
  pub light : total_weight g path ≤ total_weight g edges

-- An end of the edge e is linked to v by the other edges of the list.
record AfterUse (g : Graph) (edges : List ℕ) (e v : ℕ) : Type 0 where
  end : ℕ
  is_end : (end ≡ one_end g e) ⊎ (end ≡ other_end g e)
  rest : Linked g (without e edges) end v

module _ {g : Graph} where
  -- From an end of an edge, each of its ends is the same or joined by it.
  from_end : {e u w x : ℕ} → Joins g e u w → (x ≡ one_end g e) ⊎ (x ≡ other_end g e) → (u ≡ x) ⊎ Joins g e u x
  from_end (onward p q) (inl r) = inl (p ∙ sym r)
  from_end (onward p q) (inr r) = inr (onward p r)
  from_end (back p q) (inl r) = inr (back p r)
  from_end (back p q) (inr r) = inl (p ∙ sym r)

  -- An edge leads to one of its ends.
  to_end : {d e u w : ℕ} → e ≡ d → Joins g d u w → (w ≡ one_end g e) ⊎ (w ≡ other_end g e)
  to_end r (onward p q) = inr (rw (sym r) at q)
  to_end r (back p q) = inl (rw (sym r) at q)

  -- A walk never uses an edge, or it uses it for the last time.
  last_use : {edges path : List ℕ} {u v : ℕ} (e : ℕ) → Walk g path u v → ((d : ℕ) → d ∈ path → d ∈ edges) → Linked g (without e edges) u v ⊎ AfterUse g edges e v
  last_use e (stay q) sub = inl (linked_same q)
  last_use {edges} {u = u} {v = v} e (step {e = d} {w = w} j walk) sub = go (ℕ_discrete e d) (last_use e walk (λ f m. sub f (Memᴰ.tail m)))
    where
      go : Dec (e ≡ d) → Linked g (without e edges) w v ⊎ AfterUse g edges e v → Linked g (without e edges) u v ⊎ AfterUse g edges e v
      go p (inr a) = inr a
      go (yes p) (inl l) = inr (record { end = w; is_end = to_end p j; rest = l })
      go (no n) (inl l) = inl (linked_on (linked_edge (in_without e (sub d (Memᴰ.head refl)) n) j) l)

  -- A light walk along the edges but e is one along the edges, with e in front or without it.
  light_same : {edges : List ℕ} {e u x v : ℕ} → e ∈ edges → u ≡ x → LightLink g (without e edges) x v → LightLink g edges u v
  unfolding total_weight
  light_same {edges} {e} m q l = record {
    path = l.path;
    along = λ d n. (of_without e edges (l.along d n)).0;
    leads = walk_from q l.leads;
    light = omega (arith, l.light, sum_without (weight_of g) m);
  }

  light_on : {edges : List ℕ} {e u x v : ℕ} → e ∈ edges → Joins g e u x → LightLink g (without e edges) x v → LightLink g edges u v
  unfolding total_weight sum_of
  light_on {edges} {e} m j l = record {
    path = e ∷ l.path;
    along = λ d n. stands d n;
    leads = step j l.leads;
    light = omega (arith, l.light, sum_without (weight_of g) m);
  }
    where
      stands : (d : ℕ) → d ∈ (e ∷ l.path) → d ∈ edges
      stands d (Memᴰ.head q) = Memᴰ.cast q m
      stands d (Memᴰ.tail n) = (of_without e edges (l.along d n)).0

  -- The same, with a bound on how many edges there are.
  light_link : (most : ℕ) (edges : List ℕ) {u v : ℕ} → sum_of (λ _. 1) edges < most → Linked g edges u v → LightLink g edges u v
  unfolding total_weight sum_of
  light_link zero edges few l = absurd (omega arith)
  light_link (suc most) edges {u} {v} few l = go l.leads l.along (λ e x. light_link most (without e edges) {u = x} {v = v})
    where
      go : {path : List ℕ} → Walk g path u v → ((e : ℕ) → e ∈ path → e ∈ edges)
          → ((e x : ℕ) → sum_of (λ _. 1) (without e edges) < most → Linked g (without e edges) x v → LightLink g (without e edges) x v) → LightLink g edges u v
      go (stay q) sub ih = record { path = []; along = λ e m. absurd (Memᴰ.not-nil m); leads = stay q; light = omega arith }
      go (step {e = e} {w = w} j walk) sub ih = after (last_use e walk (λ f m. sub f (Memᴰ.tail m)))
        where
          used : e ∈ edges
          used = sub e (Memᴰ.head refl)

          fewer : sum_of (λ _. 1) (without e edges) < most
          fewer = omega (arith, sum_without (λ _. 1) used)

          from : (a : AfterUse g edges e v) → (u ≡ a.end) ⊎ Joins g e u a.end → LightLink g edges u v
          from a (inl q) = light_same used q (ih e a.end fewer a.rest)
          from a (inr k) = light_on used k (ih e a.end fewer a.rest)

          after : Linked g (without e edges) w v ⊎ AfterUse g edges e v → LightLink g edges u v
          after (inl r) = light_on used j (ih e w fewer r)
          after (inr a) = from a (from_end j a.is_end)

  -- Where edges link two vertices, a walk along them between the two weighs at most all of them.
  pub linked_light : {edges : List ℕ} {u v : ℕ} → Linked g edges u v → LightLink g edges u v
  linked_light {edges} l = light_link (suc (sum_of (λ _. 1) edges)) edges (omega arith) l
