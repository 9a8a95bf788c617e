-- Walks can be turned round and joined, so that being linked is an equivalence, and more edges link no less.
-- Assumes nothing.
use Prim.Native.Nat.{ℕ}
use mathlib.Core.Path.{◌≡◌, refl, sym, ◌∙◌}
use mathlib.Core.List.Memᴰ
use mathlib.Core.List.{List, [], ◌∷◌, ◌++◌}
use mathlib.Core.Logic.{◌⊎◌, inl, inr}
use Rattle.lists.specs.Member.{◌∈◌}
use Rattle.lists.proofs.InOrder.{none, next, Once, append_in_order}
use Rattle.graph.specs.Graph.{Graph, one_end, other_end}
use Rattle.rules.specs.Walk.{Joins, onward, back, Walk, stay, step, Linked}

-- a list of edges, the last first
unfoldable pub turned : List ℕ → List ℕ
turned [] = []
turned (e ∷ p) = turned p ++ (e ∷ [])

pub of_turned : {x : ℕ} (p : List ℕ) → x ∈ turned p → x ∈ p
unfolding turned
of_turned [] m = m
of_turned {x} (e ∷ p) m = go (Memᴰ.append_cases (turned p) m) (λ r. of_turned p r)
  where
    go : (x ∈ turned p) ⊎ (x ∈ (e ∷ [])) → (x ∈ turned p → x ∈ p) → x ∈ (e ∷ p)
    go (inl r) ih = Memᴰ.tail (ih r)
    go (inr r) ih = Memᴰ.head (Memᴰ.eq_of_singleton r)

-- each element stands once in it where it does in the list
pub turned_once : {p : List ℕ} → Once p → Once (turned p)
unfolding turned
turned_once none = none
turned_once (next {xs = xs} h r) =
    append_in_order (turned_once r) (next (λ y m. absurd (Memᴰ.not-nil m)) none)
    (λ x y m n q. h x (of_turned xs m) (sym (q ∙ Memᴰ.eq_of_singleton n)))

module _ {g : Graph} where
  -- an edge joins both ways
  pub joins_back : {e u v : ℕ} → Joins g e u v → Joins g e v u
  joins_back (onward p q) = back q p
  joins_back (back p q) = onward q p

  -- a walk may start at an equal vertex
  pub walk_from : {p : List ℕ} {u v w : ℕ} → u ≡ v → Walk g p v w → Walk g p u w
  walk_from q (stay r) = stay (q ∙ r)
  walk_from q (step (onward a b) w) = step (onward (q ∙ a) b) w
  walk_from q (step (back a b) w) = step (back (q ∙ a) b) w

  -- two walks, one after the other
  pub walk_on : {p q : List ℕ} {u v w : ℕ} → Walk g p u v → Walk g q v w → Walk g (p ++ q) u w
  walk_on (stay r) b = walk_from r b
  walk_on (step j a) b = step j (walk_on a b)

  -- a walk, turned round
  pub walk_back : {p : List ℕ} {u v : ℕ} → Walk g p u v → Walk g (turned p) v u
  unfolding turned
  walk_back (stay r) = stay (sym r)
  walk_back (step j a) = walk_on (walk_back a) (step (joins_back j) (stay refl))

  -- being linked is an equivalence
  pub linked_same : {edges : List ℕ} {u v : ℕ} → u ≡ v → Linked g edges u v
  linked_same q = record { path = []; along = λ e m. absurd (Memᴰ.not-nil m); leads = stay q }

  pub linked_back : {edges : List ℕ} {u v : ℕ} → Linked g edges u v → Linked g edges v u
  linked_back l = record { path = turned l.path; along = λ e m. l.along e (of_turned l.path m); leads = walk_back l.leads }

  pub linked_on : {edges : List ℕ} {u v w : ℕ} → Linked g edges u v → Linked g edges v w → Linked g edges u w
  linked_on {edges} a b = record { path = a.path ++ b.path; along = λ e m. go e (Memᴰ.append_cases a.path m); leads = walk_on a.leads b.leads }
    where
      go : (e : ℕ) → (e ∈ a.path) ⊎ (e ∈ b.path) → e ∈ edges
      go e (inl m) = a.along e m
      go e (inr m) = b.along e m

  -- an edge of the list links what it joins
  pub linked_edge : {edges : List ℕ} {e u v : ℕ} → e ∈ edges → Joins g e u v → Linked g edges u v
  linked_edge {e = e} m j = record { path = e ∷ []; along = λ f n. Memᴰ.cast (Memᴰ.eq_of_singleton n) m; leads = step j (stay refl) }

  pub linked_ends : {edges : List ℕ} {e : ℕ} → e ∈ edges → Linked g edges (one_end g e) (other_end g e)
  linked_ends m = linked_edge m (onward refl refl)

  -- more edges link no less
  pub linked_more : {edges more : List ℕ} {u v : ℕ} → ((e : ℕ) → e ∈ edges → e ∈ more) → Linked g edges u v → Linked g more u v
  linked_more sub l = record { path = l.path; along = λ e m. sub e (l.along e m); leads = l.leads }

  -- the other end of an edge is linked to whatever its one end is linked to
  pub linked_other : {edges : List ℕ} {e u : ℕ} → e ∈ edges → Linked g edges u (one_end g e) → Linked g edges u (other_end g e)
  linked_other m l = linked_on l (linked_ends m)

  -- a relation that is an equivalence and holds of the ends of each edge holds of what is linked
  pub linked_least {κ} : (R : ℕ → ℕ → Type κ) → ((u v : ℕ) → u ≡ v → R u v) → ((u v w : ℕ) → R u v → R v w → R u w) → ((u v : ℕ) → R u v → R v u)
      → {edges : List ℕ} → ((e : ℕ) → e ∈ edges → R (one_end g e) (other_end g e)) → {u v : ℕ} → Linked g edges u v → R u v
  linked_least R same on turn {edges} holds l = go l.leads l.along
    where
      over : {e u v : ℕ} → R (one_end g e) (other_end g e) → Joins g e u v → R u v
      over {e} {u} {v} r (onward p q) = on u (one_end g e) v (same u (one_end g e) p) (on (one_end g e) (other_end g e) v r (same (other_end g e) v (sym q)))
      over {e} {u} {v} r (back p q) = on u (other_end g e) v (same u (other_end g e) p) (on (other_end g e) (one_end g e) v (turn (one_end g e) (other_end g e) r) (same (one_end g e) v (sym q)))

      go : {p : List ℕ} {u v : ℕ} → Walk g p u v → ((e : ℕ) → e ∈ p → e ∈ edges) → R u v
      go {u = u} {v = v} (stay q) sub = same u v q
      go {u = u} {v = v} (step {e = e} {w = w} j a) sub = on u w v (over (holds e (sub e (Memᴰ.head refl))) j) (go a (λ f m. sub f (Memᴰ.tail m)))
