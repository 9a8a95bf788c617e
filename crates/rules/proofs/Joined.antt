-- What an edge joins: vertices of the graph, covered by a tree with the edge. Edges that are linked to a vertex: the edges of a walk are
-- linked to its start, a vertex at a linked edge is linked, and a set of edges that is linked to a tree's start links to it whatever the
-- tree covers.
-- Assumes nothing.
use Prim.Native.Nat.{ℕ, ◌<◌}
use mathlib.Core.Path.{◌≡◌, refl, sym, ◌∙◌}
use mathlib.Core.List.Memᴰ
use mathlib.Core.List.{List}
use mathlib.Core.Logic.{◌⊎◌, inl, inr}
use Rattle.lists.specs.Member.{◌∈◌}
use Rattle.graph.specs.Graph.{Graph, one_end, other_end}
use Rattle.rules.specs.Walk.{Joins, onward, back, Walk, stay, step, Linked}
use Rattle.rules.specs.Cover.{Tree, Covers, at_start, at_one_end, at_other_end}
use Rattle.rules.proofs.Linked.{linked_same, linked_on, linked_edge, linked_more, linked_other}

-- Every edge of the list is linked to v by the list.
abbrev pub JoinedTo : Graph → ℕ → List ℕ → Type 0
JoinedTo g v edges = (e : ℕ) → e ∈ edges → Linked g edges v (one_end g e)

-- an edge joins the same two vertices, in either order
pub joins_same : {g : Graph} {e u v a b : ℕ} → Joins g e u v → Joins g e a b → ((u ≡ a) × (v ≡ b)) ⊎ ((u ≡ b) × (v ≡ a))
joins_same (onward p q) (onward r t) = inl (p ∙ sym r, q ∙ sym t)
joins_same (onward p q) (back r t) = inr (p ∙ sym t, q ∙ sym r)
joins_same (back p q) (onward r t) = inr (p ∙ sym t, q ∙ sym r)
joins_same (back p q) (back r t) = inl (p ∙ sym r, q ∙ sym t)

module _ {g : Graph} where
  -- what an edge joins is below n where both of its ends are
  pub joins_below : {n e u v : ℕ} → one_end g e < n → other_end g e < n → Joins g e u v → v < n
  joins_below h l (onward p q) = rw q l
  joins_below h l (back p q) = rw q h

  -- a tree covers what its edges join
  pub joins_covers : {t : Tree} {e u v : ℕ} → e ∈ t.edges → Joins g e u v → Covers g t v
  joins_covers {e = e} m (onward p q) = at_other_end e m q
  joins_covers {e = e} m (back p q) = at_one_end e m q

  -- an edge of the list links what it joins to its one end
  pub linked_one_end : {edges : List ℕ} {e u v : ℕ} → e ∈ edges → Joins g e u v → Linked g edges u (one_end g e)
  linked_one_end m (onward p q) = linked_same p
  linked_one_end m (back p q) = linked_edge m (back p refl)

  -- what is linked to the one end of an edge is linked to whatever the edge leads to
  pub linked_to : {edges : List ℕ} {e r u v : ℕ} → e ∈ edges → Linked g edges r (one_end g e) → Joins g e u v → Linked g edges r v
  linked_to m l (onward p q) = linked_on (linked_other m l) (linked_same (sym q))
  linked_to m l (back p q) = linked_on l (linked_same (sym q))

  -- a walk links its start to its end,
  pub walk_linked : {path : List ℕ} {u v : ℕ} → Walk g path u v → Linked g path u v
  walk_linked {path} w = record { path = path; along = λ e m. m; leads = w }

  -- and to each of its edges
  pub walk_joined : {path : List ℕ} {u v : ℕ} → Walk g path u v → JoinedTo g u path
  walk_joined (stay q) e m = absurd (Memᴰ.not-nil m)
  walk_joined (step j w) e (Memᴰ.head q) = rw q (linked_one_end (Memᴰ.head refl) j)
  walk_joined (step j w) e (Memᴰ.tail m) = linked_on (linked_edge (Memᴰ.head refl) j) (linked_more (λ f n. Memᴰ.tail n) (walk_joined w e m))

-- where a tree's edges are linked to its start, whatever it covers is
pub joined_covers : {g : Graph} {t : Tree} → JoinedTo g t.start t.edges → {v : ℕ} → Covers g t v → Linked g t.edges t.start v
joined_covers joined (at_start q) = linked_same (sym q)
joined_covers joined (at_one_end e m q) = linked_on (joined e m) (linked_same (sym q))
joined_covers joined (at_other_end e m q) = linked_on (linked_other m (joined e m)) (linked_same (sym q))
