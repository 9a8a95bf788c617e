-- A leaf edge: the only edge of the graph at one of its ends. A walk to the leaf from elsewhere has the edge, and so has a tree that covers the
-- leaf and does not start there.
-- Assumes nothing.
use Prim.Native.Nat.{ℕ, ◌<◌}
use mathlib.Core.Path.{◌≡◌, refl, sym}
use mathlib.Core.List.Memᴰ
use mathlib.Core.List.{List, ◌∷◌}
use mathlib.Core.Logic.{◌⊎◌, inl, inr}
use Rattle.lists.specs.Member.{◌∈◌}
use Rattle.lists.proofs.Below.{equal_or_not}
use Rattle.graph.specs.Graph.{Graph, edge_count, one_end, other_end}
use Rattle.rules.specs.Walk.{Joins, onward, back, Walk, stay, step}
use Rattle.rules.specs.Cover.{Tree, Covers, at_start, at_one_end, at_other_end}
use Rattle.rules.proofs.Linked.{joins_back}
use Rattle.rules.proofs.Joined.{joins_same, joins_below, joins_covers}

-- The edge e joins s to the leaf c, another vertex, which has no other edge.
pub record Leaf (g : Graph) (e s c : ℕ) : Type 0 where
  pub inside : e < edge_count g
  pub joins : Joins g e s c
  pub apart : s ≡ c → ⊥
  pub only : {f u : ℕ} → f < edge_count g → Joins g f u c → f ≡ e

-- All edges of the list are edges of the graph.
abbrev pub AllInside : Graph → List ℕ → Type 0
AllInside g edges = (f : ℕ) → f ∈ edges → f < edge_count g

module _ {g : Graph} {e s c : ℕ} (leaf : Leaf g e s c) where
  -- An edge that leads to the leaf leads there from s,
  pub leaf_from : {f u : ℕ} → f < edge_count g → Joins g f u c → u ≡ s
  leaf_from {f} {u} h j = let k : Joins g e u c = rw (leaf.only h j) at j in go (joins_same k leaf.joins)
    where
      go : ((u ≡ s) × (c ≡ c)) ⊎ ((u ≡ c) × (c ≡ s)) → u ≡ s
      go (inl (p, q)) = p
      go (inr (p, q)) = absurd (leaf.apart (sym q))

  -- and the leaf edge leads there or away from there.
  pub leaf_ends : {u v : ℕ} → Joins g e u v → (u ≡ c) ⊎ (v ≡ c)
  leaf_ends {u} {v} j = go (joins_same j leaf.joins)
    where
      go : ((u ≡ s) × (v ≡ c)) ⊎ ((u ≡ c) × (v ≡ s)) → (u ≡ c) ⊎ (v ≡ c)
      go (inl (p, q)) = inr q
      go (inr (p, q)) = inl p

  -- Another edge has no end there.
  pub other_one_end : {f : ℕ} → f < edge_count g → (f ≡ e → ⊥) → one_end g f ≡ c → ⊥
  other_one_end h other q = other (leaf.only h (back refl (sym q)))

  pub other_other_end : {f : ℕ} → f < edge_count g → (f ≡ e → ⊥) → other_end g f ≡ c → ⊥
  other_other_end h other q = other (leaf.only h (onward refl (sym q)))

  -- A walk to the leaf from another vertex has the edge.
  pub walk_to_leaf : {path : List ℕ} {u : ℕ} → Walk g path u c → AllInside g path → (u ≡ c → ⊥) → e ∈ path
  walk_to_leaf (stay q) inside elsewhere = absurd (elsewhere q)
  walk_to_leaf (step {e = f} {path = path} {u = u} {w = w} j walk) inside elsewhere = go (equal_or_not w c) (λ n. walk_to_leaf walk (λ d m. inside d (Memᴰ.tail m)) n)
    where
      go : (w ≡ c) ⊎ (w ≡ c → ⊥) → ((w ≡ c → ⊥) → e ∈ path) → e ∈ (f ∷ path)
      go (inl q) ih = Memᴰ.head (sym (leaf.only (inside f (Memᴰ.head refl)) (rw q at j)))
      go (inr n) ih = Memᴰ.tail (ih n)

  -- Edges of the graph of which one leads to the leaf have the leaf edge.
  pub edge_at_leaf : {edges : List ℕ} → AllInside g edges → {f u : ℕ} → f ∈ edges → Joins g f u c → e ∈ edges
  edge_at_leaf inside {f} m j = Memᴰ.cast (sym (leaf.only (inside f m) j)) m

  -- A tree that covers the leaf starts there or has the edge;
  pub covers_leaf : {t : Tree} → AllInside g t.edges → Covers g t c → (t.start ≡ c) ⊎ (e ∈ t.edges)
  covers_leaf inside (at_start q) = inl (sym q)
  covers_leaf inside (at_one_end f m q) = inr (edge_at_leaf inside m (back refl q))
  covers_leaf inside (at_other_end f m q) = inr (edge_at_leaf inside m (onward refl q))

  -- one that has an edge at its start has the leaf edge;
  pub covers_leaf_by : {t : Tree} → AllInside g t.edges → (f far : ℕ) × (f ∈ t.edges) × Joins g f t.start far → Covers g t c → e ∈ t.edges
  covers_leaf_by {t} inside (f, far, m, j) covers = go (covers_leaf inside covers)
    where
      go : (t.start ≡ c) ⊎ (e ∈ t.edges) → e ∈ t.edges
      go (inl q) = edge_at_leaf inside m (joins_back (rw q at j))
      go (inr n) = n

  -- one that has the leaf edge covers the vertex at its other end.
  pub leaf_covers_stem : {t : Tree} → e ∈ t.edges → Covers g t s
  leaf_covers_stem m = joins_covers m (joins_back leaf.joins)

  -- The leaf is a vertex of the graph where the ends of all edges are.
  pub leaf_inside : {n : ℕ} → ((f : ℕ) → f < edge_count g → (one_end g f < n) × (other_end g f < n)) → c < n
  leaf_inside ends = let (a, b) = ends e leaf.inside in joins_below a b leaf.joins
