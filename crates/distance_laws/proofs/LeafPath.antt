-- A shortest path has no leaf edge that weighs something: a walk that enters the leaf ends there, and then is lighter without that edge, or goes
-- back, and then is lighter without both.
-- Assumes nothing.
use Prim.Native.Nat.{ℕ, ◌≤◌, ◌<◌}
use mathlib.Core.Path.{◌≡◌, refl, sym, ◌∙◌}
use mathlib.Core.List.Memᴰ
use mathlib.Core.List.{List, [], ◌∷◌}
use mathlib.Core.Logic.{◌⊎◌, inl, inr}
use native.Mathlib.Omega.{arith}
use Rattle.lists.specs.Lists.{sum_of}
use Rattle.lists.specs.Member.{◌∈◌}
use Rattle.lists.proofs.Below.{equal_or_not}
use Rattle.graph.specs.Graph.{Graph, edge_count, weight_of}
use Rattle.rules.specs.Walk.{Joins, Walk, stay, step, total_weight}
use Rattle.rules.specs.Cover.{Tree}
use Rattle.rules.specs.Distance.{tree_vertices, IsShortestPath}
use Rattle.rules.proofs.Linked.{joins_back}
use Rattle.rules.proofs.Leaf.{Leaf, AllInside, leaf_from, leaf_ends}

-- A lighter walk, to the same vertex, or to s in place of c.
record Lighter (g : Graph) (s c u v weight : ℕ) : Type 0 where
  path : List ℕ
  end : ℕ
  there : (end ≡ v) ⊎ ((v ≡ c) × (end ≡ s))
  leads : Walk g path u end
  light : total_weight g path < weight

module _ {g : Graph} {e s c : ℕ} (leaf : Leaf g e s c) (some : 1 ≤ weight_of g e) where
  -- A walk from the leaf ends there, or goes on from s.
  FromLeaf : List ℕ → ℕ → Type 0
  FromLeaf rest v = (v ≡ c) ⊎ ((more : List ℕ) × Walk g more s v × (total_weight g more ≤ total_weight g rest))

  from_leaf : {rest : List ℕ} {x v : ℕ} → Walk g rest x v → AllInside g rest → x ≡ c → FromLeaf rest v
  unfolding FromLeaf total_weight sum_of
  from_leaf (stay p) inside q = inl (sym p ∙ q)
  from_leaf (step {e = f} {path = more} {w = y} j on) inside q =
      let stem : y ≡ s = leaf_from leaf (inside f (Memᴰ.head refl)) (joins_back (rw q at j)) in
      inr (more, (rw stem at on), omega arith)

  -- A walk with the edge, from elsewhere, can be lighter.
  lighter : {path : List ℕ} {u v : ℕ} → Walk g path u v → AllInside g path → (u ≡ c → ⊥) → e ∈ path → Lighter g s c u v (total_weight g path)
  unfolding FromLeaf total_weight sum_of
  lighter (stay q) inside elsewhere m = absurd (Memᴰ.not-nil m)
  lighter {u = u} {v = v} (step {e = f} {path = rest} {w = x} j walk) inside elsewhere m = go (equal_or_not x c) (λ n k. lighter walk later n k)
    where
      here : f < edge_count g
      here = inside f (Memᴰ.head refl)

      later : AllInside g rest
      later d n = inside d (Memᴰ.tail n)

      ended : f ≡ e → u ≡ s → FromLeaf rest v → Lighter g s c u v (total_weight g (f ∷ rest))
      ended o p (inl q) = let w : 1 ≤ weight_of g f = rw o some in record { path = []; end = u; there = inr (q, p); leads = stay refl; light = omega arith }
      ended o p (inr (more, on, light)) = let w : 1 ≤ weight_of g f = rw o some in record { path = more; end = v; there = inl refl; leads = rw p on; light = omega arith }

      late : (x ≡ c → ⊥) → (e ∈ rest → Lighter g s c x v (total_weight g rest)) → e ∈ (f ∷ rest) → Lighter g s c u v (total_weight g (f ∷ rest))
      late n ih (Memᴰ.head q) = absurd (both (leaf_ends leaf (rw q j)))
        where
          both : (u ≡ c) ⊎ (x ≡ c) → ⊥
          both (inl p) = elsewhere p
          both (inr p) = n p
      late n ih (Memᴰ.tail k) =
          let l = ih k in
          record { path = f ∷ l.path; end = l.end; there = l.there; leads = step j l.leads; light = omega (arith, l.light) }

      go : (x ≡ c) ⊎ (x ≡ c → ⊥) → ((x ≡ c → ⊥) → e ∈ rest → Lighter g s c x v (total_weight g rest)) → Lighter g s c u v (total_weight g (f ∷ rest))
      go (inl q) ih = let k : Joins g f u c = rw q at j in ended (leaf.only here k) (leaf_from leaf here k) (from_leaf walk later q)
      go (inr n) ih = late n (ih n) m

  -- A shortest path from elsewhere, to a part that holds s where it holds c, does not have the edge.
  pub shortest_no_leaf : {r : ℕ} {part : Tree} {path : List ℕ} → IsShortestPath g r part path → (r ≡ c → ⊥)
      → (c ∈ tree_vertices g part → s ∈ tree_vertices g part) → e ∈ path → ⊥
  shortest_no_leaf {r} {part} {path} short elsewhere holds m = let l = lighter short.leads short.inside elsewhere m in go l l.there
    where
      go : (l : Lighter g s c r short.end (total_weight g path)) → (l.end ≡ short.end) ⊎ ((short.end ≡ c) × (l.end ≡ s)) → ⊥
      go l (inl q) = omega (arith, l.light, short.shortest l.end l.path (rw q short.in_part_lem) l.leads)
      go l (inr (q, p)) = omega (arith, l.light, short.shortest l.end l.path (rw p (holds (rw q at short.in_part_lem))) l.leads)
