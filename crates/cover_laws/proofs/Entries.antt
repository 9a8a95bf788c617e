-- The entries of trees, as pairs of a tree's number and an edge: grouping them by tree gives each tree's edges again.
-- Assumes nothing.
use Prim.Native.Nat.{ℕ, zero, suc, ◌+◌, ◌≤◌, ◌<◌}
use mathlib.Core.Path.{◌≡◌, refl, ap}
use mathlib.Core.List.Memᴰ
use mathlib.Core.List.{List, [], ◌∷◌, ◌++◌, map, map-append, append-nil}
use mathlib.Core.Logic.{◌⊎◌, inl, inr}
use native.Mathlib.Omega.{arith}
use lib.Dec.{eqb}
use lib.ListN.{length, get_or, replicate}
use borrow.Author.Tests.{eq-eqb, ne_eqb}
use Rattle.lists.specs.Lists.{filter, flat}
use Rattle.lists.specs.Member.{◌∈◌}
use Rattle.lists.proofs.Member.{of_map}
use Rattle.lists.proofs.Filters.{filter_none, filter_append}
use Rattle.rules.specs.Cover.{Tree}
use Rattle.rules.specs.CoverBytes.{entry_trees, entry_edges}

-- An entry names a tree and an edge.
pub record Entry : Type 0 where
  pub tree : ℕ
  pub edge : ℕ

-- Edges, as entries of tree j.
unfoldable pub named : ℕ → List ℕ → List Entry
named j es = map (λ e. record { tree = j; edge = e }) es

-- The entries of trees, numbered from j on.
unfoldable pub entries_of : ℕ → List Tree → List Entry
entries_of j [] = []
entries_of j (t ∷ ts) = named j t.edges ++ entries_of (suc j) ts

-- The edges of the entries that name tree j.
unfoldable pub edges_of : ℕ → List Entry → List ℕ
edges_of j es = map (λ (x : Entry). x.edge) (filter (λ (x : Entry). eqb x.tree j) es)

-- An entry of tree j adds its edge.
pub edges_of_same : (j : ℕ) (x : Entry) (es : List Entry) → x.tree ≡ j → edges_of j (x ∷ es) ≡ x.edge ∷ edges_of j es
unfolding edges_of filter
edges_of_same j x es e = rw (eq-eqb x.tree j e)

-- Entries after entries give edges after edges.
pub edges_of_append : (j : ℕ) (xs ys : List Entry) → edges_of j (xs ++ ys) ≡ edges_of j xs ++ edges_of j ys
unfolding edges_of
edges_of_append j xs ys = rw (filter_append, map-append)

-- The entries of tree j give its edges, and the entries of others none.
pub edges_of_named : (j : ℕ) (es : List ℕ) → edges_of j (named j es) ≡ es
unfolding named edges_of filter
edges_of_named j [] = refl
edges_of_named j (e ∷ es) = rw (eq-eqb j j refl) (ap (λ l. e ∷ l) (edges_of_named j es))

pub edges_of_none : (j : ℕ) (xs : List Entry) → ((x : Entry) → x ∈ xs → x.tree ≡ j → ⊥) → edges_of j xs ≡ []
unfolding edges_of
edges_of_none j xs h = ap (map (λ (x : Entry). x.edge)) (filter_none (λ (x : Entry). eqb x.tree j) xs (λ x m. ne_eqb x.tree j (h x m)))

-- What stands among the entries of tree j names tree j, and one of its edges.
pub of_named : {x : Entry} (j : ℕ) (es : List ℕ) → x ∈ named j es → (x.tree ≡ j) × (x.edge ∈ es)
unfolding named
of_named {x} j es m =
    let r = of_map (λ e. record { tree = j; edge = e }) es m in
    (ap (λ (y : Entry). y.tree) r.2, Memᴰ.cast (ap (λ (y : Entry). y.edge) r.2) r.1)

-- What stands among the entries of trees names one of them, and one of its edges.
pub of_entries : {x : Entry} (a : ℕ) (ts : List Tree) → x ∈ entries_of a ts → (a ≤ x.tree) × (x.tree < a + length ts) × ((t : Tree) × (t ∈ ts) × (x.edge ∈ t.edges))
unfolding entries_of
of_entries a [] m = absurd (Memᴰ.not-nil m)
of_entries {x} a (t ∷ ts) m = go (Memᴰ.append_cases (named a t.edges) m) (λ r. of_entries (suc a) ts r)
  where
    Said : ℕ → List Tree → Type 0
    Said j l = (j ≤ x.tree) × (x.tree < j + length l) × ((s : Tree) × (s ∈ l) × (x.edge ∈ s.edges))

    go : (x ∈ named a t.edges) ⊎ (x ∈ entries_of (suc a) ts) → (x ∈ entries_of (suc a) ts → Said (suc a) ts) → Said a (t ∷ ts)
    go (inl r) ih = let q = of_named a t.edges r in (omega arith, omega arith, (t, Memᴰ.head refl, q.1))
    go (inr r) ih = let q = ih r in (omega arith, omega arith, (q.2.0, Memᴰ.tail q.2.1, q.2.2))

named_trees : (j : ℕ) (es : List ℕ) → map (λ (x : Entry). x.tree) (named j es) ≡ replicate (length es) j
unfolding named
named_trees j [] = refl
named_trees j (e ∷ es) = ap (λ l. j ∷ l) (named_trees j es)

named_edges : (j : ℕ) (es : List ℕ) → map (λ (x : Entry). x.edge) (named j es) ≡ es
unfolding named
named_edges j [] = refl
named_edges j (e ∷ es) = ap (λ l. e ∷ l) (named_edges j es)

-- The entries' tree numbers and edge numbers, apart, are those that a cover's bytes hold.
pub entries_trees : (a : ℕ) (ts : List Tree) → map (λ (x : Entry). x.tree) (entries_of a ts) ≡ entry_trees a ts
unfolding entries_of entry_trees
entries_trees a [] = refl
entries_trees a (t ∷ ts) = rw (map-append, entries_trees (suc a) ts) (ap (λ l. l ++ entry_trees (suc a) ts) (named_trees a t.edges))

pub entries_edges : (a : ℕ) (ts : List Tree) → map (λ (x : Entry). x.edge) (entries_of a ts) ≡ entry_edges ts
unfolding entries_of entry_edges flat
entries_edges a [] = refl
entries_edges a (t ∷ ts) = rw (map-append, entries_edges (suc a) ts) (ap (λ l. l ++ flat (map (λ (s : Tree). s.edges) ts)) (named_edges a t.edges))

-- Grouped by tree, the entries of trees give each tree's edges again.
pub edges_again : (d : Tree) (ts : List Tree) (a i : ℕ) → i < length ts → edges_of (a + i) (entries_of a ts) ≡ (get_or ts i d).edges
unfolding entries_of
edges_again d [] a i h = absurd (omega arith)
edges_again d (t ∷ ts) a zero h =
    let e : a + 0 ≡ a = omega arith in
    rw (e, edges_of_append, edges_of_named, edges_of_none a (entries_of (suc a) ts) (λ x m q. omega (arith, (of_entries (suc a) ts m).0))) (append-nil t.edges)
edges_again d (t ∷ ts) a (suc i) h =
    let e : a + suc i ≡ suc a + i = omega arith in
    rw (e, edges_of_append, edges_of_none (suc a + i) (named a t.edges) (λ x m q. omega (arith, (of_named a t.edges m).0))) (edges_again d ts (suc a) i (omega arith))
