-- Entries that rise by tree, then by edge, are the entries of the trees that they group into, and the edges of each such tree rise.
-- Assumes nothing.
use Prim.Native.Nat.{ℕ, zero, suc, ◌+◌, ◌≤◌, ◌<◌}
use mathlib.Core.Path.{◌≡◌, refl, sym, ap, ap₂, subst, ◌∙◌}
use mathlib.Core.Bool.{Bool}
use mathlib.Core.List.Memᴰ
use mathlib.Core.List.{List, [], ◌∷◌, ◌++◌, map}
use mathlib.Core.Logic.{◌⊎◌, inl, inr}
use native.Mathlib.Decide.{ℕ_discrete}
use native.Mathlib.Omega.{arith}
use lib.Dec.{eqb}
use borrow.Author.Tests.{eqb-true}
use Rattle.lists.specs.Count.{from}
use Rattle.lists.specs.Lists.{filter}
use Rattle.lists.specs.Member.{◌∈◌}
use Rattle.lists.proofs.Member.{empty_list, of_map, of_filter}
use Rattle.lists.proofs.InOrder.{InOrder, none, next, Rising, filter_in_order, append_in_order, in_order_within, in_order_weaken}
use Rattle.lists.proofs.Images.{images_in_order}
use Rattle.lists.proofs.Below.{of_from}
use Rattle.lists.proofs.Runs.{map_same}
use Rattle.rules.specs.Cover.{Tree}
use Rattle.cover_laws.proofs.Entries.{Entry, named, entries_of, edges_of, edges_of_same, edges_of_append, edges_of_none, of_named, of_entries}

-- One entry comes before another: by tree, then by edge.
abbrev pub Before : Entry → Entry → Type 0
Before x y = (x.tree < y.tree) ⊎ ((x.tree ≡ y.tree) × (x.edge < y.edge))

-- Each entry comes before all that follow it.
abbrev pub Rises : List Entry → Type 0
Rises es = InOrder Before es

-- Rising edges are rising entries of one tree.
pub rises_named : {es : List ℕ} (j : ℕ) → Rising es → Rises (named j es)
unfolding named
rises_named j r = images_in_order (λ e. record { tree = j; edge = e }) (in_order_weaken (λ e f h. inr (refl, h)) r)

-- The entries of trees whose edges rise, rise.
pub rises_entries : (a : ℕ) (ts : List Tree) → ((t : Tree) → t ∈ ts → Rising t.edges) → Rises (entries_of a ts)
unfolding entries_of
rises_entries a [] h = none
rises_entries a (t ∷ ts) h =
    append_in_order (rises_named a (h t (Memᴰ.head refl))) (rises_entries (suc a) ts (λ s m. h s (Memᴰ.tail m)))
    (λ x y m n. inl (omega (arith, (of_named a t.edges m).0, (of_entries (suc a) ts n).0)))

-- An edge of tree j stands in an entry of tree j.
pub of_edges : {e : ℕ} (j : ℕ) (es : List Entry) → e ∈ edges_of j es → (x : Entry) × (x ∈ es) × (x.tree ≡ j) × (e ≡ x.edge)
unfolding edges_of
of_edges j es m =
    let r = of_map (λ (x : Entry). x.edge) (filter (λ (x : Entry). eqb x.tree j) es) m in
    let q = of_filter (λ (x : Entry). eqb x.tree j) es r.1 in
    (r.0, q.0, eqb-true r.0.tree j q.1, r.2)

-- The edges that the entries give to tree j rise.
pub edges_rise : {es : List Entry} (j : ℕ) → Rises es → Rising (edges_of j es)
unfolding edges_of
edges_rise {es} j r =
    images_in_order (λ (x : Entry). x.edge) (in_order_within (filter_in_order of_tree r) (λ x y m n. elim [ inl l ↦ absurd (omega (arith, at x m, at y n)) | inr l ↦ l.1 ]))
  where
    of_tree : Entry → Bool
    of_tree x = eqb x.tree j

    at : (x : Entry) → x ∈ filter of_tree es → x.tree ≡ j
    at x m = eqb-true x.tree j (of_filter of_tree es m).1

-- Rising entries from tree a on: those of tree a, and then entries past it.
record Parted (a : ℕ) (es : List Entry) : Type 0 where
  rest : List Entry
  whole : es ≡ named a (edges_of a es) ++ rest
  rises : Rises rest
  past : (x : Entry) → x ∈ rest → suc a ≤ x.tree

parted : {es : List Entry} (a : ℕ) → Rises es → ((x : Entry) → x ∈ es → a ≤ x.tree) → Parted a es
unfolding named edges_of filter
parted a none h = record { rest = []; whole = refl; rises = none; past = λ x m. absurd (Memᴰ.not-nil m) }
parted a (next {x = x} {xs = xs} b r) h = go (ℕ_discrete x.tree a) (parted a r (λ y m. h y (Memᴰ.tail m)))
  where
    beyond : (x.tree ≡ a → ⊥) → (y : Entry) → y ∈ (x ∷ xs) → suc a ≤ y.tree
    beyond q y (Memᴰ.head e) = rw e (omega (arith, h x (Memᴰ.head refl)))
    beyond q y (Memᴰ.tail m) = elim (b y m) [ inl l ↦ omega (arith, h x (Memᴰ.head refl)) | inr l ↦ omega (arith, h x (Memᴰ.head refl), l.0) ]

    go : Dec (x.tree ≡ a) → Parted a xs → Parted a (x ∷ xs)
    go (yes q) p =
        record {
          rest = p.rest;
          whole = rw (edges_of_same a x xs q) (ap₂ ◌∷◌ (λ i. record { tree = q i; edge = x.edge }) p.whole);
          rises = p.rises;
          past = p.past;
        }
    go (no q) p =
        record {
          rest = x ∷ xs;
          whole = rw (edges_of_none a (x ∷ xs) (λ y m e. omega (arith, beyond q y m)));
          rises = next b r;
          past = beyond q;
        }

-- The tree that entries group into, with the start that a function gives it.
unfoldable pub grouped : (ℕ → ℕ) → List Entry → ℕ → Tree
grouped start es j = record { start = start j; edges = edges_of j es }

-- Rising entries that name trees from a on, m of them, are the entries of the trees that they group into.
pub entries_again : (start : ℕ → ℕ) {es : List Entry} (a m : ℕ) → Rises es
    → ((x : Entry) → x ∈ es → a ≤ x.tree) → ((x : Entry) → x ∈ es → x.tree < a + m) → entries_of a (map (grouped start es) (from a m)) ≡ es
unfolding grouped from entries_of
entries_again start {es} a zero r low high = sym (empty_list es (λ x m. omega (arith, low x m, high x m)))
entries_again start {es} a (suc m) r low high =
    ap (λ l. named a (edges_of a es) ++ entries_of (suc a) l)
    (map_same (from (suc a) m) (λ j n. (λ i. record { start = start j; edges = same j (of_from (suc a) m n).0 i })))
    ∙ (ap (λ l. named a (edges_of a es) ++ l) (entries_again start {es = p.rest} (suc a) m p.rises p.past (λ x n. omega (arith, high x (kept x n)))) ∙ sym p.whole)
  where
    p : Parted a es
    p = parted a r low

    kept : (x : Entry) → x ∈ p.rest → x ∈ es
    kept x n = subst (λ l. x ∈ l) (sym p.whole) (Memᴰ.append_right (named a (edges_of a es)) n)

    same : (j : ℕ) → suc a ≤ j → edges_of j es ≡ edges_of j p.rest
    same j l =
        ap (edges_of j) p.whole
        ∙ (edges_of_append j (named a (edges_of a es)) p.rest
        ∙ ap (λ k. k ++ edges_of j p.rest) (edges_of_none j (named a (edges_of a es)) (λ x n e. omega (arith, (of_named a (edges_of a es) n).0))))
