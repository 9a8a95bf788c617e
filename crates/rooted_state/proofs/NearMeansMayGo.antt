-- A root is near a part where it is within the limit of one of its vertices: the table says the distances, and a tree has the same vertices in
-- whatever order its edges stand.
-- Assumes nothing.
use Prim.Native.Nat.{ℕ, ◌<◌}
use mathlib.Core.Path.{◌≡◌, refl, sym, ap, ◌∙◌}
use mathlib.Core.Bool.{Bool, true, false}
use mathlib.Core.List.Memᴰ
use mathlib.Core.List.{List, ◌∷◌, map}
use mathlib.Core.Logic.{◌⊎◌, inl, inr}
use mathlib.Core.Option.{none}
use native.Mathlib.Omega.{arith}
use lib.ListN.{get_or}
use lib.Dec.{leb}
use borrow.Author.Tests.{lt-leb}
use Rattle.lists.specs.Lists.{any, flat}
use Rattle.lists.specs.Member.{◌∈◌}
use Rattle.lists.specs.Sort.{rise}
use Rattle.lists.proofs.FlatMap.{in_flat_map, of_flat_map}
use Rattle.lists.proofs.Member.{any_found, found_any, either}
use Rattle.lists.proofs.Sorting.{in_rise, of_rise}
use Rattle.graph.specs.Graph.{Graph}
use Rattle.graph.specs.Valid.{Valid}
use Rattle.graph.proofs.Ranges.{one_end_below, other_end_below}
use Rattle.rules.specs.Cover.{Tree}
use Rattle.rules.specs.Distance.{Distance, distances as distances_from, is_within, tree_vertices, reaches_part}
use Rattle.rules.specs.Held.{risen}
use Rattle.distance.specs.Shortest.{SaysDistance, nowhere, there, unreached}
use Rattle.pieces.specs.Pieces.{ends_of}

-- Some element of one list passes a test exactly where one of the other does, where they have the same elements and the tests agree on them.
pub any_alike : {A : Type 0} (f h : A → Bool) (xs ys : List A) → ((x : A) → x ∈ xs → x ∈ ys) → ((y : A) → y ∈ ys → y ∈ xs)
    → ((x : A) → x ∈ xs → f x ≡ h x) → any f xs ≡ any h ys
any_alike f h xs ys to back same = go (either (any f xs)) (either (any h ys))
  where
    go : (any f xs ≡ true) ⊎ (any f xs ≡ false) → (any h ys ≡ true) ⊎ (any h ys ≡ false) → any f xs ≡ any h ys
    go (inl p) (inl q) = p ∙ sym q
    go (inl p) (inr q) = let (x, m, t) = any_found f xs p in p ∙ sym (found_any h (to x m) (sym (same x m) ∙ t))
    go (inr p) (inl q) = let (y, m, t) = any_found h ys q in found_any f (back y m) (same y (back y m) ∙ t) ∙ sym q
    go (inr p) (inr q) = p ∙ sym q

-- A number that says a distance is at most the limit exactly where the distance is.
pub says_within : (limit x : ℕ) (d : Distance) → limit < unreached → SaysDistance x d → leb x limit ≡ is_within limit d
unfolding is_within
says_within limit x d h (nowhere p q) = lt-leb x limit (omega arith) ∙ ap (is_within limit) (sym q)
says_within limit x d h (there p q) = ap (is_within limit) (sym q)

module _ (g : Graph) (start : ℕ) where
  -- The start and the ends of some edges.
  abbrev pub around : List ℕ → List ℕ
  around edges = start ∷ flat (map (ends_of g) edges)

  -- Where the edges are among others, so are these vertices.
  pub more_edges : (es fs : List ℕ) → ((e : ℕ) → e ∈ es → e ∈ fs) → (v : ℕ) → v ∈ around es → v ∈ around fs
  more_edges es fs to v (Memᴰ.head q) = Memᴰ.head q
  more_edges es fs to v (Memᴰ.tail k) =
      let (e, i, q) = of_flat_map (ends_of g) es k in Memᴰ.tail (in_flat_map (ends_of g) (to e i) q)

  -- They are vertices of the graph.
  pub around_inside : Valid g → start < g.vertices → (es : List ℕ) (v : ℕ) → v ∈ around es → v < g.vertices
  around_inside valid h es v (Memᴰ.head q) = rw q h
  around_inside valid h es v (Memᴰ.tail k) = let (e, i, q) = of_flat_map (ends_of g) es k in end_inside e q
    where
      end_inside : (e : ℕ) → v ∈ ends_of g e → v < g.vertices
      end_inside e (Memᴰ.head q) = rw q (one_end_below valid e)
      end_inside e (Memᴰ.tail (Memᴰ.head q)) = rw q (other_end_below valid e)
      end_inside e (Memᴰ.tail (Memᴰ.tail m)) = absurd (Memᴰ.not-nil m)

-- A root is near a tree whatever the order of its edges.
pub reaches_risen : (g : Graph) (limit root : ℕ) (t : Tree) → reaches_part g limit root t ≡ reaches_part g limit root (risen t)
unfolding reaches_part tree_vertices risen
reaches_risen g limit root t =
    let test : ℕ → Bool = λ v. is_within limit (get_or (distances_from g root) v none) in
    any_alike test test (around g t.start t.edges) (around g t.start (rise t.edges))
    (more_edges g t.start t.edges (rise t.edges) (λ e. in_rise))
    (more_edges g t.start (rise t.edges) t.edges (λ e. of_rise t.edges))
    (λ v m. refl)

-- A test that says of each vertex whether a root is within the limit of it says so of a tree, by the tree's vertices.
pub tree_reaches : {g : Graph} → Valid g → (limit root : ℕ) (test : ℕ → Bool)
    → ((v : ℕ) → v < g.vertices → test v ≡ is_within limit (get_or (distances_from g root) v none))
    → (t : Tree) → t.start < g.vertices → any test (tree_vertices g t) ≡ reaches_part g limit root t
unfolding reaches_part tree_vertices
tree_reaches {g} valid limit root test says t inside =
    let vertices : List ℕ = around g t.start t.edges in
    any_alike test (λ v. is_within limit (get_or (distances_from g root) v none)) vertices vertices (λ v m. m) (λ v m. m)
    (λ v m. says v (around_inside g t.start valid inside t.edges v m))
