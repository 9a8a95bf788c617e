-- The nearest of vertices that are looked at one after the other: none looked at before is nearer, so in the end none of all.
-- Assumes nothing.
use Prim.Native.Nat.{ℕ, ◌+◌, ◌≤◌, ◌<◌}
use mathlib.Core.Path.{◌≡◌, refl}
use mathlib.Core.Bool.{Bool, true, false, cond}
use mathlib.Core.List.Memᴰ
use mathlib.Core.List.{List, ◌∷◌, map}
use native.Mathlib.Omega.{arith}
use lib.ListN.{length, get_or}
use lib.Dec.{ltb}
use borrow.Author.Count.{below_more}
use borrow.Author.Tests.{ltb-true, ltb-false}
use Rattle.lists.specs.Member.{◌∈◌}
use Rattle.lists.specs.Lists.{flat}
use Rattle.lists.proofs.FlatMap.{in_flat_map, of_flat_map}
use Rattle.lists.proofs.Places.{at_place, place_of}
use Rattle.graph.specs.Graph.{Graph, one_end, other_end}
use Rattle.graph.specs.Valid.{Valid}
use Rattle.graph.proofs.Ranges.{one_end_below, other_end_below}
use Rattle.rules.specs.Distance.{tree_vertices}
use Rattle.pieces.specs.Pieces.{tree_of, ends_of}
use Rattle.distance_table.specs.Nearest.{Nearest}

-- The nearer of two.
module _ (far : ℕ → ℕ) (u v : ℕ) where
  abbrev pub nearer_of : ℕ
  nearer_of = cond (ltb (far v) (far u)) v u

  pub nearer_one : far nearer_of ≤ far u
  nearer_one = go (ltb (far v) (far u)) refl
    where
      go : (t : Bool) → ltb (far v) (far u) ≡ t → far (cond t v u) ≤ far u
      go true q = omega (arith, ltb-true (far v) (far u) q)
      go false q = omega arith

  pub nearer_other : far nearer_of ≤ far v
  nearer_other = go (ltb (far v) (far u)) refl
    where
      go : (t : Bool) → ltb (far v) (far u) ≡ t → far (cond t v u) ≤ far v
      go true q = omega arith
      go false q = omega (arith, ltb-false (far v) (far u) q)

  pub nearer_either : (P : ℕ → Type 0) → P u → P v → P nearer_of
  nearer_either P pu pv = go (ltb (far v) (far u))
    where
      go : (t : Bool) → P (cond t v u)
      go true = pv
      go false = pu

-- r is a vertex of the part, and neither the start nor an end of an edge before i is nearer to the root.
pub record Nearing (g : Graph) (dist : List ℕ) (start : ℕ) (edges : List ℕ) (i r : ℕ) : Type 0 where
  pub covered : r ∈ tree_vertices g (tree_of start edges)
  pub inside : r < g.vertices
  pub start_no_nearer : get_or dist r 0 ≤ get_or dist start 0
  pub one_no_nearer : (h : ℕ) → h < i → get_or dist r 0 ≤ get_or dist (one_end g (get_or edges h 0)) 0
  pub other_no_nearer : (h : ℕ) → h < i → get_or dist r 0 ≤ get_or dist (other_end g (get_or edges h 0)) 0

module _ (g : Graph) (dist : List ℕ) (start : ℕ) (edges : List ℕ) where
  abbrev far : ℕ → ℕ
  far v = get_or dist v 0

  pub nearing_start : start < g.vertices → Nearing g dist start edges 0 start
  unfolding tree_vertices
  nearing_start h =
      record {
        covered = Memᴰ.head refl;
        inside = h;
        start_no_nearer = omega arith;
        one_no_nearer = λ i l. absurd (omega arith);
        other_no_nearer = λ i l. absurd (omega arith);
      }

  module _ {i r : ℕ} (w : Nearing g dist start edges i r) where
    -- One edge more.
    module _ (v : Valid g) (h : i < length edges) where
      abbrev e : ℕ
      e = get_or edges i 0

      abbrev mid : ℕ
      mid = nearer_of far r (one_end g e)

      abbrev last : ℕ
      last = nearer_of far mid (other_end g e)

      pub mid_inside : mid < g.vertices
      mid_inside = nearer_either far r (one_end g e) (λ x. x < g.vertices) w.inside (one_end_below v e)

      pub nearing_more : Nearing g dist start edges (i + 1) last
      unfolding tree_vertices
      nearing_more =
          let one : one_end g e ∈ tree_vertices g (tree_of start edges) =
          Memᴰ.tail (in_flat_map (ends_of g) (at_place 0 edges i h) (Memᴰ.head refl)) in
          let other : other_end g e ∈ tree_vertices g (tree_of start edges) =
          Memᴰ.tail (in_flat_map (ends_of g) (at_place 0 edges i h) (Memᴰ.tail (Memᴰ.head refl))) in
          let first = nearer_one far r (one_end g e) in
          let second = nearer_one far mid (other_end g e) in
          record {
            covered =
                nearer_either far mid (other_end g e) (λ x. x ∈ tree_vertices g (tree_of start edges))
                (nearer_either far r (one_end g e) (λ x. x ∈ tree_vertices g (tree_of start edges)) w.covered one) other;
            inside = nearer_either far mid (other_end g e) (λ x. x < g.vertices) mid_inside (other_end_below v e);
            start_no_nearer = omega (arith, first, second, w.start_no_nearer);
            one_no_nearer =
                below_more (λ x. far last ≤ far (one_end g (get_or edges x 0))) i (λ x l. omega (arith, first, second, w.one_no_nearer x l)) (omega (arith, nearer_other far r (one_end g e), second));
            other_no_nearer =
                below_more (λ x. far last ≤ far (other_end g (get_or edges x 0))) i (λ x l. omega (arith, first, second, w.other_no_nearer x l)) (nearer_other far mid (other_end g e));
          }

    -- All edges: no vertex that the tree covers is nearer.
    at_end : (x v : ℕ) → x < i → v ∈ ends_of g (get_or edges x 0) → far r ≤ far v
    at_end x v l (Memᴰ.tail (Memᴰ.tail x9)) = elim x9 [ ]
    at_end x v l (Memᴰ.head q) = rw q (w.one_no_nearer x l)
    at_end x v l (Memᴰ.tail (Memᴰ.head q)) = rw q (w.other_no_nearer x l)

    none_nearer : length edges ≤ i → (v : ℕ) → v ∈ (start ∷ flat (map (ends_of g) edges)) → far r ≤ far v
    none_nearer h v (Memᴰ.head q) = rw q w.start_no_nearer
    none_nearer h v (Memᴰ.tail m) =
        let (e, e_in, v_in) = of_flat_map (ends_of g) edges m in
        let (x, l, is) = place_of 0 e_in in
        at_end x v (omega arith) (rw is v_in)

    pub nearing_all : length edges ≤ i → Nearest g dist (tree_of start edges) r
    unfolding tree_vertices
    nearing_all h = record { covered = w.covered; nearest = none_nearer h; inside = w.inside }
