-- The pieces of a forest's trees as one list: one tree more; every edge of a piece is one of the forest's; and, for whoever holds the pieces
-- by number, the parts and the leftovers among them.
-- Assumes nothing.
use Prim.Native.Nat.{ℕ, suc, ◌+◌}
use mathlib.Core.Path.{◌≡◌, refl, sym, ap, ap₂, ◌∙◌}
use mathlib.Core.List.Memᴰ
use mathlib.Core.List.{List, [], ◌∷◌, ◌++◌, map, map-append}
use mathlib.Core.Logic.{◌⊎◌, inl, inr}
use native.Mathlib.Numerals.{add-one}
use native.Mathlib.Omega.{arith}
use lib.ListN.{length, take, drop, length-append, length-map}
use lib.Seq.{append_snoc, take_at, drop_at}
use Rattle.lists.specs.Count.{from}
use Rattle.lists.specs.Lists.{flat}
use Rattle.lists.specs.Member.{◌∈◌}
use Rattle.lists.proofs.FlatMap.{of_flat_map, flat_map_more}
use Rattle.lists.proofs.Numbered.{from_append}
use Rattle.lists.proofs.Runs.{length_from}
use Rattle.lists.proofs.Sorting.{of_rise}
use Rattle.graph.specs.Graph.{Graph}
use Rattle.rules.specs.Cover.{Tree}
use Rattle.rules.specs.Grow.{Rooted, grow}
use Rattle.rules.specs.Split.{Pieces, part_at, split, all_parts}
use Rattle.split_laws.proofs.Trees.{tree_hangs, tree_edge_known}
use Rattle.split_laws.proofs.SplitTree.{tree_split}
use Rattle.split.specs.Pieces.{left_of, with_left, pieces_of, left_places, part_places}

module _ (g : Graph) (H : ℕ) where
  -- The pieces of each tree.
  abbrev pub pieces_for : List Rooted → List Tree
  pieces_for trees = flat (map (λ (t : Rooted). with_left t (split g H t)) trees)

  -- One tree more.
  pub pieces_more : (ts : List Rooted) (t : Rooted) → pieces_for (ts ++ (t ∷ [])) ≡ pieces_for ts ++ with_left t (split g H t)
  pieces_more ts t = flat_map_more (λ (t : Rooted). with_left t (split g H t)) ts t

  -- there is one piece more than parts
  with_left_length : (t : Rooted) → length (with_left t (split g H t)) ≡ length (split g H t).parts + 1
  unfolding with_left
  with_left_length t = length-append (split g H t).parts (left_of t (split g H t) ∷ [])

  -- There are as many pieces as parts and trees.
  pub pieces_length : (ts : List Rooted) → length (pieces_for ts) ≡ length (all_parts (map (split g H) ts)) + length ts
  unfolding all_parts flat
  pieces_length [] = refl
  pieces_length (t ∷ ts) =
      omega (
        arith,
        length-append (with_left t (split g H t)) (pieces_for ts),
        with_left_length t,
        length-append (split g H t).parts (all_parts (map (split g H) ts)),
        pieces_length ts,
      )

  -- The leftover of one tree more has the number of the pieces before it.
  pub lefts_more : (ts : List Rooted) (t : Rooted) (first : ℕ)
      → left_places first (map (split g H) (ts ++ (t ∷ [])))
      ≡ left_places first (map (split g H) ts) ++ ((first + (length (pieces_for ts) + length (split g H t).parts)) ∷ [])
  unfolding left_places flat
  lefts_more [] t first = ap (λ (k : ℕ). k ∷ []) (omega arith)
  lefts_more (u ∷ ts) t first =
      let m : ℕ = length (split g H u).parts in
      let q : first + m + 1 + (length (pieces_for ts) + length (split g H t).parts) ≡ first + (length (with_left u (split g H u) ++ pieces_for ts) + length (split g H t).parts) =
      omega (arith, length-append (with_left u (split g H u)) (pieces_for ts), with_left_length u)
      in
      ap (λ (l : List ℕ). (first + m) ∷ l) (lefts_more ts t (first + m + 1) ∙ ap (λ (k : ℕ). left_places (first + m + 1) (map (split g H) ts) ++ (k ∷ [])) q)

  -- What the pieces that stand by number from the first one on are, of one tree and of those after it.
  record FirstTree (f : ℕ → Tree) (first : ℕ) (t : Rooted) (ts : List Rooted) : Type 0 where
    parts : map f (from first (length (split g H t).parts)) ≡ (split g H t).parts
    left : f (first + length (split g H t).parts) ≡ left_of t (split g H t)
    rest : map f (from (first + length (split g H t).parts + 1) (length (pieces_for ts))) ≡ pieces_for ts

  module _ (f : ℕ → Tree) where
    first_tree : (t : Rooted) (ts : List Rooted) (first k : ℕ) → map f (from first k) ≡ pieces_for (t ∷ ts) → FirstTree f first t ts
    unfolding flat with_left from
    first_tree t ts first k q =
        let p : Pieces = split g H t in
        let m : ℕ = length p.parts in
        let l : ℕ = length (pieces_for ts) in
        let whole : map f (from first k) ≡ p.parts ++ (left_of t p ∷ pieces_for ts) = q ∙ append_snoc p.parts (left_of t p) (pieces_for ts) in
        let count : k ≡ m + suc l =
        sym (length-map (from first k) f ∙ length_from first k) ∙ ap length whole ∙ length-append p.parts (left_of t p ∷ pieces_for ts)
        in
        let run : map f (from first k) ≡ map f (from first m) ++ (f (first + m) ∷ map f (from (suc (first + m)) l)) =
        ap (λ (n : ℕ). map f (from first n)) count ∙ ap (map f) (from_append first m (suc l)) ∙ map-append f (from first m) (from (first + m) (suc l))
        in
        let size : length (map f (from first m)) ≡ m = length-map (from first m) f ∙ length_from first m in
        let behind : List Tree = f (first + m) ∷ map f (from (suc (first + m)) l) in
        let others : f (first + m) ∷ map f (from (suc (first + m)) l) ≡ left_of t p ∷ pieces_for ts =
        sym (drop_at (map f (from first m)) behind m size) ∙ ap (drop m) (sym run ∙ whole) ∙ drop_at p.parts (left_of t p ∷ pieces_for ts) m refl
        in
        let rest : map f (from (suc (first + m)) l) ≡ pieces_for ts = cc in
        record {
          parts = sym (take_at (map f (from first m)) behind m size) ∙ ap (take m) (sym run ∙ whole) ∙ take_at p.parts (left_of t p ∷ pieces_for ts) m refl;
          left = cc;
          rest = rw add-one rest;
        }

    -- All parts stand at their numbers,
    pub parts_placed : (ts : List Rooted) (first k : ℕ) → map f (from first k) ≡ pieces_for ts
        → map f (part_places first (map (split g H) ts)) ≡ all_parts (map (split g H) ts)
    unfolding part_places all_parts flat
    parts_placed [] first k q = refl
    parts_placed (t ∷ ts) first k q =
        let x = first_tree t ts first k q in
        let m : ℕ = length (split g H t).parts in
        map-append f (from first m) (part_places (first + m + 1) (map (split g H) ts))
        ∙ ap₂ ◌++◌ x.parts (parts_placed ts (first + m + 1) (length (pieces_for ts)) x.rest)

    -- and so do all leftovers.
    pub lefts_placed : (ts : List Rooted) (first k : ℕ) → map f (from first k) ≡ pieces_for ts
        → map f (left_places first (map (split g H) ts)) ≡ map (λ (t : Rooted). left_of t (split g H t)) ts
    unfolding left_places
    lefts_placed [] first k q = refl
    lefts_placed (t ∷ ts) first k q =
        let x = first_tree t ts first k q in
        ap₂ ◌∷◌ x.left (lefts_placed ts (first + length (split g H t).parts + 1) (length (pieces_for ts)) x.rest)

-- Every edge of a piece is one of the forest's.
pub piece_edge_known : (g : Graph) (H : ℕ) (edges roots : List ℕ) {p : Tree} {e : ℕ} → p ∈ pieces_of g H edges roots → e ∈ p.edges → e ∈ edges
unfolding pieces_of with_left left_of part_at
piece_edge_known g H edges roots {p} {e} m n =
    let (t, i, k) = of_flat_map (λ (t : Rooted). with_left t (split g H t)) (grow g edges roots) m in
    go t i (Memᴰ.append_cases (split g H t).parts k)
  where
    go : (t : Rooted) → t ∈ grow g edges roots → (p ∈ (split g H t).parts) ⊎ (p ∈ (left_of t (split g H t) ∷ [])) → e ∈ edges
    go t i (inl k) = tree_edge_known g edges roots i ((tree_split g H t (tree_hangs g edges roots i)).part_edges k n)
    go t i (inr k) =
        let q : p ≡ left_of t (split g H t) = Memᴰ.eq_of_singleton k in
        let r : e ∈ (left_of t (split g H t)).edges = rw q at n in
        tree_edge_known g edges roots i ((tree_split g H t (tree_hangs g edges roots i)).left_edges (unfold left_of part_at in of_rise (split g H t).left r))
