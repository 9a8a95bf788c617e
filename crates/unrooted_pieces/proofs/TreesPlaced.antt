-- The numbers of an answer's trees among the pieces: component by component as code writes them, and what stands at them.
-- Assumes nothing.
use Prim.Native.Nat.{ℕ, ◌+◌, ◌-◌, ◌≤◌, ◌<◌}
use mathlib.Core.Path.{◌≡◌, refl, sym, ap, ap₂, ◌∙◌}
use mathlib.Core.Bool.{Bool, true, false, cond}
use mathlib.Core.List.{List, [], ◌∷◌, ◌++◌, map, map-append, append-nil}
use native.Mathlib.Omega.{arith}
use lib.ListN.{length, get_or, take, drop, length-append, length-map}
use lib.Seq.{take_at, drop_at}
use lib.Dec.{eqb}
use borrow.Author.Tests.{eq-eqb, ne_eqb}
use Rattle.lists.specs.Count.{from}
use Rattle.lists.specs.Lists.{flat}
use Rattle.lists.proofs.Numbered.{from_append}
use Rattle.lists.proofs.Runs.{length_from}
use Rattle.lists.proofs.Sorting.{rise_length}
use Rattle.graph.specs.Graph.{Graph}
use Rattle.rules.specs.Cover.{Tree}
use Rattle.rules.specs.Grow.{Rooted}
use Rattle.rules.specs.Split.{part_at, split}
use Rattle.rules.specs.UnrootedTrial.{leftovers}
use Rattle.split.specs.Pieces.{left_of, with_left, left_places}
use Rattle.split.proofs.PiecesOf.{pieces_for}
use Rattle.unrooted_pieces.specs.TreePlaces.{run, tree_end, tree_places, trees_of}

-- Where a component's trees end: behind its leftover, where this is the only piece,
module _ (cuts : List ℕ) (first left : ℕ) where
  pub end_alone : first ≡ left → tree_end cuts first left ≡ left + 1
  unfolding tree_end
  end_alone q = rw (eq-eqb first left q)

  -- at it, where it has no edges,
  pub end_dropped : (first ≡ left → ⊥) → get_or cuts left 0 ≡ get_or cuts (left + 1) 0 → tree_end cuts first left ≡ left
  unfolding tree_end
  end_dropped n q = rw (ne_eqb first left n, eq-eqb (get_or cuts left 0) (get_or cuts (left + 1) 0) q)

  -- and behind it otherwise.
  pub end_kept : (get_or cuts left 0 ≡ get_or cuts (left + 1) 0 → ⊥) → tree_end cuts first left ≡ left + 1
  unfolding tree_end
  end_kept n = rw (ne_eqb (get_or cuts left 0) (get_or cuts (left + 1) 0) n) (either (eqb first left))
    where
      either : (t : Bool) → cond t (left + 1) (left + 1) ≡ left + 1
      either true = refl
      either false = refl

-- It is never further than behind the leftover.
pub end_most : (cuts : List ℕ) (first left : ℕ) → tree_end cuts first left ≤ left + 1
unfolding tree_end
end_most cuts first left = go (eqb first left) (eqb (get_or cuts left 0) (get_or cuts (left + 1) 0))
  where
    go : (s t : Bool) → cond s (left + 1) (cond t left (left + 1)) ≤ left + 1
    go true t = omega arith
    go false true = omega arith
    go false false = omega arith

-- One component more.
pub places_next : (cuts : List ℕ) (first : ℕ) {rest later : List ℕ} {left : ℕ} → rest ≡ left ∷ later
    → tree_places cuts first rest ≡ run first (tree_end cuts first left) ++ tree_places cuts (left + 1) later
unfolding tree_places
places_next cuts first q = ap (tree_places cuts first) q

pub places_none : (cuts : List ℕ) (first : ℕ) {rest : List ℕ} → rest ≡ [] → tree_places cuts first rest ≡ []
unfolding tree_places
places_none cuts first q = ap (tree_places cuts first) q

-- Piece c has as many edges as its bounds are apart.
pub record Sized (f : ℕ → Tree) (cuts : List ℕ) (c : ℕ) : Type 0 where
  pub forward : get_or cuts c 0 ≤ get_or cuts (c + 1) 0
  pub size : length (f c).edges ≡ get_or cuts (c + 1) 0 - get_or cuts c 0

module _ (f : ℕ → Tree) (first : ℕ) where
  -- What stands from a number on, as one list and another behind it.
  record Begins (xs ys : List Tree) : Type 0 where
    here : map f (from first (length xs)) ≡ xs
    later : map f (from (first + length xs) (length ys)) ≡ ys

  begins : (k : ℕ) (xs ys : List Tree) → map f (from first k) ≡ xs ++ ys → Begins xs ys
  begins k xs ys q =
      let count : k ≡ length xs + length ys = sym (length-map (from first k) f ∙ length_from first k) ∙ ap length q ∙ length-append xs ys in
      let front : List Tree = map f (from first (length xs)) in
      let back : List Tree = map f (from (first + length xs) (length ys)) in
      let size : length front ≡ length xs = length-map (from first (length xs)) f ∙ length_from first (length xs) in
      let whole : front ++ back ≡ xs ++ ys =
      sym (map-append f (from first (length xs)) (from (first + length xs) (length ys)))
      ∙ ap (map f) (sym (from_append first (length xs) (length ys)))
      ∙ ap (λ n. map f (from first n)) (sym count)
      ∙ q
      in
      record {
        here = sym (take_at front back (length xs) size) ∙ ap (take (length xs)) whole ∙ take_at xs ys (length xs) refl;
        later = sym (drop_at front back (length xs) size) ∙ ap (drop (length xs)) whole ∙ drop_at xs ys (length xs) refl;
      }

  -- One component's pieces: its parts, and its leftover.
  module _ (cuts : List ℕ) (root : ℕ) (parts : List Tree) (left : List ℕ) (k : ℕ) (q : map f (from first k) ≡ parts ++ (part_at root left ∷ [])) where
    abbrev at : ℕ
    at = first + length parts

    split_up : Begins parts (part_at root left ∷ [])
    split_up = begins k parts (part_at root left ∷ []) q

    -- with its leftover
    kept : tree_end cuts first at ≡ at + 1 → map f (run first (tree_end cuts first at)) ≡ parts ++ (part_at root left ∷ [])
    kept e =
        let count : tree_end cuts first at - first ≡ k =
        omega (arith, e, length-map (from first k) f, length_from first k, ap length q, length-append parts (part_at root left ∷ [])) in
        ap (λ n. map f (from first n)) count ∙ q

    -- without it
    dropped : tree_end cuts first at ≡ at → map f (run first (tree_end cuts first at)) ≡ parts
    dropped e = let count : tree_end cuts first at - first ≡ length parts = omega (arith, e) in ap (λ n. map f (from first n)) count ∙ split_up.here

    -- the leftover's bounds say how many edges it has
    left_size : Sized f cuts at → length left ≡ get_or cuts (at + 1) 0 - get_or cuts at 0
    unfolding part_at from
    left_size s =
        let is : f at ≡ part_at root left = cc split_up.later in
        sym (ap (λ (t : Tree). length t.edges) is ∙ rise_length left) ∙ s.size

  -- So the trees of one component stand at their numbers.
  one_component : (cuts : List ℕ) (root : ℕ) (parts : List Tree) (left : List ℕ) (k : ℕ) → map f (from first k) ≡ parts ++ (part_at root left ∷ [])
      → Sized f cuts (first + length parts) → map f (run first (tree_end cuts first (first + length parts))) ≡ parts ++ leftovers root parts left
  unfolding leftovers part_at
  one_component cuts root [] left k q s = kept cuts root [] left k q (end_alone cuts first (first + 0) (omega arith))
  one_component cuts root (p ∷ ps) [] k q s =
      let size = left_size cuts root (p ∷ ps) [] k q s in
      dropped cuts root (p ∷ ps) [] k q (end_dropped cuts first (first + length (p ∷ ps)) (omega arith) (omega (arith, s.forward, size)))
      ∙ sym (append-nil (p ∷ ps))
  one_component cuts root (p ∷ ps) (e ∷ es) k q s =
      let size = left_size cuts root (p ∷ ps) (e ∷ es) k q s in
      kept cuts root (p ∷ ps) (e ∷ es) k q (end_kept cuts first (first + length (p ∷ ps)) (λ same. omega (arith, size)))

-- The trees of all components stand at their numbers.
module _ (g : Graph) (H : ℕ) (f : ℕ → Tree) (cuts : List ℕ) (total : ℕ) (sized : (c : ℕ) → c < total → Sized f cuts c) where
  pub trees_placed : (ts : List Rooted) (first k : ℕ) → first + k ≤ total → map f (from first k) ≡ pieces_for g H ts
      → map f (tree_places cuts first (left_places first (map (split g H) ts))) ≡ flat (map (trees_of g H) ts)
  unfolding tree_places left_places flat with_left left_of
  trees_placed [] first k within q = refl
  trees_placed (t ∷ ts) first k within q =
      let p = split g H t in
      let m : ℕ = length p.parts in
      let own : List Tree = p.parts ++ (part_at t.root p.left ∷ []) in
      let x = begins f first k own (pieces_for g H ts) q in
      let size : length own ≡ m + 1 = length-append p.parts (part_at t.root p.left ∷ []) in
      let count : k ≡ length own + length (pieces_for g H ts) =
      sym (length-map (from first k) f ∙ length_from first k) ∙ ap length q ∙ length-append own (pieces_for g H ts) in
      let behind : first + length own ≡ first + m + 1 = omega (arith, size) in
      map-append f (run first (tree_end cuts first (first + m))) (tree_places cuts (first + m + 1) (left_places (first + m + 1) (map (split g H) ts)))
      ∙ ap₂ ◌++◌
      (one_component f first cuts t.root p.parts p.left (length own) x.here (sized (first + m) (omega (arith, count, size))))
      (trees_placed ts (first + m + 1) (length (pieces_for g H ts)) (omega (arith, count, size)) (rw behind at x.later))

-- What is made of each tree is made component by component.
pub map_flat : {A : Type 0} (h : Tree → Tree) (f : A → List Tree) (xs : List A) → flat (map (λ x. map h (f x)) xs) ≡ map h (flat (map f xs))
unfolding flat
map_flat h f [] = refl
map_flat h f (x ∷ xs) = ap (λ l. map h (f x) ++ l) (map_flat h f xs) ∙ sym (map-append h (f x) (flat (map f xs)))
