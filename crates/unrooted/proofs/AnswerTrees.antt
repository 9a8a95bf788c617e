-- The pieces that are trees, each with its edges rising, from its lowest vertex and in order of the keys, are the trees of the answer.
-- Assumes nothing.
use Prim.Native.Nat.{ℕ, ◌+◌, ◌-◌, ◌*◌, ◌≤◌, ◌<◌}
use mathlib.Core.Path.{◌≡◌, refl, sym, ap, ◌∙◌}
use mathlib.Core.Bool.{◌&&◌, ◌||◌}
use mathlib.Core.Logic.{◌⊎◌, inl, inr, dite}
use mathlib.Core.List.Memᴰ
use mathlib.Core.List.{List, [], ◌∷◌, map, map-map, head_d}
use native.Mathlib.Decide.{dec_le}
use native.Mathlib.Omega.{arith}
use lib.Dec.{leb, ltb, eqb}
use lib.ListN.{length, get_or, take, length-map}
use lib.Seq.{length-take-le}
use borrow.Author.Tests.{lt-ltb, le-ltb, le-leb, lt-leb, eq-eqb, ne_eqb}
use Rattle.lists.specs.Count.{from, below}
use Rattle.lists.specs.Lists.{flat}
use Rattle.lists.specs.Member.{◌∈◌}
use Rattle.lists.specs.Segments.{segment}
use Rattle.lists.specs.Sort.{sort_by}
use Rattle.lists.proofs.Below.{of_from}
use Rattle.lists.proofs.Runs.{length_from, map_same}
use Rattle.lists.proofs.SegmentSizes.{segment_length}
use Rattle.lists.proofs.Sorting.{in_sort, of_sort, sort_length, rise_length}
use Rattle.lists.proofs.Places.{at_place}
use Rattle.graph.specs.Graph.{Graph, edge_count}
use Rattle.graph.specs.Valid.{Valid}
use Rattle.rules.specs.Cover.{Tree, IsTree}
use Rattle.rules.specs.Grow.{Rooted}
use Rattle.rules.specs.Held.{tree_at, trees_at, risen}
use Rattle.rules.specs.Split as rules
use Rattle.rules.specs.UnrootedTrial.{components, needed, from_lowest, component_trees, starts_before, unrooted_trees}
use Rattle.rules.specs.Questions.{least_room}
use Rattle.split_laws.proofs.Whole.{valid_ends}
use Rattle.planner_laws.proofs.UnrootedNumber.{unrooted_few}
use Rattle.planner_laws.proofs.UnrootedTrees.{unrooted_is_tree}
use Rattle.cover.specs.Chosen.{AllHeld, Writable}
use Rattle.cover.proofs.ChosenFit.{trees_writable}
use Rattle.split.specs.Pieces.{pieces_of}
use Rattle.split.proofs.PiecesOf.{pieces_for, pieces_length}
use Rattle.split.proofs.NumbersBelow.{left_below}
use Rattle.pieces.specs.Chosen.{by_key}
use Rattle.unrooted_pieces.specs.Components.{key_of}
use Rattle.unrooted_pieces.specs.TreePlaces.{tree_end, tree_places, trees_of, PlacesAsked}
use Rattle.unrooted.specs.Unrooted.{ComponentsSplit, TreesOrdered}
use Rattle.unrooted.specs.declared.unrooted.Split.{Split}
use Rattle.pieces.proofs.SortedImages.{sort_same, sorted_by_keys}
use Rattle.unrooted_pieces.proofs.TreesPlaced.{Sized, end_most, trees_placed, map_flat}

-- Keys compare as start, then smallest edge, where two bytes hold the edges.
key_order : (s t x y : ℕ) → x < 65536 → y < 65536 → leb (s * 65536 + x) (t * 65536 + y) ≡ (ltb s t || (eqb s t && leb x y))
key_order s t x y h k =
    dite (dec_le (s + 1) t)
    (λ lower. rw (lt-ltb s t (omega arith)) (le-leb (s * 65536 + x) (t * 65536 + y) (omega arith)))
    (λ no_lower.
    dite (dec_le s t)
    (λ same.
    rw (le-ltb s t (omega arith), eq-eqb s t (omega arith))
    (dite (dec_le x y)
    (λ before. le-leb (s * 65536 + x) (t * 65536 + y) (omega arith) ∙ sym (le-leb x y before))
    (λ behind. lt-leb (s * 65536 + x) (t * 65536 + y) (omega arith) ∙ sym (lt-leb x y (omega arith)))))
    (λ higher. rw (le-ltb s t (omega arith), ne_eqb s t (omega arith)) (lt-leb (s * 65536 + x) (t * 65536 + y) (omega arith))))

-- Two bytes hold the smallest edge of a tree.
smallest_small : {g : Graph} → Valid g → (t : Tree) → IsTree g t → rules.smallest_edge t < 65536
unfolding rules.smallest_edge head_d
smallest_small {g} valid t is = go t.edges (λ e m. is.edges_inside e m)
  where
    go : (l : List ℕ) → ((e : ℕ) → e ∈ l → e < edge_count g) → head_d l 0 < 65536
    go [] h = omega arith
    go (e ∷ es) h = omega (arith, h e (Memᴰ.head refl), valid.edges_most)

-- The numbers of the trees are below a bound where those of the leftovers are.
places_inside : (cuts lefts : List ℕ) (first total : ℕ) → ((l : ℕ) → l ∈ lefts → l < total) → {x : ℕ} → x ∈ tree_places cuts first lefts → x < total
unfolding tree_places
places_inside cuts [] first total h m = absurd (Memᴰ.not-nil m)
places_inside cuts (l ∷ ls) first total h {x} m =
    go (λ i. places_inside cuts ls (l + 1) total (λ k n. h k (Memᴰ.tail n)) i) (Memᴰ.append_cases (from first (tree_end cuts first l - first)) m)
  where
    go : (x ∈ tree_places cuts (l + 1) ls → x < total) → (x ∈ from first (tree_end cuts first l - first)) ⊎ (x ∈ tree_places cuts (l + 1) ls) → x < total
    go later (inl i) = let (low, high) = of_from first (tree_end cuts first l - first) i in omega (arith, end_most cuts first l, h l (Memᴰ.head refl))
    go later (inr i) = later i

module _ {g : Graph} {limit : ℕ} {starts₀ starts cuts₀ cuts edges₀ edges lefts₀ lefts : List ℕ} {s : Split} (valid : Valid g)
    (c : ComponentsSplit g limit starts₀ starts cuts₀ cuts edges₀ edges lefts₀ lefts s) where
  abbrev ts : List Rooted
  ts = components g limit

  abbrev r : ℕ
  r = s.pieces

  abbrev own : List ℕ
  own = take s.roots lefts

  abbrev places : List ℕ
  places = tree_places cuts 0 own

  -- A piece, its edges rising.
  abbrev piece : ℕ → Tree
  piece i = risen (tree_at starts cuts edges i)

  all : map piece (from 0 r) ≡ pieces_for g (2 * limit) ts
  unfolding pieces_of below trees_at components
  all = sym (map-map risen (tree_at starts cuts edges) (from 0 r)) ∙ c.pieces_are

  count : r ≡ length (pieces_for g (2 * limit) ts)
  count = sym (length-map (from 0 r) piece ∙ length_from 0 r) ∙ ap length all

  sized : (i : ℕ) → i < r → Sized piece cuts i
  unfolding risen tree_at
  sized i h =
      let held = c.given.pieces.held i h in
      record { forward = held.forward; size = rise_length (segment cuts edges i) ∙ segment_length cuts edges i held.inside }

  placed : map piece places ≡ flat (map (trees_of g (2 * limit)) ts)
  placed =
      ap (λ l. map piece (tree_places cuts 0 l)) c.lefts_are
      ∙ trees_placed g (2 * limit) piece cuts r sized ts 0 r (omega arith) all

  left_inside : (l : ℕ) → l ∈ own → l < r
  left_inside l m =
      let pieces = map (rules.split g (2 * limit)) ts in
      omega (arith, count, pieces_length g (2 * limit) ts, length-map ts (rules.split g (2 * limit)), left_below pieces 0 (rw c.lefts_are at m))

  inside : {x : ℕ} → x ∈ places → x < r
  inside m = places_inside cuts own 0 r left_inside m

  -- The trees before they are put in order.
  abbrev unordered : List Tree
  unordered = flat (map (component_trees g limit) ts)

  unordered_are : unordered ≡ map (from_lowest g) (map piece places)
  unfolding component_trees
  unordered_are = map_flat (from_lowest g) (trees_of g (2 * limit)) ts ∙ ap (map (from_lowest g)) (sym placed)

  pub places_count : length places ≡ length (unrooted_trees g limit)
  unfolding unrooted_trees
  places_count =
      sym (sort_length starts_before unordered ∙ ap length unordered_are ∙ length-map (map piece places) (from_lowest g) ∙ length-map places piece)

  -- Room for 32 numbers is enough.
  pub places_asked : {chosen : List ℕ} → needed g limit ≤ 32 → 32 ≤ length chosen → PlacesAsked own cuts chosen
  places_asked few room =
      record {
        cut = λ j h. omega (arith, left_inside (get_or own j 0) (at_place 0 own j h), c.given.pieces.cut);
        room = omega (arith, places_count, unrooted_few g limit);
      }

  module _ {starts' edges' chosen₀ chosen : List ℕ} {t : ℕ} (o : TreesOrdered g r own starts starts' cuts edges edges' chosen₀ chosen t) where
    abbrev tree : ℕ → Tree
    tree = tree_at starts' cuts edges'

    tree_is : (i : ℕ) → i < r → tree i ≡ from_lowest g (piece i)
    unfolding from_lowest risen tree_at
    tree_is i h = rw (o.from_lowest.each i h, o.rising.each i h)

    trees_are : map tree places ≡ unordered
    trees_are =
        map_same places (λ x m. tree_is x (inside m)) ∙ sym (map-map (from_lowest g) piece places) ∙ sym unordered_are

    small : {u : Tree} → u ∈ unordered → rules.smallest_edge u < 65536
    unfolding unrooted_trees
    small {u} m = smallest_small valid u (unrooted_is_tree g limit (in_sort starts_before m) (valid_ends valid))

    same_order : sort_by (λ x y. leb (key_of x) (key_of y)) unordered ≡ unrooted_trees g limit
    unfolding unrooted_trees starts_before
    same_order =
        sort_same (λ x y. leb (key_of x) (key_of y)) starts_before unordered
        (λ x y m n. key_order x.start y.start (rules.smallest_edge x) (rules.smallest_edge y) (small m) (small n))

    -- The chosen trees are the answer's,
    pub answer : trees_at starts' cuts edges' (take t chosen) ≡ unrooted_trees g limit
    unfolding trees_at
    answer =
        ap (map tree) o.are
        ∙ sorted_by_keys tree key_of o.keys places (λ x m. o.keyed.each x (inside m))
        ∙ ap (sort_by (λ x y. leb (key_of x) (key_of y))) trees_are
        ∙ same_order

    -- and each is held.
    pub answer_held : AllHeld cuts edges' (take t chosen)
    answer_held x m =
        let held = c.given.pieces.held x (inside (of_sort (by_key o.keys) places (rw o.are at m))) in
        record { forward = held.forward; inside = omega (arith, held.inside, o.rising.size) }

    pub answer_count : t ≡ length (unrooted_trees g limit)
    answer_count = o.count ∙ places_count

    -- They may be written where there is room for 32 trees.
    pub answer_writable : {room : ℕ} → least_room ≤ room → needed g limit ≤ 32 → Writable starts' cuts edges' (take t chosen) room
    answer_writable most few =
        trees_writable starts' cuts edges' (take t chosen) g valid most answer_held
        (omega (arith, length-take-le t chosen o.room, answer_count, unrooted_few g limit))
        (λ u m. unrooted_is_tree g limit (rw answer at m) (valid_ends valid))
