-- Chosen pieces that are laid out with their edges rising, and numbered in order of their first edges, are the pieces "ordered by smallest
-- line"; and they may be written.
-- Assumes nothing.
use Prim.Native.Nat.{ℕ, ◌≤◌, ◌<◌}
use mathlib.Core.Path.{◌≡◌, sym, ap, ap₂, ◌∙◌}
use mathlib.Core.List.{List, map, map-map}
use native.Mathlib.Omega.{arith}
use lib.ListN.{length, get_or, get_or-append, length-map}
use Rattle.lists.specs.Count.{below}
use Rattle.lists.specs.Member.{◌∈◌}
use Rattle.lists.specs.Put.{PutTo}
use Rattle.lists.specs.Segments.{segment}
use Rattle.lists.specs.Sort.{rise, sort_by}
use Rattle.lists.proofs.Below.{of_below, below_rising}
use Rattle.lists.proofs.InOrder.{rising_once}
use Rattle.lists.proofs.Numbered.{map_below_same}
use Rattle.lists.proofs.Places.{map_at, map_at_places}
use Rattle.lists.proofs.Put.{put_front}
use Rattle.lists.proofs.Runs.{length_below}
use Rattle.lists.proofs.Sorting.{of_sort, sort_once, sort_length}
use Rattle.rules.specs.Held.{tree_at, trees_at, risen}
use Rattle.rules.specs.Split.{smallest_edge}
use Rattle.cover_laws.proofs.Writing.{length_encode}
use Rattle.cover.specs.Chosen.{starts_at, Writable}
use Rattle.cover.proofs.ChosenBytes.{chosen_trees}
use Rattle.cover.proofs.ChosenFit.{bounded_held, bounded_entries}
use Rattle.pieces.specs.Chosen.{by_key}
use Rattle.pieces.specs.Pieces.{Laid}
use Rattle.rules.specs.RootedTrial.{by_smallest}
use Rattle.rules.specs.Questions.{least_room}
use Rattle.deficient.specs.TooLowParts.{Keyed}
use Rattle.pieces.proofs.SortedImages.{sorted_by_keys}

module _ (starts cuts members chosen : List ℕ) {before laid bounds edges keys : List ℕ} {used : ℕ}
    (p : PutTo 0 (starts_at starts chosen) before laid (length chosen))
    (w : Laid (λ i. rise (segment cuts members (get_or chosen i 0))) (length chosen) used bounds edges)
    (q : Keyed bounds edges (length chosen) keys) where
  -- The pieces' numbers in order.
  abbrev order : List ℕ
  order = sort_by (by_key keys) (below (length chosen))

  start_is : (i : ℕ) → i < length chosen → get_or laid i 0 ≡ get_or starts (get_or chosen i 0) 0
  start_is i h =
      ap (λ l. get_or l i 0) (put_front p)
      ∙ get_or-append (starts_at starts chosen) _ 0 i (omega (arith, length-map chosen (λ c. get_or starts c 0)))
      ∙ map_at (λ c. get_or starts c 0) 0 0 chosen i h

  tree_is : (i : ℕ) → i < length chosen → tree_at laid bounds edges i ≡ risen (tree_at starts cuts members (get_or chosen i 0))
  unfolding tree_at risen
  tree_is i h = ap₂ (λ s es. record { start = s; edges = es }) (start_is i h) (w.are i h)

  first_is : (c : ℕ) → c < length chosen → get_or keys c 0 ≡ smallest_edge (tree_at laid bounds edges c)
  unfolding smallest_edge tree_at
  first_is c h = q.are c h

  pub laid_in_order : trees_at laid bounds edges order ≡ by_smallest (map risen (trees_at starts cuts members chosen))
  unfolding trees_at
  laid_in_order =
      sorted_by_keys (tree_at laid bounds edges) smallest_edge keys (below (length chosen)) (λ c m. first_is c (of_below (length chosen) m))
      ∙ ap by_smallest
      (map_below_same (λ i. risen (tree_at starts cuts members (get_or chosen i 0))) (tree_at laid bounds edges) (length chosen) tree_is
      ∙ map_at_places (λ c. risen (tree_at starts cuts members c)) 0 chosen
      ∙ sym (map-map risen (tree_at starts cuts members) chosen))

  below_count : (c : ℕ) → c ∈ order → c < length chosen
  below_count c m = of_below (length chosen) (of_sort (by_key keys) (below (length chosen)) m)

  pub laid_writable : {room : ℕ} → length chosen < 256 → length edges ≤ 256 → least_room ≤ room → Writable laid bounds edges order room
  laid_writable few light most =
      let trees = trees_at laid bounds edges order in
      let entries = bounded_entries laid bounds edges order w.bounded w.inside below_count (sort_once (by_key keys) (rising_once (below_rising (length chosen)))) in
      let count = chosen_trees laid bounds edges order in
      let size : length order ≡ length chosen = sort_length (by_key keys) (below (length chosen)) ∙ length_below (length chosen) in
      record {
        held = bounded_held laid bounds edges order w.bounded w.inside below_count;
        fits = omega (arith, length_encode trees, entries, count, size, w.inside);
      }
