-- The pieces of the marked parts: they are held, few and light where all parts' are, and in order they are the marked parts "ordered by smallest
-- line".
-- Assumes nothing.
use Prim.Native.Nat.{ℕ, ◌≤◌, ◌<◌}
use mathlib.Core.Path.{◌≡◌, sym, ap, ◌∙◌}
use mathlib.Core.List.{List, [], map, map-map}
use native.Mathlib.Omega.{arith}
use lib.ListN.{length, get_or, length-map}
use Rattle.lists.specs.Count.{below}
use Rattle.lists.specs.Lists.{filter, sum_of}
use Rattle.lists.specs.Member.{◌∈◌}
use Rattle.lists.specs.Segments.{segment}
use Rattle.lists.proofs.Below.{of_below}
use Rattle.lists.proofs.Member.{of_filter, of_map}
use Rattle.lists.proofs.Places.{at_place, map_at_places, map_at}
use Rattle.lists.proofs.Runs.{map_same}
use Rattle.lists.proofs.Sums.{sum_split}
use Rattle.lists.proofs.SumsAlike.{length_sum, sum_of_map}
use Rattle.matching.specs.Assignment.{marked}
use Rattle.rules.specs.Held.{tree_at, trees_at, risen}
use Rattle.rules.specs.Cover.{Tree}
use Rattle.rules.specs.RootedTrial.{part_of, by_smallest, chosen_parts}
use Rattle.rules.specs.Questions.{least_room}
use Rattle.cover.specs.Chosen.{AllHeld}
use Rattle.unions.specs.Deficient.{places_marked}
use Rattle.deficient.specs.TooLowParts.{edges_of, ChosenGiven}

module _ (starts cuts members places marks : List ℕ) where
  -- The numbers of the marked parts.
  abbrev numbers : List ℕ
  numbers = filter (marked marks) (below (length places))

  inside : (i : ℕ) → i ∈ numbers → i < length places
  inside i m = of_below (length places) (of_filter (marked marks) (below (length places)) m).0

  -- Each of their places is a place.
  of_marked : (c : ℕ) → c ∈ places_marked places marks → c ∈ places
  of_marked c m =
      let (i, k, q) = of_map (λ i. get_or places i 0) numbers m in
      rw q (at_place 0 places i (inside i k))

  -- A sum over the marked ones is no more than the sum over all.
  marked_sum : (f : ℕ → ℕ) → sum_of f (places_marked places marks) ≤ sum_of f places
  marked_sum f =
      let at : ℕ → ℕ = λ i. f (get_or places i 0) in
      let all : sum_of at (below (length places)) ≡ sum_of f places =
      sym (sum_of_map (λ x. x) at (below (length places))) ∙ ap (sum_of (λ x. x)) (map_at_places f 0 places) ∙ sum_of_map (λ x. x) f places in
      omega (arith, sum_of_map f (λ i. get_or places i 0) numbers, sum_split at (marked marks) (below (length places)), all)

  pub marked_given : {room : ℕ} → AllHeld cuts members places → length places < 256 → edges_of cuts members places < 256 → least_room ≤ room
      → ChosenGiven cuts members (places_marked places marks) room
  marked_given held few light most =
      record {
        held = λ c m. held c (of_marked c m);
        few = omega (arith, length_sum (places_marked places marks), length_sum places, marked_sum (λ _. 1));
        light = omega (arith, marked_sum (λ c. length (segment cuts members c)));
        most = most;
      }

  -- The parts.
  abbrev parts : List Tree
  parts = map risen (map (tree_at starts cuts members) places)

  parts_count : length parts ≡ length places
  parts_count = length-map (map (tree_at starts cuts members) places) risen ∙ length-map places (tree_at starts cuts members)

  part_is : (i : ℕ) → i < length places → risen (tree_at starts cuts members (get_or places i 0)) ≡ part_of parts i
  unfolding part_of
  part_is i h =
      sym
      (ap (λ l. get_or l i (record { start = 0; edges = [] })) (map-map risen (tree_at starts cuts members) places)
      ∙ map_at (λ c. risen (tree_at starts cuts members c)) 0 (record { start = 0; edges = [] }) places i h)

  pub marked_in_order : by_smallest (map risen (trees_at starts cuts members (places_marked places marks))) ≡ chosen_parts (map risen (trees_at starts cuts members places)) marks
  unfolding trees_at chosen_parts
  marked_in_order =
      ap by_smallest
      (map-map risen (tree_at starts cuts members) (places_marked places marks)
      ∙ map-map (λ c. risen (tree_at starts cuts members c)) (λ i. get_or places i 0) numbers
      ∙ map_same numbers (λ i m. part_is i (inside i m))
      ∙ ap (λ n. map (part_of parts) (filter (marked marks) (below n))) (sym parts_count))
