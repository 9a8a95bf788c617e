-- The pieces of the components as trees: the lowest vertex edge by edge, and edges that rise segment by segment.
-- Assumes nothing.
use Prim.Native.Nat.{ℕ, zero, suc, ◌+◌, ◌-◌, ◌≤◌, ◌<◌, min}
use mathlib.Core.Path.{◌≡◌, refl, ap, ap₂, ◌∙◌}
use mathlib.Core.Logic.{dite}
use mathlib.Core.List.{List, [], ◌∷◌, ◌++◌, map, foldr}
use native.Mathlib.Decide.{dec_le}
use native.Mathlib.Omega.{arith}
use borrow.Author.Count.{below_more}
use lib.ListN.{length, get_or, take, drop}
use lib.Seq.{slice, drop-drop, take_all}
use Rattle.lists.specs.Lists.{flat}
use Rattle.lists.specs.Put.{OnlyFirst}
use Rattle.lists.specs.Segments.{segment}
use Rattle.lists.specs.Sort.{rise}
use Rattle.lists.proofs.FlatMap.{flat_map_next}
use Rattle.lists.proofs.OnlyFirst.{only_first_on, only_first_put}
use Rattle.lists.proofs.Put.{put_length}
use Rattle.lists.proofs.PutPlaces.{put_part_before, put_part_behind}
use Rattle.lists.proofs.PutSlice.{put_slice}
use Rattle.lists.proofs.SegmentSizes.{segment_length}
use Rattle.lists.proofs.SegmentTaken.{segment_taken}
use Rattle.lists.proofs.Sorting.{rise_length}
use Rattle.graph.specs.Graph.{Graph, one_end, other_end}
use Rattle.rules.specs.Distance.{tree_vertices}
use Rattle.pieces.specs.Pieces.{ends_of}
use Rattle.cover.specs.Chosen.{IsHeld}
use Rattle.unrooted_pieces.specs.Components.{LowestFound, PiecesHeld, SegmentRisen}

-- The lowest of more numbers.
lowest_on : (s : ℕ) (xs : List ℕ) (a b : ℕ) → foldr min s (xs ++ (a ∷ b ∷ [])) ≡ min (min (foldr min s xs) a) b
lowest_on s [] a b = omega arith
lowest_on s (x ∷ xs) a b = omega (arith, lowest_on s xs a b)

module _ (g : Graph) (start : ℕ) (edges : List ℕ) where
  -- The lowest of the start and the ends of the first i edges.
  abbrev pub lowest_up_to : ℕ → ℕ
  lowest_up_to i = foldr min start (flat (map (ends_of g) (take i edges)))

  pub lowest_none : lowest_up_to 0 ≡ start
  unfolding flat
  lowest_none = refl

  pub lowest_more : (i : ℕ) → i < length edges
      → lowest_up_to (i + 1) ≡ min (min (lowest_up_to i) (one_end g (get_or edges i 0))) (other_end g (get_or edges i 0))
  lowest_more i h =
      ap (foldr min start) (flat_map_next (ends_of g) edges i 0 h)
      ∙ lowest_on start (flat (map (ends_of g) (take i edges))) (one_end g (get_or edges i 0)) (other_end g (get_or edges i 0))

  low : (xs : List ℕ) → foldr min start xs ≤ start
  low [] = omega arith
  low (x ∷ xs) = omega (arith, low xs)

  -- All edges were looked at.
  pub lowest_all : (i v : ℕ) → length edges ≤ i → v ≡ lowest_up_to i → LowestFound g start edges v
  unfolding tree_vertices
  lowest_all i v h q =
      let ends : List ℕ = flat (map (ends_of g) edges) in
      let all : v ≡ foldr min start ends = q ∙ ap (λ l. foldr min start (flat (map (ends_of g) l))) (take_all i edges h) in
      record { is = omega (arith, low ends); low = omega (arith, low ends) }

-- The part of the edges that code lends between the bounds a and b of piece i.
module _ (cuts edges : List ℕ) (i : ℕ) {a b : ℕ} (held : IsHeld cuts edges i) (p : a ≡ get_or cuts i 0) (q : b ≡ get_or cuts (i + 1) 0) where
  -- Put back in rising order, they are the piece's.
  pub part_risen : {last : List ℕ} → last ≡ rise (take (b - a) (drop a edges))
      → SegmentRisen cuts i edges (take a edges ++ (last ++ drop (b - a) (drop a edges)))
  part_risen {last} t =
      let rising : last ≡ rise (segment cuts edges i) = t ∙ ap rise (segment_taken cuts edges i p q held.forward held.inside) in
      let size : length (rise (segment cuts edges i)) ≡ b - a =
      rise_length (segment cuts edges i) ∙ segment_length cuts edges i held.inside ∙ omega (arith, p, q) in
      let behind : a + (b - a) ≡ get_or cuts i 0 + length (rise (segment cuts edges i)) = omega (arith, p, size) in
      record {
        put =
            record {
              room = omega (arith, p, q, size, held.forward, held.inside);
              is =
                  ap₂ (λ x y. take x edges ++ (y ++ drop (b - a) (drop a edges))) p rising
                  ∙ ap (λ l. take (get_or cuts i 0) edges ++ (rise (segment cuts edges i) ++ l)) (drop-drop (b - a) a edges ∙ ap (λ n. drop n edges) behind);
            };
      }

-- The edges of the first i of k pieces rise, the others are as they came.
pub record RisenUpTo (cuts : List ℕ) (k i : ℕ) (before after : List ℕ) : Type 0 where
  pub size : length after ≡ length before
  pub done : (j : ℕ) → j < i → segment cuts after j ≡ rise (segment cuts before j)
  pub rest : (j : ℕ) → i ≤ j → j < k → segment cuts after j ≡ segment cuts before j
  pub only : OnlyFirst (get_or cuts k 0) before after

module _ {cuts : List ℕ} {k : ℕ} {before : List ℕ} (p : PiecesHeld cuts before k) where
  cuts_rise : (i d : ℕ) → i + d ≤ k → get_or cuts i 0 ≤ get_or cuts (i + d) 0
  cuts_rise i zero h = let q : i + 0 ≡ i = omega arith in rw q (omega arith)
  cuts_rise i (suc d) h = let q : i + suc d ≡ i + d + 1 = omega arith in rw q (omega (arith, cuts_rise i d (omega arith), (p.held (i + d) (omega arith)).forward))

  cuts_from : (i j : ℕ) → i ≤ j → j ≤ k → get_or cuts i 0 ≤ get_or cuts j 0
  cuts_from i j h l = let q : i + (j - i) ≡ j = omega arith in rw q at (cuts_rise i (j - i) (omega arith))

  module _ {i : ℕ} {mid after : List ℕ} (u : RisenUpTo cuts k i before mid) (h : i < k) (s : SegmentRisen cuts i mid after) where
    risen_behind : get_or cuts (i + 1) 0 ≡ get_or cuts i 0 + length (rise (segment cuts mid i))
    risen_behind =
        let held = p.held i h in
        omega (arith, held.forward, held.inside, u.size, rise_length (segment cuts mid i), segment_length cuts mid i (omega (arith, held.inside, u.size)))

    risen_apart : (j : ℕ) → j < k → (j ≡ i → ⊥) → segment cuts after j ≡ segment cuts mid j
    unfolding segment
    risen_apart j l away =
        dite (dec_le j i)
        (λ low. put_part_before s.put (get_or cuts j 0) (get_or cuts (j + 1) 0) (cuts_from (j + 1) i (omega arith) (omega arith)))
        (λ high.
        put_part_behind s.put (get_or cuts j 0) (get_or cuts (j + 1) 0)
        (omega (arith, risen_behind, cuts_from (i + 1) j (omega arith) (omega arith))) (p.held j l).forward (omega (arith, (p.held j l).inside, u.size)))

    risen_here : segment cuts after i ≡ rise (segment cuts mid i)
    unfolding segment
    risen_here = ap (λ n. slice (get_or cuts i 0) n after) risen_behind ∙ put_slice s.put

    pub risen_more : RisenUpTo cuts k (i + 1) before after
    risen_more =
        record {
          size = put_length s.put ∙ u.size;
          done =
              below_more (λ n. segment cuts after n ≡ rise (segment cuts before n)) i
              (λ j l. risen_apart j (omega arith) (omega arith) ∙ u.done j l)
              (risen_here ∙ ap rise (u.rest i (omega arith) h));
          rest = λ j l m. risen_apart j m (omega arith) ∙ u.rest j (omega arith) m;
          only = only_first_on u.only (only_first_put s.put (get_or cuts k 0) (omega (arith, risen_behind, cuts_from (i + 1) k (omega arith) (omega arith))));
        }
