-- Lists laid one after the other into one array, each put behind the others: what a loop that lays them knows at each turn.
-- Assumes nothing.
use Prim.Native.Nat.{ℕ, ◌+◌, ◌-◌, ◌≤◌, ◌<◌}
use mathlib.Core.Path.{◌≡◌, sym, ap, ◌∙◌}
use mathlib.Core.List.{List, ◌++◌}
use native.Mathlib.Omega.{arith}
use lib.ListN.{length, get_or, take, drop, set}
use lib.Seq.{drop-drop}
use borrow.Author.Count.{below_more}
use Rattle.lists.specs.Put.{PutTo}
use Rattle.lists.specs.Segments.{segment}
use Rattle.lists.specs.Sort.{rise}
use Rattle.lists.proofs.PutSlice.{put_slice, put_before}
use Rattle.lists.proofs.Put.{put_rest, put_length}
use Rattle.lists.proofs.SegmentSizes.{slice_taken}
use Rattle.lists.proofs.Segments.{segment_kept, segment_new, bounded_more}
use Rattle.lists.proofs.Sorting.{rise_length}
use Rattle.pieces.specs.Pieces.{Laid}

-- A list was put into an array, and then what stands there was sorted in place: the sorted list was put.
pub put_then_risen : {at end : ℕ} {xs ys a b : List ℕ} → PutTo at xs a b end → ys ≡ rise (take (end - at) (drop at b))
    → PutTo at (rise xs) a (take at b ++ (ys ++ drop (end - at) (drop at b))) end
put_then_risen {at} {end} {xs} {ys} {a} {b} p q =
    let size = rise_length xs in
    let same = put_length p.put in
    let room = p.put.room in
    let behind = p.behind in
    let there : take (end - at) (drop at b) ≡ xs =
    sym (slice_taken at end b (omega arith) (omega arith)) ∙ ap (λ n. drop at (take n b)) behind ∙ put_slice p.put in
    let place : at + (end - at) ≡ at + length xs + 0 = omega arith in
    let none : at + length xs + 0 ≡ at + length (rise xs) = omega arith in
    let rest : drop (end - at) (drop at b) ≡ drop (at + length (rise xs)) a =
    drop-drop (end - at) at b ∙ ap (λ n. drop n b) place ∙ put_rest p.put 0 ∙ ap (λ n. drop n a) none in
    record {
      put = record { room = omega arith; is = rw (put_before p.put, q, there, rest) };
      behind = omega arith;
    }

-- The sorted list stands in the place of as many elements: it was put.
pub risen_put : {at : ℕ} {ys : List ℕ} (xs a : List ℕ) → at + length xs ≤ length a → ys ≡ rise xs
    → PutTo at (rise xs) a (take at a ++ (ys ++ drop (at + length xs - at) (drop at a))) (at + length xs)
risen_put {at} xs a room q =
    let size = rise_length xs in
    let place : at + (at + length xs - at) ≡ at + length (rise xs) = omega (arith, size) in
    record {
      put = record { room = omega (arith, size); is = rw q (ap (λ l. take at a ++ (rise xs ++ l)) (drop-drop (at + length xs - at) at a ∙ ap (λ n. drop n a) place)) };
      behind = omega (arith, size);
    }

-- None yet, where the first bound is 0.
pub laid_none : (lists : ℕ → List ℕ) (cuts members : List ℕ) → get_or cuts 0 0 ≡ 0 → Laid lists 0 0 cuts members
laid_none lists cuts members q =
    record {
      bounded = record { last = q; within = λ i h. let z : i ≡ 0 = omega arith in rw z (omega (arith, q)); rising = λ i h. absurd (omega arith) };
      inside = omega arith;
      are = λ h l. absurd (omega arith);
    }

-- One list more.
pub laid_more : {lists : ℕ → List ℕ} {i at end : ℕ} {cuts xs members after : List ℕ} → Laid lists i at cuts members → i + 1 < length cuts
    → PutTo at xs members after end → xs ≡ lists i → Laid lists (i + 1) end (set cuts (i + 1) end) after
laid_more {lists} {i} {at} {end} {cuts} {xs} {members} {after} w room p q =
    record {
      bounded = bounded_more w.bounded end room (omega (arith, p.behind));
      inside = omega (arith, p.behind, p.put.room, put_length p.put);
      are =
          below_more (λ h. segment (set cuts (i + 1) end) after h ≡ lists h) i
          (λ h l. segment_kept w.bounded end members after (put_before p.put) h l ∙ w.are h l)
          (segment_new w.bounded end room after ∙ ap (λ n. drop at (take n after)) p.behind ∙ put_slice p.put ∙ q);
    }

-- A list was put at the front of an array, and then sorted in place: the sorted list was put.
pub front_then_risen : {r : ℕ} {xs ys a b : List ℕ} → PutTo 0 xs a b r → ys ≡ rise (take r b) → PutTo 0 (rise xs) a (ys ++ drop r b) r
front_then_risen {r} {ys = ys} p q = let n : r - 0 ≡ r = omega arith in rw n at (put_then_risen {ys = ys} p (rw n q))
