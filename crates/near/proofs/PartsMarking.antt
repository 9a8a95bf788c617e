-- Marking the parts in one pass over the steps: what is known each time before the next step is looked at. For each root the words stand for one
-- state of the pass that asks of that root alone.
-- Assumes nothing.
use Prim.Native.Nat.{ℕ, ◌+◌, ◌≤◌, ◌<◌}
use mathlib.Core.Path.{◌≡◌, sym, ap, ◌∙◌}
use mathlib.Core.Bool.{Bool, false, ◌||◌}
use mathlib.Core.List.{List, [], ◌∷◌, ◌++◌, map, map-append}
use native.Mathlib.Omega.{arith}
use lib.Bits.{bit_or}
use lib.ListN.{length, take, drop, get_or, set, replicate, length-map, length-append}
use lib.Seq.{length-take-le}
use Rattle.lists.specs.Put.{OnlyFirst}
use Rattle.lists.proofs.OnlyFirst.{only_first_none, only_first_store, only_first_of_more}
use Rattle.lists.proofs.Put.{only_first_length}
use Rattle.lists.proofs.TakeDrop.{take_stored}
use Rattle.steps.specs.Steps.{step_child, step_above, step_weight}
use Rattle.steps.specs.Touched.{Sweep, touches_piece, sweep_step}
use Rattle.near.specs.Bits.{bit_at}
use Rattle.near.specs.Parts.{NearPartsAsked, NearParts}
use Rattle.near.proofs.BitsLaws.{bit_none, bit_or_lem, bit_at_lem, bits_stored, bits_none}
use Rattle.steps.proofs.SweepWays.{sweep_alone, sweep_full, sweep_joins, sweep_grows}
use Rattle.steps.proofs.SweepUnderway.{Light, light_first, light_stored, Gives, gives_first, gives_more, gives_all}

-- Root j is near the vertex.
abbrev pub near_to : ℕ → List ℕ → ℕ → Bool
near_to j near v = bit_at j (get_or near v 0)

-- What the words say of root j, with the parts split off so far.
abbrev pub bits_of : ℕ → List ℕ → List ℕ → List Bool → Sweep
bits_of j left beside parts = record { left = left; touched = map (bit_at j) beside; parts = parts }

-- What is marked of the first i steps, and that what is left at each vertex is below the threshold; the pass over the others gives the answer.
pub record Marking (H : ℕ) (steps near before parts left beside : List ℕ) (r i : ℕ) : Type 0 where
  pub light : Light H left
  pub count : r ≤ length before
  pub only : OnlyFirst r before parts
  pub rest : (j : ℕ) → Gives H (near_to j near) steps i (bits_of j left beside (map (bit_at j) (take r parts)))

-- A step looked at: its two vertices, the weight of the child's piece, and the roots near that.
pub record AtStep (near left beside : List ℕ) (step child above piece own : ℕ) : Type 0 where
  pub child_is : child ≡ step_child step
  pub above_is : above ≡ step_above step
  pub piece_is : piece ≡ step_weight step + get_or left child 0
  pub own_is : own ≡ bit_or (get_or beside child 0) (bit_or (get_or near child 0) (get_or near above 0))

pub marking_first : {H : ℕ} (steps near before : List ℕ) → 0 < H → Marking H steps near before before (replicate 256 0) (replicate 256 0) 0 0
marking_first {H} steps near before h =
    record {
      light = light_first h;
      count = omega arith;
      only = only_first_none 0 before;
      rest = λ j. rw (bits_none j 256) (gives_first H (near_to j near) steps);
    }

module _ {H : ℕ} {steps near before parts left beside : List ℕ} {r i : ℕ}
    (c : Marking H steps near before parts left beside r i) where
  -- When all steps are passed, the parts are marked.
  pub marking_done : length steps ≤ i → NearParts H steps near before parts r
  marking_done h = record { each = λ j. gives_all (c.rest j) h; within = c.count; rest = c.only }

  module _ (asked : NearPartsAsked H steps near before) (more : i < length steps) {child above piece own : ℕ}
      (a : AtStep near left beside (get_or steps i 0) child above piece own) where
    abbrev step : ℕ
    step = get_or steps i 0

    -- the parts so far, the state and the one after the step, for root j
    abbrev done : ℕ → List Bool
    done j = map (bit_at j) (take r parts)

    abbrev state : ℕ → Sweep
    state j = bits_of j left beside (done j)

    abbrev next : ℕ → Sweep
    next j = sweep_step H (near_to j near) step (state j)

    piece_bits : piece ≡ step_weight step + get_or left (step_child step) 0
    piece_bits = cc (a.piece_is, a.child_is)

    own_bits : (j : ℕ) → bit_at j own ≡ touches_piece (near_to j near) step (state j)
    unfolding touches_piece
    own_bits j =
        let here = get_or near child 0 in
        let there = get_or near above 0 in
        ap (bit_at j) a.own_is
        ∙ rw (bit_or_lem j (get_or beside child 0) (bit_or here there), bit_or_lem j here there, bit_at_lem j beside, a.child_is, a.above_is)

    same_size : length parts ≡ length before
    same_size = only_first_length c.only

    -- A part is split off: there is room for its word, behind the others.
    module _ (left' beside' : List ℕ) (word : ℕ) (splits : (j : ℕ) → next j ≡ bits_of j left' beside' (done j ++ (bit_at j word ∷ []))) where
      split_room : r < length parts
      split_room =
          let after : Sweep = bits_of 0 left' beside' (done 0 ++ (bit_at 0 word ∷ [])) in
          omega (
            arith,
            sweep_grows asked.threshold_some (near_to 0 near) (drop (i + 1) steps) after,
            ap length (gives_more (c.rest 0) more (splits 0)).answer,
            asked.parts_room (near_to 0 near),
            length-append (done 0) (bit_at 0 word ∷ []),
            length-map (take r parts) (bit_at 0),
            length-take-le r parts (omega (arith, same_size, c.count)),
            same_size,
          )

      written : (j : ℕ) → done j ++ (bit_at j word ∷ []) ≡ map (bit_at j) (take (r + 1) (set parts r word))
      written j = sym (ap (map (bit_at j)) (take_stored parts r word split_room) ∙ map-append (bit_at j) (take r parts) (word ∷ []))

      marking_split : Light H left' → Marking H steps near before (set parts r word) left' beside' (r + 1) (i + 1)
      marking_split light =
          record {
            light = light;
            count = omega (arith, split_room, same_size);
            only = only_first_store (only_first_of_more c.only (r + 1) (omega arith)) r word (omega arith);
            rest = λ j. gives_more (c.rest j) more (splits j ∙ ap (bits_of j left' beside') (written j));
          }

    -- The child's piece is a part alone.
    module _ (heavy : H ≤ piece) where
      alone : (j : ℕ) → next j ≡ bits_of j left beside (done j ++ (bit_at j own ∷ []))
      alone j = sweep_alone asked.threshold_some (near_to j near) step (state j) piece_bits (own_bits j) heavy

      pub room_alone : r < length parts
      room_alone = split_room left beside own alone

      pub marking_alone : Marking H steps near before (set parts r own) left beside (r + 1) (i + 1)
      marking_alone = marking_split left beside own alone c.light

    module _ (inside : above < 256) (light : piece < H) {bunch both : ℕ}
        (bunch_is : bunch ≡ get_or left above 0 + piece) (both_is : both ≡ bit_or (get_or beside above 0) own) where
      both_bits : (j : ℕ) → bit_at j both ≡ get_or (state j).touched above false || bit_at j own
      both_bits j = ap (bit_at j) both_is ∙ rw (bit_or_lem j (get_or beside above 0) own, bit_at_lem j beside)

      -- The bunch with it is one,
      module _ (heavy : H ≤ bunch) where
        full : (j : ℕ) → next j ≡ bits_of j (set left above 0) (set beside above 0) (done j ++ (bit_at j both ∷ []))
        full j =
            sweep_full asked.threshold_some (near_to j near) step (state j) piece_bits (own_bits j) a.above_is bunch_is (both_bits j) light heavy
            ∙ rw (bits_stored j beside above 0, bit_none j)

        pub room_full : r < length parts
        room_full = split_room (set left above 0) (set beside above 0) both full

        pub marking_full : Marking H steps near before (set parts r both) (set left above 0) (set beside above 0) (r + 1) (i + 1)
        marking_full = marking_split (set left above 0) (set beside above 0) both full (light_stored c.light inside asked.threshold_some)

      -- or it joins the bunch.
      pub marking_joins : bunch < H → Marking H steps near before parts (set left above bunch) (set beside above both) r (i + 1)
      marking_joins h =
          record {
            light = light_stored c.light inside h;
            count = c.count;
            only = c.only;
            rest =
                λ j. gives_more (c.rest j) more
                (sweep_joins asked.threshold_some (near_to j near) step (state j) piece_bits (own_bits j) a.above_is bunch_is (both_bits j) light h
                ∙ rw (bits_stored j beside above both));
          }
