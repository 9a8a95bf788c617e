-- The words that one pass over the steps leaves say to which roots each part may go: the steps pass the vertices of each part, and a vertex's word
-- has the roots that are within the limit of it.
-- Assumes nothing.
use Prim.Native.Nat.{ℕ, ◌≤◌, ◌<◌}
use mathlib.Core.Path.{◌≡◌, sym, ap, ◌∙◌}
use mathlib.Core.Bool.{Bool, false}
use mathlib.Core.List.{List, [], map}
use native.Mathlib.Omega.{arith}
use lib.ListN.{length, get_or, take, length-map}
use lib.Seq.{get_or-take, length-take-le}
use Rattle.lists.specs.Lists.{any}
use Rattle.lists.proofs.Places.{map_at}
use Rattle.lists.proofs.Put.{only_first_length}
use Rattle.graph.specs.Graph.{Graph}
use Rattle.graph.specs.Valid.{Valid}
use Rattle.graph.proofs.Ranges.{one_end_below, other_end_below}
use Rattle.rules.specs.Walk.{Joins, onward, back, Walk, stay, step}
use Rattle.rules.specs.Cover.{Tree}
use Rattle.rules.specs.Split.{all_parts}
use Rattle.rules.specs.Distance.{tree_vertices}
use Rattle.rules.specs.RootedTrial.{rooted_parts, part_of, may_go}
use Rattle.planner_laws.proofs.RootedPrepared.{pieces_of_whole}
use Rattle.planner_laws.proofs.RootedPieces.{part_at}
use Rattle.steps.specs.Touched.{parts_touched}
use Rattle.near.specs.Bits.{bit_at}
use Rattle.near.specs.Parts.{NearPartsAsked, NearParts}
use Rattle.near.proofs.BitsLaws.{bit_at_lem}
use Rattle.rooted_parts.specs.Near.{VerticesNear, PartsNear}
use Rattle.rooted_state.proofs.NearMeansMayGo.{tree_reaches}
use Rattle.rooted_decide.specs.Decide.{FewReady}
use Rattle.rooted_decide.proofs.PartsCounted.{count_asked}

-- A walk to a vertex of the graph starts at one.
walk_inside : {g : Graph} → Valid g → {path : List ℕ} {u v : ℕ} → Walk g path u v → v < g.vertices → u < g.vertices
walk_inside valid (stay q) h = rw q h
walk_inside {g} valid (step {e} {u = u} {w = w} j rest) h = from j
  where
    from : Joins g e u w → u < g.vertices
    from (onward q _) = rw q (one_end_below valid e)
    from (back q _) = rw q (other_end_below valid e)

module _ {g : Graph} {roots : List ℕ} {limit : ℕ} {distances steps : List ℕ} (f : FewReady g roots limit distances steps) where
  abbrev k : ℕ
  k = length roots

  abbrev parts : List Tree
  parts = rooted_parts g roots limit

  valid : Valid g
  valid = f.counted.ready.asked.decidable.given.valid

  -- The pass tells of each part of the trial whether a test holds at one of its vertices.
  touched_parts : (test : ℕ → Bool) → parts_touched limit test steps ≡ map (λ part. any test (tree_vertices g part)) parts
  unfolding rooted_parts
  touched_parts test =
      f.counted.stepped.touches limit test
      ∙ ap (λ ps. map (λ part. any test (tree_vertices g part)) (all_parts ps)) (sym (pieces_of_whole g roots limit valid f.counted.ready.joined))

  touched_many : (test : ℕ → Bool) → length (parts_touched limit test steps) ≡ length parts
  touched_many test = ap length (touched_parts test) ∙ length-map parts (λ part. any test (tree_vertices g part))

  pub near_parts_asked : {near words : List ℕ} → 256 ≤ length near → k ≤ length words → NearPartsAsked limit steps near words
  near_parts_asked near_room words_room =
      record {
        countable = count_asked f.counted;
        threshold_some = f.limit_some;
        near_room = near_room;
        parts_room = λ test. omega (arith, touched_many test, f.few);
      }

  -- What a test says of the part of a number.
  at_number : (test : Tree → Bool) (i : ℕ) → i < length parts → get_or (map test parts) i false ≡ test (part_of parts i)
  unfolding part_of
  at_number test i h = map_at test (record { start = 0; edges = [] }) false parts i h

  -- A part starts at a vertex of the graph.
  start_inside : (i : ℕ) → i < length parts → (part_of parts i).start < g.vertices
  start_inside i h =
      let p = part_at g roots limit i h in
      let (e, n) = p.some_edge in
      walk_inside valid (p.joined e n).leads (one_end_below valid e)

  module _ {near : List ℕ} (words : VerticesNear g roots limit near) where
    -- Some vertex's word has root j exactly where the part may go to it.
    part_near : (i j : ℕ) → i < length parts → j < k → any (λ v. bit_at j (get_or near v 0)) (tree_vertices g (part_of parts i)) ≡ may_go g roots limit i j
    unfolding may_go
    part_near i j h l =
        tree_reaches valid limit (get_or roots j 0) (λ v. bit_at j (get_or near v 0)) (λ v m. words.each v j m l) (part_of parts i) (start_inside i h)

    pub parts_near : {came left : List ℕ} {r : ℕ} → NearParts limit steps near came left r → PartsNear g roots limit left r
    parts_near {came} {left} {r} p = record { count = many; within = room; each = each }
      where
        room : r ≤ length left
        room = omega (arith, p.within, only_first_length p.rest)

        found : (j : ℕ) → map (bit_at j) (take r left) ≡ map (λ part. any (λ v. bit_at j (get_or near v 0)) (tree_vertices g part)) parts
        found j = p.each j ∙ touched_parts (λ v. bit_at j (get_or near v 0))

        many : r ≡ length parts
        many =
            sym (length-take-le r left room)
            ∙ sym (length-map (take r left) (bit_at 0))
            ∙ ap length (found 0)
            ∙ length-map parts (λ part. any (λ v. bit_at 0 (get_or near v 0)) (tree_vertices g part))

        each : (i j : ℕ) → i < r → j < k → bit_at j (get_or left i 0) ≡ may_go g roots limit i j
        each i j h l =
            let test : Tree → Bool = λ part. any (λ v. bit_at j (get_or near v 0)) (tree_vertices g part) in
            let h' : i < length parts = omega (arith, many) in
            ap (bit_at j) (sym (get_or-take r left i 0 h))
            ∙ sym (bit_at_lem j (take r left) i)
            ∙ ap (λ ts. get_or ts i false) (found j)
            ∙ at_number test i h'
            ∙ part_near i j h' l
