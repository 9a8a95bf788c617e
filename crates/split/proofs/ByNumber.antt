-- For callers of `split_forest`: how many pieces there are, and the parts and the leftovers by their numbers.
-- Assumes nothing.
use Prim.Native.Nat.{ℕ, ◌+◌, ◌<◌}
use mathlib.Core.Path.{◌≡◌, sym, ap, ◌∙◌}
use mathlib.Core.List.{List, [], map, map-map, map-id}
use native.Mathlib.Omega.{arith}
use lib.ListN.{length, get_or, length-map, get_or-map}
use lib.Seq.{get_or-take}
use Rattle.lists.specs.Count.{from, below}
use Rattle.lists.proofs.Put.{put_count, put_taken}
use Rattle.lists.proofs.Runs.{length_from, same_images}
use Rattle.graph.specs.Graph.{Graph}
use Rattle.rules.specs.Cover.{Tree}
use Rattle.rules.specs.Held.{tree_at, trees_at, risen}
use Rattle.rules.specs.Grow.{none, Rooted, grow}
use Rattle.rules.specs.Split.{Pieces, part_at, split_at, split, all_parts}
use Rattle.rules.specs.RootedTrial.{part_of, left_at}
use Rattle.split_laws.proofs.Trees.{grow_roots}
use Rattle.split.specs.Pieces.{left_of, pieces_of, left_places, part_places}
use Rattle.split.specs.ForestSplit.{Lent, Splits}
use Rattle.split.proofs.PiecesOf.{pieces_for, pieces_length, parts_placed, lefts_placed}

module _ {g : Graph} {edges roots : List ℕ} {H : ℕ} {a z : Lent} {r used : ℕ} (x : Splits g edges roots H a z r used) where
  -- The trees of the roots, and what each is split into.
  abbrev trees : List Rooted
  trees = grow g edges roots

  abbrev pieces : List Pieces
  pieces = map (split g H) trees

  -- The piece of a number, its edges rising, and the pieces of some numbers.
  abbrev piece : ℕ → Tree
  piece i = risen (tree_at z.starts z.cuts z.members i)

  held : (places : List ℕ) → map risen (trees_at z.starts z.cuts z.members places) ≡ map piece places
  unfolding trees_at
  held places = map-map risen (tree_at z.starts z.cuts z.members) places

  all : map piece (from 0 r) ≡ pieces_for g H trees
  unfolding pieces_of below
  all = sym (held (below r)) ∙ x.pieces

  -- The parts of all trees stand at their numbers,
  pub parts_are : map risen (trees_at z.starts z.cuts z.members (part_places 0 pieces)) ≡ all_parts pieces
  parts_are = held (part_places 0 pieces) ∙ parts_placed g H piece trees 0 r all

  -- There is a tree for each root, and a leftover for each tree.
  trees_count : length trees ≡ length roots
  trees_count = sym (length-map trees (λ (t : Rooted). t.root)) ∙ ap length (grow_roots g edges roots)

  pub pieces_count : length pieces ≡ length roots
  pieces_count = length-map trees (split g H) ∙ trees_count

  -- The answer counts the parts of all trees and the leftovers.
  held_count : r ≡ length (pieces_for g H trees)
  held_count = sym (length-map (from 0 r) piece ∙ length_from 0 r) ∙ ap length all

  pub all_count : r ≡ length (all_parts pieces) + length roots
  all_count = held_count ∙ pieces_length g H trees ∙ ap (λ (k : ℕ). length (all_parts pieces) + k) trees_count

  -- Part i stands at its number.
  pub part_is : (i : ℕ) → i < length (all_parts pieces) → part_of (all_parts pieces) i ≡ piece (get_or (part_places 0 pieces) i 0)
  unfolding part_of
  part_is i l =
      let q : map piece (part_places 0 pieces) ≡ map (λ (t : Tree). t) (all_parts pieces) = parts_placed g H piece trees 0 r all ∙ sym (map-id (all_parts pieces)) in
      let n : length (part_places 0 pieces) ≡ length (all_parts pieces) = sym (length-map (part_places 0 pieces) piece) ∙ ap length (parts_placed g H piece trees 0 r all) in
      sym (same_images piece (λ (t : Tree). t) (part_places 0 pieces) (all_parts pieces) q 0 (record { start = 0; edges = [] }) i (omega arith))

  -- The array has the number of root j's leftover.
  pub left_place : (j : ℕ) → j < length roots → get_or z.lefts j 0 ≡ get_or (left_places 0 pieces) j 0
  left_place j l = sym (get_or-take (length roots) z.lefts j 0 l) ∙ ap (λ (xs : List ℕ). get_or xs j 0) (put_taken x.lefts)

  module _ (j : ℕ) (l : j < length roots) where
    -- What is left at root j is the piece of that number.
    pub left_is : piece (get_or z.lefts j 0) ≡ part_at (get_or roots j 0) (left_at pieces j)
    unfolding left_at left_of split split_at
    left_is =
        let t : Rooted = record { root = 0; branches = none } in
        let left : Rooted → Tree = λ u. left_of u (split g H u) in
        let n : length (left_places 0 pieces) ≡ length roots = sym (put_count x.lefts) in
        ap piece (left_place j l)
        ∙ same_images piece left (left_places 0 pieces) trees (lefts_placed g H piece trees 0 r all) 0 t j (omega arith)
        ∙ ap (λ (v : ℕ). part_at v (split g H (get_or trees j t)).left) (sym (get_or-map (λ (u : Rooted). u.root) trees j t) ∙ ap (λ (rs : List ℕ). get_or rs j 0) (grow_roots g edges roots))
        ∙ ap (λ (p : Pieces). part_at (get_or roots j 0) p.left) (sym (get_or-map (split g H) trees j t))
