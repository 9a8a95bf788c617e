-- `deficient::write_parts` meets its contract: the chosen pieces are laid out with their edges rising, numbered in order of
-- their first edges, and written. Assumes nothing.
use Prim.Native.Nat.{ℕ, ◌+◌}
use mathlib.Core.Path.{◌≡◌, ap, ◌∙◌}
use mathlib.Core.List.{List, ◌++◌}
use native.Mathlib.Omega.{arith}
use lib.ListN.{length, take, length-append}
use lib.Seq.{take_at}
use Rattle.lists.specs.Count.{below}
use Rattle.lists.specs.Put.{PutTo}
use Rattle.lists.specs.Sort.{sort_by}
use Rattle.lists.proofs.Put.{put_taken}
use Rattle.lists.proofs.Runs.{length_below}
use Rattle.lists.proofs.Sorting.{sort_length}
use Rattle.pieces.specs.Chosen.{by_key}
use Rattle.deficient.proofs.ChosenLaid.{laid_in_order, laid_writable}
use Rattle.deficient.proofs.write_parts.Goals as goal

-- The numbers of t pieces were sorted by their keys: they are in order, and as many, whatever stands behind them.
module _ (keys : List ℕ) {t : ℕ} {before numbers sorted : List ℕ} (p : PutTo 0 (below t) before numbers t) (q : sorted ≡ sort_by (by_key keys) (take t numbers)) where
  sorted_are : sorted ≡ sort_by (by_key keys) (below t)
  sorted_are = q ∙ ap (sort_by (by_key keys)) (put_taken p)

  count : length sorted ≡ t
  count = ap length sorted_are ∙ sort_length (by_key keys) (below t) ∙ length_below t

  front : (rest : List ℕ) → take t (sorted ++ rest) ≡ sort_by (by_key keys) (below t)
  front rest = take_at sorted rest t count ∙ sorted_are

pub lay_edges-requires : goal.lay_edges-requires
lay_edges-requires c = record { held = c.requires.held; bounds_fit = omega (arith, c.requires.few); edges_fit = omega (arith, c.requires.light); small = omega arith }

pub take_keys-requires : goal.take_keys-requires
take_keys-requires c = record { held = λ i h. record { forward = c.lay_edges.ensures.laid.bounded.rising i h; inside = omega (arith, c.lay_edges.ensures.laid.bounded.within (i + 1) (omega arith), c.lay_edges.ensures.laid.inside) }; fits = omega (arith, c.requires.few) }

pub slice_bounds-sort_chosen-end-2 : goal.slice_bounds-sort_chosen-end-2
slice_bounds-sort_chosen-end-2 c = omega (arith, ap length (put_taken c.number_up.ensures), length_below (length c.args.chosen.now))

pub slice_bounds-numbers-end-2 : goal.slice_bounds-numbers-end-2
slice_bounds-numbers-end-2 c = simp length-append (omega (arith, count c.take_keys.new.keys c.number_up.ensures c.sort_chosen.ensures))

pub write_cover-requires : goal.write_cover-requires
write_cover-requires c =
    rw (front c.take_keys.new.keys c.number_up.ensures c.sort_chosen.ensures _)
    (laid_writable c.args.pieces.starts.now c.args.pieces.cuts.now c.args.pieces.members.now c.args.chosen.now c.take_starts.ensures c.lay_edges.ensures.laid
    c.take_keys.ensures.keyed c.requires.few (omega (arith, c.lay_edges.auto.edges)) c.requires.most)

pub returns : goal.returns
returns c =
    let in_order = laid_in_order c.args.pieces.starts.now c.args.pieces.cuts.now c.args.pieces.members.now c.args.chosen.now c.take_starts.ensures
    c.lay_edges.ensures.laid c.take_keys.ensures.keyed in
    rw in_order at (rw (front c.take_keys.new.keys c.number_up.ensures c.sort_chosen.ensures _) at c.write_cover.ensures)
