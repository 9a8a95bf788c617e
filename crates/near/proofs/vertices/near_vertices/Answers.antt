-- `near::vertices::near_vertices` meets its contract. The loop's invariant: the roots from j on are added to the word of each vertex. The measure
-- is j. Assumes nothing.
use Prim.Native.Nat.{ℕ, ◌+◌, ◌*◌, ◌-◌, ◌≤◌, ◌<◌}
use mathlib.Core.Path.{◌≡◌, refl}
use mathlib.Core.List.{List}
use native.Mathlib.Omega.{arith}
use lib.ListN.{length, take, drop}
use Rattle.distance_table.proofs.RowPlaces.{row_room, row_length}
use Rattle.near.specs.Vertices.{NearAsked}
use Rattle.near.proofs.NearWords.{RootsAdding, roots_none, root_asked, run_asked, roots_more, roots_run, roots_all}
use borrow.Author.Rules.{rules}
use Rattle.near.proofs.vertices.near_vertices.Goals as goal

-- The row of the root before j is within the table, and has a distance for each word.
module _ {k limit j : ℕ} {distances before after roots : List ℕ} (asked : NearAsked k distances before roots)
    (m : RootsAdding k limit distances j before after) (some : 0 < j) where
  abbrev n : ℕ
  n = length before

  abbrev from : ℕ
  from = (j - 1) * n

  row_fits : from + n ≤ length distances
  row_fits = row_room (j - 1) k n _ (omega (arith, m.within)) asked.room

  row_given : length after ≤ length (take (from + n - from) (drop from distances))
  row_given =
      let size : from + n - from ≡ n = omega arith in
      rw size (omega (arith, row_length distances from n row_fits, m.size))

pub loop-j-init : goal.loop-j-init
loop-j-init c = roots_none c.requires

pub overflow_mul-from : goal.overflow_mul-from
overflow_mul-from c = let fits = row_fits c.requires c.loop-j.invariant c.loop-j-test.true in search rules

pub overflow_add-to : goal.overflow_add-to
overflow_add-to c = let fits = row_fits c.requires c.loop-j.invariant c.loop-j-test.true in search rules

pub run_start-first-requires : goal.run_start-first-requires
run_start-first-requires c = omega (arith, c.loop-j-test.true, c.loop-j.invariant.within, c.requires.roots_given)

pub offset_bounds-distances-from : goal.offset_bounds-distances-from
offset_bounds-distances-from c = let fits = row_fits c.requires c.loop-j.invariant c.loop-j-test.true in search rules

pub add_run-requires : goal.add_run-requires
add_run-requires c =
    run_asked c.loop-j.invariant c.loop-j-test.true _ (omega arith) c.requires.roots_few (row_given c.requires c.loop-j.invariant c.loop-j-test.true)

pub loop-j-preserved-then-first-last : goal.loop-j-preserved-then-first-last
loop-j-preserved-then-first-last c =
    let n : ℕ = length c.args.near.now in
    let size : (c.loop-j.j - 1) * n + n - (c.loop-j.j - 1) * n ≡ n = omega arith in
    roots_run c.loop-j.invariant c.loop-j-test.true refl size c.requires c.run_start-first.ensures c.add_run.ensures

pub offset_bounds-distances-from-in-loop-j : goal.offset_bounds-distances-from-in-loop-j
offset_bounds-distances-from-in-loop-j c = let fits = row_fits c.requires c.loop-j.invariant c.loop-j-test.true in search rules

pub add_root-requires : goal.add_root-requires
add_root-requires c =
    root_asked c.loop-j.invariant c.loop-j-test.true c.requires.roots_few (row_given c.requires c.loop-j.invariant c.loop-j-test.true)

pub loop-j-preserved : goal.loop-j-preserved
loop-j-preserved c =
    let n : ℕ = length c.args.near.now in
    let size : (c.loop-j.j - 1) * n + n - (c.loop-j.j - 1) * n ≡ n = omega arith in
    roots_more c.loop-j.invariant c.loop-j-test.true refl size c.add_root.ensures

pub returns : goal.returns
returns c = roots_all c.loop-j.invariant (omega arith)
