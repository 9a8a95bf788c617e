-- `rooted_cover::cover_trees::write_rooted` meets its contract: the trees of the roots are laid, numbered and written. Assumes nothing.
use Prim.Native.Nat.{ℕ}
use mathlib.Core.Path.{◌≡◌, sym, ap, ◌∙◌}
use mathlib.Core.List.{List}
use native.Mathlib.Omega.{arith}
use lib.ListN.{length, take}
use lib.Seq.{length-take-le}
use Rattle.lists.specs.Count.{below}
use Rattle.lists.proofs.Put.{put_taken}
use Rattle.lists.proofs.Runs.{length_below}
use Rattle.rooted_cover.proofs.RootTreesGiven.{roots_given}
use Rattle.rooted_cover.proofs.CoverLaid.{trees_held, trees_writable, cover_written}
use Rattle.rooted_cover.proofs.cover_trees.write_rooted.Goals as goal

pub slice_bounds-lay_trees-end : goal.slice_bounds-lay_trees-end
slice_bounds-lay_trees-end c = sym (length-take-le c.args.parts c.args.places.now c.requires.placed.pieces.parts_room)

pub lay_trees-requires : goal.lay_trees-requires
lay_trees-requires c = record { given = roots_given c.requires; few = c.requires.ready.ready.given.few; bounds_fit = omega arith; edges_fit = c.requires.ready.edges_fit }

pub number_up-requires : goal.number_up-requires
number_up-requires c = record { few = omega (arith, c.requires.ready.ready.given.few); fits = omega (arith, c.requires.ready.ready.given.few) }

pub slice_bounds-heaviest_chosen-end-2 : goal.slice_bounds-heaviest_chosen-end-2
slice_bounds-heaviest_chosen-end-2 c = sym (ap length (put_taken c.number_up.ensures) ∙ length_below (length c.args.roots.now))

pub heaviest_chosen-heaviest-requires : goal.heaviest_chosen-heaviest-requires
heaviest_chosen-heaviest-requires c = rw (put_taken c.number_up.ensures) (trees_held c.requires c.lay_trees.ensures.laid)

pub write_cover-requires : goal.write_cover-requires
write_cover-requires c = rw (put_taken c.number_up.ensures) (trees_writable c.requires c.lay_trees.ensures.laid)

pub returns : goal.returns
returns c =
    let numbers_are = put_taken c.number_up.ensures in
    record {
      cover = cover_written c.requires c.lay_trees.ensures.laid (rw numbers_are at c.write_cover.ensures) (rw numbers_are at c.heaviest_chosen-heaviest.ensures);
      edges_rest = c.lay_trees.ensures.edges_rest;
    }
