-- `unrooted::unrooted::order_trees` meets its contract: its steps one after the other. Assumes nothing.
use mathlib.Core.Path.{sym}
use native.Mathlib.Omega.{arith}
use lib.Seq.{length-take-le}
use Rattle.lists.proofs.Put.{put_fits, put_length}
use Rattle.unrooted.proofs.UnrootedAnswer.{given_on, trees_ordered}
use Rattle.unrooted.proofs.unrooted.order_trees.Goals as goal

pub set_lowest-requires : goal.set_lowest-requires
set_lowest-requires c = given_on c.requires.given c.rise_segments.ensures.size (omega (arith, c.requires.given.starts_room))

pub write_keys-requires : goal.write_keys-requires
write_keys-requires c =
    record {
      given = given_on c.requires.given c.rise_segments.ensures.size (omega (arith, c.requires.given.starts_room, c.set_lowest.ensures.size));
      room = omega (arith, c.requires.few);
    }

pub slice_bounds-sort_chosen-end-3 : goal.slice_bounds-sort_chosen-end-3
slice_bounds-sort_chosen-end-3 c = sym (length-take-le _ _ (omega (arith, put_fits c.tree_places-t.ensures, put_length c.tree_places-t.ensures.put)))

pub returns : goal.returns
returns c = trees_ordered c.rise_segments.ensures c.set_lowest.ensures c.write_keys.ensures.keyed c.tree_places-t.ensures c.sort_chosen.ensures
