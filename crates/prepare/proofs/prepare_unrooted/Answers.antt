-- `prepare::prepare_unrooted` meets its contract: the forest, and the history of its merges. Assumes nothing.
use mathlib.Core.Path.{sym}
use lib.Seq.{length-take-le}
use Rattle.prepare.proofs.prepare_unrooted.Goals as goal

pub slice_bounds-record_merges-end-2 : goal.slice_bounds-record_merges-end-2
slice_bounds-record_merges-end-2 c = sym (length-take-le _ _ c.keep_forest-ready.ensures.forest_room)

pub returns : goal.returns
returns c =
    let size = length-take-le c.keep_forest-ready.result.forest c.keep_forest-ready.new.kept c.keep_forest-ready.ensures.forest_room in
    record {
      edges_room = c.keep_forest-ready.ensures.edges_room;
      forest_room = c.keep_forest-ready.ensures.forest_room;
      in_order = c.keep_forest-ready.ensures.in_order;
      history = record { forest_kept = record { valid = c.requires.for_forest.for_order.valid; forest_is = c.keep_forest-ready.ensures.forest }; history = c.record_merges.ensures.history };
      keys_rest = c.keep_forest-ready.ensures.keys_rest;
      spare_rest = c.keep_forest-ready.ensures.spare_rest;
      order_rest = c.keep_forest-ready.ensures.order_rest;
      kept_rest = c.keep_forest-ready.ensures.kept_rest;
      total_rest = rw size at c.record_merges.ensures.total_rest;
      until_rest = rw size at c.record_merges.ensures.until_rest;
    }
