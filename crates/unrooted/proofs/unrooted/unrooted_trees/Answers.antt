-- `unrooted::unrooted::unrooted_trees` meets its contract: its steps one after the other. Assumes nothing.
use mathlib.Core.Path.{sym, ap, ◌∙◌}
use native.Mathlib.Omega.{arith}
use lib.Seq.{length-take-le}
use Rattle.graph.specs.Bytes.{graph_of}
use Rattle.rules.specs.Cover.{heaviest}
use Rattle.unrooted.proofs.AnswerTrees.{places_asked, answer, answer_held, answer_count, answer_writable}
use Rattle.unrooted.proofs.unrooted.unrooted_trees.Goals as goal

pub slice_bounds-left-end : goal.slice_bounds-left-end
slice_bounds-left-end c = sym (length-take-le _ _ c.split_components-s.ensures.roots_room)

pub order_trees-t-requires : goal.order_trees-t-requires
order_trees-t-requires c = record { given = c.split_components-s.ensures.given; few = c.split_components-s.ensures.few; places = places_asked c.requires.forest_given.valid c.split_components-s.ensures c.requires.needs_few (omega arith) }

pub slice_bounds-heaviest_chosen-end-3 : goal.slice_bounds-heaviest_chosen-end-3
slice_bounds-heaviest_chosen-end-3 c = sym (length-take-le _ _ c.order_trees-t.ensures.room)

pub heaviest_chosen-heaviest-requires : goal.heaviest_chosen-heaviest-requires
heaviest_chosen-heaviest-requires c = answer_held c.requires.forest_given.valid c.split_components-s.ensures c.order_trees-t.ensures

pub write_cover-requires : goal.write_cover-requires
write_cover-requires c = answer_writable c.requires.forest_given.valid c.split_components-s.ensures c.order_trees-t.ensures c.requires.room c.requires.needs_few

pub returns : goal.returns
returns c =
    let trees = answer c.requires.forest_given.valid c.split_components-s.ensures c.order_trees-t.ensures in
    record {
      put = rw trees at c.write_cover.ensures.put;
      heaviest_is = c.heaviest_chosen-heaviest.ensures.is _ ∙ ap (heaviest c.args.g.now) trees;
      trees_are = answer_count c.requires.forest_given.valid c.split_components-s.ensures c.order_trees-t.ensures;
    }
