-- `unrooted::answer::at_limit` meets its contract: the front of the whole forest is the forest at the limit, and the history tells what its components
-- need. Assumes nothing.
use Rattle.needs.proofs.WholeForest.{whole_kept, front_is, read_asked, history_tells}
use Rattle.unrooted.proofs.answer.at_limit.Goals as goal

pub light_forest-edges-requires : goal.light_forest-edges-requires
light_forest-edges-requires c = whole_kept c.requires.forest_kept

pub needed_by_history-trees-requires : goal.needed_by_history-trees-requires
needed_by_history-trees-requires c = read_asked c.requires.forest_kept c.light_forest-edges.ensures c.requires.history c.vertex_count.ensures.is

pub returns : goal.returns
returns c =
    record {
      few = c.light_forest-edges.ensures.few;
      front = front_is c.requires.forest_kept c.light_forest-edges.ensures;
      needs = history_tells c.requires.forest_kept c.light_forest-edges.ensures c.requires.history c.vertex_count.ensures.is c.needed_by_history-trees.ensures;
    }
