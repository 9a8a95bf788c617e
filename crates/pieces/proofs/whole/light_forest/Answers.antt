-- `pieces::whole::light_forest` meets its contract: a whole forest stands by weight. Assumes nothing.
use Rattle.pieces.proofs.WholeForest.{whole_by_weight, light_forest}
use Rattle.pieces.proofs.whole.light_forest.Goals as goal

pub light_count-requires : goal.light_count-requires
light_count-requires c = whole_by_weight c.requires

pub returns : goal.returns
returns c = light_forest c.light_count.ensures
