-- `waiting::wait::put_key` meets its contract: the lower of the block's least and the key is the block's least now. Assumes nothing.
use mathlib.Core.Path.{refl}
use Rattle.waiting.proofs.KeyBlocks.{blocks_put, low_set, min_lower}
use Rattle.waiting.proofs.wait.put_key.Goals as goal

pub returns : goal.returns
returns c =
    record {
      stored = refl;
      blocks = blocks_put c.requires.blocks c.requires.vertex c.args.key c.requires.no_higher (min_lower c.min.ensures);
      low_stored = low_set c.requires.blocks c.requires.vertex c.min.result;
    }
