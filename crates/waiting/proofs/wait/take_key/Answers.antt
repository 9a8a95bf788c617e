-- `waiting::wait::take_key` meets its contract: the least of the block is looked for anew. Assumes nothing.
use mathlib.Core.Path.{refl}
use native.Mathlib.Omega.{arith}
use lib.ListN.{length-set}
use Rattle.waiting.specs.Waiting.{nobody}
use Rattle.waiting.proofs.KeyBlocks.{blocks_sought, low_set}
use Rattle.waiting.proofs.wait.take_key.Goals as goal

pub least_from-requires : goal.least_from-requires
least_from-requires c = omega (arith, c.requires, c.requires.1.wait_size, length-set c.args.wait.now c.args.v nobody)

pub returns : goal.returns
returns c =
    record {
      stored = refl;
      blocks = blocks_sought c.requires.1 c.requires.0 nobody c.least_from.ensures;
      low_stored = low_set c.requires.1 c.requires.0 c.least_from.result;
    }
