-- `allows` meets its contract: the byte is inside the slice, and the definition reads the same one.
-- Assumes nothing.
use Rattle.matching.specs.Input.{allowed_at}
use borrow.Author.Rules.{rules}
use Rattle.matching.proofs.input.allows.Goals as goal

pub returns : goal.returns
unfolding allowed_at
returns c = search rules
