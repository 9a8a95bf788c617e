-- `filed_entries::starts::starts_at_most` meets its contract. Assumes nothing.
use mathlib.Core.Path.{sym, ap, ◌∙◌}
use native.Mathlib.Omega.{arith}
use lib.Dec.{leb}
use Rattle.filed_entries.proofs.StartTests.{no_trees, some_trees}
use Rattle.filed_entries.proofs.starts.starts_at_most.Goals as goal

pub returns-then-t-lt1 : goal.returns-then-t-lt1
returns-then-t-lt1 c = sym (no_trees c.args.c.now c.args.k (omega arith))

pub returns : goal.returns
returns c = ap (λ t. leb t c.args.k) c.trees_in-t.ensures.is ∙ sym (some_trees c.args.c.now c.args.k (omega arith))
