-- `filed_entries::starts::starts_below` meets its contract: `all` tests each start.
-- Assumes nothing.
use Prim.Native.Nat.{ℕ}
use mathlib.Core.Path.{ap, ◌∙◌}
use mathlib.Core.Bool.{Bool}
use native.Mathlib.Omega.{arith}
use lib.Dec.{ltb}
use borrow.Author.Tests.{tests}
use Rattle.std.proofs.Common.{rules}
use Rattle.std.proofs.lemmas.Iterator.{YieldsList-from_range}
use Rattle.std.proofs.lemmas.Iterator.Search.{all_from_yields_List}
use Rattle.lists.specs.Count.{below}
use Rattle.lists.specs.Lists.{all}
use Rattle.rules.specs.CoverBytes.{start_in}
use Rattle.rules.specs.CheckCover.{starts_below}
use Rattle.filed_entries.proofs.AllNumbers.{all_range}
use Rattle.filed_entries.proofs.starts.starts_below.Goals as goal

pub returns : goal.returns
unfolding starts_below
returns c =
    let low : ℕ → Bool = λ j. ltb (start_in c.args.c.now j) c.args.n in
    all_from_yields_List low _ _ _ c.all.ensures.ran (YieldsList-from_range 0 c.trees_in.result c.trees_in.result (cc) (omega arith)) (λ x b q k. search (rules, tests))
    ∙ all_range low c.trees_in.result
    ∙ ap (λ t. all low (below t)) c.trees_in.ensures.is
