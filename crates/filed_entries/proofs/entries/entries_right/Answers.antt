-- `filed_entries::entries::entries_right` meets its contract: `all` tests each entry.
-- Assumes nothing.
use Prim.Native.Nat.{ℕ}
use mathlib.Core.Path.{ap, ◌∙◌}
use mathlib.Core.Bool.{Bool}
use native.Mathlib.Omega.{arith}
use borrow.Author.Tests.{tests}
use Rattle.std.proofs.Common.{rules}
use Rattle.std.proofs.lemmas.Iterator.{YieldsList-from_range}
use Rattle.std.proofs.lemmas.Iterator.Search.{all_from_yields_List}
use Rattle.lists.specs.Count.{below}
use Rattle.lists.specs.Lists.{all}
use Rattle.rules.specs.CheckCover.{entry_right, entries_right}
use Rattle.filed_entries.proofs.AllNumbers.{all_range}
use Rattle.filed_entries.proofs.entries.entries_right.Goals as goal

pub returns : goal.returns
unfolding entries_right
returns c =
    let right : ℕ → Bool = entry_right c.args.m c.args.c.now in
    all_from_yields_List right _ _ _ c.all.ensures.ran (YieldsList-from_range 0 c.entries_in.result c.entries_in.result (cc) (omega arith)) (λ x b q k. search (rules, tests))
    ∙ all_range right c.entries_in.result
    ∙ ap (λ n. all right (below n)) c.entries_in.ensures.is
