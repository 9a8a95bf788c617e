-- `filed_entries::starts::starts_at_roots` meets its contract: `all` compares each start with its root.
-- Assumes nothing.
use Prim.Native.Nat.{ℕ}
use mathlib.Core.Path.{sym, ap, ◌∙◌}
use mathlib.Core.Bool.{Bool}
use mathlib.Core.List.{List}
use mathlib.Core.Option.{Option}
use native.Mathlib.Omega.{arith}
use lib.Dec.{eqb}
use borrow.Author.Tests.{tests}
use Rattle.std.proofs.Common.{rules}
use Rattle.std.proofs.lemmas.Iterator.{YieldsList-from_range}
use Rattle.std.proofs.lemmas.Iterator.Search.{all_from_yields_List}
use Rattle.lists.specs.Count.{below}
use Rattle.lists.specs.Lists.{all}
use Rattle.rules.specs.CoverBytes.{start_in}
use Rattle.admit.specs.Brought.{lent}
use Rattle.admit.specs.Crews.{root_at}
use Rattle.filed_entries.proofs.AllNumbers.{all_range}
use Rattle.filed_entries.proofs.StartTests.{other_count, starts_decide}
use Rattle.filed_entries.proofs.starts.starts_at_roots.Goals as goal

pub returns-then-t-k : goal.returns-then-t-k
returns-then-t-k c =
    let vans : Option (List ℕ) = lent c.args.vans in
    sym (other_count c.args.c.now c.args.k vans (omega arith))

pub returns : goal.returns
returns c =
    let vans : Option (List ℕ) = lent c.args.vans in
    let there : ℕ → Bool = λ j. eqb (start_in c.args.c.now j) (root_at vans j) in
    all_from_yields_List there _ _ _ c.all.ensures.ran (YieldsList-from_range 0 c.trees_in-t.result c.trees_in-t.result (cc) (omega arith)) (λ x b q k. search (rules, tests))
    ∙ all_range there c.trees_in-t.result
    ∙ ap (λ t. all there (below t)) c.trees_in-t.ensures.is
    ∙ starts_decide c.args.c.now c.args.k vans (omega arith)
