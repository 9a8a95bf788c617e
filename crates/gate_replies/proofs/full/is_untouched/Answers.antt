-- `gate_replies::full::is_untouched` meets its contract: `all` compares each byte.
-- Assumes nothing.
use mathlib.Core.Path.{◌∙◌}
use lib.Dec.{eqb}
use borrow.Author.Tests.{tests}
use Rattle.std.proofs.Common.{rules}
use Rattle.std.proofs.lemmas.Iterator.{YieldsList-from_slice}
use Rattle.std.proofs.lemmas.Iterator.Search.{all_from_yields_List}
use Rattle.gate_replies.proofs.FillLaws.{all_untouched}
use Rattle.gate_replies.proofs.full.is_untouched.Goals as goal

pub returns : goal.returns
returns c =
    all_from_yields_List (λ x. eqb x 165) _ _ _ c.all.ensures.ran (YieldsList-from_slice c.args.rest.now cc) (λ x b q k. search (rules, tests))
    ∙ all_untouched c.args.rest.now
