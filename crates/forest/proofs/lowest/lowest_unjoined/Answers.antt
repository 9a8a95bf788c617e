-- `forest::lowest::lowest_unjoined` meets its contract: the first label that is not the root's is that of the answer. Assumes nothing.
use mathlib.Core.Path.{◌≡◌}
use native.Mathlib.Omega.{arith}
use lib.ListN.{get_or, take}
use borrow.Author.Rules.{rules}
use borrow.Author.Tests.{tests}
use Rattle.std.proofs.lemmas.Iterator.{IsFirst-from_position, YieldsList-from_slice}
use Rattle.forest.proofs.LowestVertices.{place_answers}
use Rattle.forest.proofs.lowest.lowest_unjoined.Goals as goal

pub returns : goal.returns
returns c =
    let own = get_or c.args.label.now c.args.root 0 in
    place_answers (omega arith) (omega arith) c.position.result
    (IsFirst-from_position _ _ _ (λ x. x ≡ own → ⊥) (λ x. x ≡ own) c.position.ensures.ran
    (YieldsList-from_slice (take c.args.n c.args.label.now) cc) (λ x q k. search (rules, tests)) (λ x q k. search (rules, tests)))
