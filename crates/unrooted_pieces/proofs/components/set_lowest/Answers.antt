-- `unrooted_pieces::components::set_lowest` meets its contract. The loop's invariant: the pieces before i start at their lowest vertices.
-- Assumes nothing.
use mathlib.Core.Path.{ap, ◌∙◌}
use native.Mathlib.Omega.{arith}
use Rattle.lists.specs.Segments.{segment}
use Rattle.graph.specs.Bytes.{graph_of}
use Rattle.rules.specs.Held.{tree_at}
use Rattle.pieces.specs.Pieces.{tree_of}
use Rattle.unrooted_pieces.specs.Components.{lowest_of}
use Rattle.lists.proofs.SetUpTo.{set_more, set_only_first}
use Rattle.lists.proofs.OnlyFirst.{only_first_of_more}
use Rattle.unrooted_pieces.proofs.components.set_lowest.Goals as goal

pub loop-i-preserved : goal.loop-i-preserved
loop-i-preserved c =
    let same = c.loop-i.invariant.rest c.loop-i.i (omega arith) in
    set_more c.loop-i.invariant (omega (arith, c.loop-i.invariant.size))
    (c.piece_lowest.ensures.is ∙ ap (λ v. lowest_of c.args.g.now (tree_of v (segment c.args.cuts.now c.args.members.now c.loop-i.i))) same)

pub returns : goal.returns
unfolding tree_at
returns c = record { size = c.loop-i.invariant.size; each = λ j h. c.loop-i.invariant.done j (omega arith); rest = only_first_of_more (set_only_first c.loop-i.invariant) _ (omega arith) }
