-- `unrooted_pieces::components::piece_key` meets its contract: the first edge of a piece is its smallest. Assumes nothing.
use mathlib.Core.Path.{◌≡◌, sym, ap, ◌∙◌}
use mathlib.Core.List.{head_d}
use native.Mathlib.Omega.{arith}
use lib.ListN.{get_or}
use Rattle.lists.specs.Segments.{segment}
use Rattle.lists.proofs.FirstElement.{head_at}
use Rattle.rules.specs.Split.{smallest_edge}
use Rattle.unrooted_pieces.proofs.components.piece_key.Goals as goal

pub returns : goal.returns
unfolding smallest_edge
returns c =
    let edges = segment c.args.cuts.now c.args.members.now c.args.i in
    let first : c.number_at.result ≡ head_d edges 0 = c.number_at.ensures.is ∙ ap (λ l. get_or l 0 0) c.edges_at.ensures.is ∙ sym (head_at edges) in
    omega (arith, first, c.wide-by_start.ensures.is)
