-- `cover::heaviest::edges_weight` meets its contract: the weights are added up.
-- Assumes nothing.
use mathlib.Core.Path.{◌≡◌, refl, sym, ◌∙◌}
use Rattle.std.proofs.Common.{rules}
use Rattle.std.proofs.lemmas.List.Recursion.{is_sum_by}
use Rattle.std.specs.List.{sum_by}
use Rattle.lists.specs.Lists.{sum_of}
use Rattle.graph.specs.Graph.{Graph, weight_of}
use Rattle.graph.specs.Bytes.{graph_of}
use Rattle.rules.specs.Walk.{total_weight}
use Rattle.cover.proofs.heaviest.edges_weight.Goals as goal

pub returns : goal.returns
unfolding total_weight sum_of
returns c =
    let g : Graph = c.args.g.now in
    let added : c.sum.result ≡ sum_by (weight_of g) c.args.edges.now = search rules in
    added ∙ sym (is_sum_by (sum_of (weight_of g)) (weight_of g) refl (λ _ _. refl) c.args.edges.now)
