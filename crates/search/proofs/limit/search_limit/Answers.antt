-- `search::limit::search_limit` meets its contract: 0 is tried first; then the search goes on between 0 and the sum of all weights, which counts as tried.
-- Assumes nothing.
use mathlib.Core.Path.{◌≡◌, sym, ap, ◌∙◌}
use native.Mathlib.Omega.{arith}
use Rattle.graph.specs.Graph.{Graph}
use Rattle.graph.specs.Valid.{Valid}
use Rattle.rules.specs.Cover.{Crews}
use Rattle.rules.specs.Walk.{total_weight}
use Rattle.planner_laws.proofs.FirstBounds.{all_weights, sum_bounded, order_few}
use Rattle.prepare.specs.Crews.{the_crews}
use Rattle.search.proofs.SearchLoop.{found_zero, found_more}
use Rattle.search.proofs.limit.search_limit.Goals as goal

pub returns-then-accepts_at : goal.returns-then-accepts_at
returns-then-accepts_at c =
    let g : Graph = c.args.g.now in
    let crews : Crews = the_crews c.args.prepared.crews in
    found_zero g crews c.args.trials (sym c.accepts_at.ensures ∙ c.if-accepts_at.true)

pub edges_weight-sum-requires : goal.edges_weight-sum-requires
edges_weight-sum-requires c =
    let g : Graph = c.args.g.now in
    let valid : Valid g = c.requires.prepared.ready.valid in
    omega (arith, order_few valid c.requires.in_order)

pub search-end-requires : goal.search-end-requires
search-end-requires c =
    let g : Graph = c.args.g.now in
    let sum_is : c.edges_weight-sum.result ≡ all_weights g = c.edges_weight-sum.ensures ∙ ap (total_weight g) c.requires.in_order in
    let valid : Valid g = c.requires.prepared.ready.valid in
    record { prepared = c.requires.prepared; stepped = c.requires.stepped; sum_most = omega (arith, sum_is, sum_bounded valid) }

pub overflow_add-result : goal.overflow_add-result
overflow_add-result c = omega (arith, c.search-end.ensures.turns_most, c.requires.some_trials, c.ranges.trials.fits)

pub overflow_add-result-2 : goal.overflow_add-result-2
overflow_add-result-2 c =
    let g : Graph = c.args.g.now in
    let sum_is : c.edges_weight-sum.result ≡ all_weights g = c.edges_weight-sum.ensures ∙ ap (total_weight g) c.requires.in_order in
    let valid : Valid g = c.requires.prepared.ready.valid in
    omega (arith, c.search-end.ensures.in_order, c.search-end.ensures.most, sum_is, sum_bounded valid)

pub overflow_sub-result : goal.overflow_sub-result
overflow_sub-result c = c.search-end.ensures.in_order

pub returns : goal.returns
returns c =
    let g : Graph = c.args.g.now in
    let crews : Crews = the_crews c.args.prepared.crews in
    let sum_is : c.edges_weight-sum.result ≡ all_weights g = c.edges_weight-sum.ensures ∙ ap (total_weight g) c.requires.in_order in
    found_more g crews c.args.trials (sym c.accepts_at.ensures ∙ c.if-accepts_at.false) sum_is c.search-end.ensures
