-- `filed::check::check_trees` meets its contract. Assumes nothing.
use mathlib.Core.Path.{◌≡◌, sym, ap, ◌∙◌}
use mathlib.Core.Bool.{true}
use borrow.Author.Tests.{not-true, not-false}
use Rattle.graph.specs.Graph.{Graph}
use Rattle.rules.specs.CoverBytes.{decode}
use Rattle.rules.specs.CheckCover.{trees_right}
use Rattle.rules.specs.Reply as reply
use Rattle.filed.proofs.CheckSteps.{trees_wrong, vertex_uncovered, all_pass}
use Rattle.filed.proofs.check.check_trees.Goals as goal

pub returns-then-not-trees_right : goal.returns-then-not-trees_right
returns-then-not-trees_right c =
    let g : Graph = c.args.g.now in
    trees_wrong g c.args.c.now (sym c.trees_right.ensures.is ∙ not-true c.trees_right.result c.if-not-trees_right.true-raw)

pub returns-then-not-vertices_covered : goal.returns-then-not-vertices_covered
returns-then-not-vertices_covered c =
    let g : Graph = c.args.g.now in
    let trees_pass : trees_right g (decode c.args.c.now) ≡ true = sym c.trees_right.ensures.is ∙ not-false c.trees_right.result c.if-not-trees_right.false-raw in
    vertex_uncovered g c.args.c.now trees_pass (sym c.vertices_covered.ensures ∙ not-true c.vertices_covered.result c.if-not-vertices_covered.true-raw)

pub returns : goal.returns
returns c =
    let g : Graph = c.args.g.now in
    let trees_pass : trees_right g (decode c.args.c.now) ≡ true = sym c.trees_right.ensures.is ∙ not-false c.trees_right.result c.if-not-trees_right.false-raw in
    ap reply.yes c.heaviest_tree.ensures
    ∙ all_pass g c.args.c.now trees_pass (sym c.vertices_covered.ensures ∙ not-false c.vertices_covered.result c.if-not-vertices_covered.false-raw)
