-- `filed::check::check_filed` meets its contract: at each return the tests that led there say what the definition gives. Assumes nothing.
use mathlib.Core.Path.{◌≡◌, sym, ap, ◌∙◌}
use mathlib.Core.Bool.{true}
use native.Mathlib.Omega.{arith}
use borrow.Author.Tests.{not-true, not-false}
use Rattle.graph.specs.Graph.{Graph, edge_count}
use Rattle.rules.specs.Cover.{Crews}
use Rattle.rules.specs.CheckCover.{starts_right, starts_below, entries_right}
use Rattle.rules.specs.Questions.{crews_in}
use Rattle.filed.proofs.CheckSteps.{short_cover, other_length, other_starts, starts_above, entries_wrong, entries_pass}
use Rattle.filed.proofs.check.check_filed.Goals as goal

pub returns-then-c-lt4 : goal.returns-then-c-lt4
returns-then-c-lt4 c =
    let g : Graph = c.args.g.now in
    let crews : Crews = crews_in c.args.question.now in
    short_cover g crews c.args.c.now (omega arith)

pub returns-then-c-cover_length : goal.returns-then-c-cover_length
returns-then-c-cover_length c =
    let g : Graph = c.args.g.now in
    let crews : Crews = crews_in c.args.question.now in
    other_length g crews c.args.c.now (omega arith) (omega arith)

pub returns-then-not-starts_right : goal.returns-then-not-starts_right
returns-then-not-starts_right c =
    let g : Graph = c.args.g.now in
    let crews : Crews = crews_in c.args.question.now in
    other_starts g crews c.args.c.now (omega arith) (omega arith)
    (sym c.starts_right.ensures ∙ not-true c.starts_right.result c.if-not-starts_right.true-raw)

pub returns-then-not-starts_below : goal.returns-then-not-starts_below
returns-then-not-starts_below c =
    let g : Graph = c.args.g.now in
    let crews : Crews = crews_in c.args.question.now in
    let starts_right_passed : starts_right crews c.args.c.now ≡ true = sym c.starts_right.ensures ∙ not-false c.starts_right.result c.if-not-starts_right.false-raw in
    starts_above g crews c.args.c.now (omega arith) (omega arith) starts_right_passed
    (ap (λ n. starts_below n c.args.c.now) (sym c.vertex_count.ensures.is)
    ∙ sym c.starts_below.ensures ∙ not-true c.starts_below.result c.if-not-starts_below.true-raw)

pub returns-then-not-entries_right : goal.returns-then-not-entries_right
returns-then-not-entries_right c =
    let g : Graph = c.args.g.now in
    let crews : Crews = crews_in c.args.question.now in
    let starts_right_passed : starts_right crews c.args.c.now ≡ true = sym c.starts_right.ensures ∙ not-false c.starts_right.result c.if-not-starts_right.false-raw in
    let starts_below_passed : starts_below g.vertices c.args.c.now ≡ true = ap (λ n. starts_below n c.args.c.now) (sym c.vertex_count.ensures.is)
    ∙ sym c.starts_below.ensures ∙ not-false c.starts_below.result c.if-not-starts_below.false-raw in
    entries_wrong g crews c.args.c.now (omega (arith, c.if-c-lt4.false)) (omega (arith, c.if-c-cover_length.false, c.cover_length.ensures)) starts_right_passed starts_below_passed
    (ap (λ m. entries_right m c.args.c.now) (sym c.edge_count.ensures.is)
    ∙ sym c.entries_right.ensures ∙ not-true c.entries_right.result c.if-not-entries_right.true-raw)

pub check_trees-requires : goal.check_trees-requires
check_trees-requires c =
    let g : Graph = c.args.g.now in
    let starts_below_passed : starts_below g.vertices c.args.c.now ≡ true = ap (λ n. starts_below n c.args.c.now) (sym c.vertex_count.ensures.is)
    ∙ sym c.starts_below.ensures ∙ not-false c.starts_below.result c.if-not-starts_below.false-raw in
    let entries_passed : entries_right (edge_count g) c.args.c.now ≡ true = ap (λ m. entries_right m c.args.c.now) (sym c.edge_count.ensures.is)
    ∙ sym c.entries_right.ensures ∙ not-false c.entries_right.result c.if-not-entries_right.false-raw in
    record { valid = c.requires; starts = starts_below_passed; entries = entries_passed }

pub returns : goal.returns
returns c =
    let g : Graph = c.args.g.now in
    let crews : Crews = crews_in c.args.question.now in
    let starts_right_passed : starts_right crews c.args.c.now ≡ true = sym c.starts_right.ensures ∙ not-false c.starts_right.result c.if-not-starts_right.false-raw in
    let starts_below_passed : starts_below g.vertices c.args.c.now ≡ true = ap (λ n. starts_below n c.args.c.now) (sym c.vertex_count.ensures.is)
    ∙ sym c.starts_below.ensures ∙ not-false c.starts_below.result c.if-not-starts_below.false-raw in
    let entries_passed : entries_right (edge_count g) c.args.c.now ≡ true = ap (λ m. entries_right m c.args.c.now) (sym c.edge_count.ensures.is)
    ∙ sym c.entries_right.ensures ∙ not-false c.entries_right.result c.if-not-entries_right.false-raw in
    c.check_trees.ensures
    ∙ entries_pass g crews c.args.c.now (omega arith) (omega arith) starts_right_passed starts_below_passed entries_passed
