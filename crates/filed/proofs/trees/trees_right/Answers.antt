-- `filed::trees::trees_right` meets its contract. The loop's invariant: every tree before j is right, and the entries of tree j begin at `from`.
-- Assumes nothing.
use mathlib.Core.Path.{◌≡◌, sym, ap, ◌∙◌}
use native.Mathlib.Omega.{arith}
use borrow.Author.Count.{below_none, below_more}
use borrow.Author.Tests.{not-true, not-false}
use Rattle.graph.specs.Graph.{edge_count}
use Rattle.rules.specs.Cover.{Tree}
use Rattle.rules.specs.CoverBytes.{tree_in}
use Rattle.rules.specs.CheckCover.{tree_right}
use Rattle.filed_entries.proofs.StartTests.{start_passed}
use Rattle.cover.proofs.TreeRuns.{begins_first, begins_next, tree_is_run}
use Rattle.filed.proofs.TreeTests.{tree_wrong, all_trees}
use Rattle.filed.proofs.trees.trees_right.Goals as goal

pub loop-j-init : goal.loop-j-init
loop-j-init c =
    (omega arith, begins_first c.args.c.now (edge_count c.args.g.now) c.requires.cover.entries, below_none _)

pub run_end-to-requires : goal.run_end-to-requires
run_end-to-requires c = c.loop-j.invariant.1.inside

pub tree_right-requires : goal.tree_right-requires
tree_right-requires c =
    record {
      valid = c.requires.cover.valid;
      room = c.loop-j.invariant.0 ∙ c.requires.room;
      start = start_passed c.args.c.now c.args.g.now.vertices c.requires.cover.starts c.loop-j.j (omega arith);
      forward = c.run_end-to.ensures.run.forward;
    }

pub returns-then-not-tree_right : goal.returns-then-not-tree_right
returns-then-not-tree_right c =
    let tested : c.tree_right.result ≡ tree_right c.args.g.now (tree_in c.args.c.now c.loop-j.j) = c.tree_right.ensures.is
    ∙ ap (λ (x : Tree). tree_right c.args.g.now x)
    (sym (tree_is_run c.args.c.now (edge_count c.args.g.now) c.requires.cover.entries c.loop-j.invariant.1 c.run_end-to.ensures)) in
    record {
      is = sym (tree_wrong c.args.g.now c.args.c.now c.loop-j.j (omega arith) (sym tested ∙ not-true c.tree_right.result c.if-not-tree_right.true-raw));
      parents_scratch = c.tree_right.auto.parents ∙ c.loop-j.invariant.0;
    }

pub loop-j-preserved : goal.loop-j-preserved
loop-j-preserved c =
    let tested : c.tree_right.result ≡ tree_right c.args.g.now (tree_in c.args.c.now c.loop-j.j) = c.tree_right.ensures.is
    ∙ ap (λ (x : Tree). tree_right c.args.g.now x)
    (sym (tree_is_run c.args.c.now (edge_count c.args.g.now) c.requires.cover.entries c.loop-j.invariant.1 c.run_end-to.ensures)) in (
      c.tree_right.auto.parents ∙ c.loop-j.invariant.0,
      begins_next c.args.c.now (edge_count c.args.g.now) c.requires.cover.entries c.loop-j.invariant.1 c.run_end-to.ensures,
      below_more _ c.loop-j.j c.loop-j.invariant.2 (sym tested ∙ not-false c.tree_right.result c.if-not-tree_right.false-raw),
    )

pub returns : goal.returns
returns c =
    record {
      is = sym (all_trees c.args.g.now c.args.c.now (λ k h. c.loop-j.invariant.2 k (omega arith)));
      parents_scratch = c.loop-j.invariant.0;
    }
