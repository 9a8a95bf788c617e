-- `filed::trees::tree_right` meets its contract: nothing is joined, the run's edges are taken, and each is held against the start.
-- Assumes nothing.
use mathlib.Core.Path.{◌≡◌, ◌∙◌}
use native.Mathlib.Omega.{arith}
use lib.ListN.{length}
use borrow.Author.Tests.{not-true, not-false}
use Rattle.graph.specs.Graph.{Graph}
use Rattle.filed.proofs.JoinedByParents.{apart_parents, apart_spells}
use Rattle.filed.proofs.TreeTests.{tree_loop, tree_joined}
use borrow.Author.Rules.{rules}
use Rattle.filed.proofs.trees.tree_right.Goals as goal

pub run_loop_free-requires : goal.run_loop_free-requires
run_loop_free-requires c =
    let room : length c.set_apart.new.parents ≡ 256 = c.set_apart.auto.parents ∙ c.requires.room in
    (c.requires.forward, record { valid = c.requires.valid; parented = apart_parents room c.set_apart.ensures })

pub returns-then-not-run_loop_free : goal.returns-then-not-run_loop_free
returns-then-not-run_loop_free c =
    let g : Graph = c.args.g.now in
    let room : length c.set_apart.new.parents ≡ 256 = c.set_apart.auto.parents ∙ c.requires.room in
    record {
      is =
          tree_loop g c.args.c.now c.args.j c.args.from c.args.to (apart_spells room c.set_apart.ensures) c.run_loop_free.ensures
          (not-true c.run_loop_free.result c.if-not-run_loop_free.true-raw);
      parents_scratch = (search rules);
    }

pub run_joined-requires : goal.run_joined-requires
run_joined-requires c = (omega (arith, c.start_in.ensures.is, c.requires.start), record { valid = c.requires.valid; parented = c.run_loop_free.ensures.parents })

pub returns : goal.returns
returns c =
    let g : Graph = c.args.g.now in
    let room : length c.set_apart.new.parents ≡ 256 = c.set_apart.auto.parents ∙ c.requires.room in
    record {
      is =
          tree_joined g c.args.c.now c.args.j c.args.from c.args.to (apart_spells room c.set_apart.ensures) c.run_loop_free.ensures
          (not-false c.run_loop_free.result c.if-not-run_loop_free.false-raw) (rw c.start_in.ensures.is at c.run_joined.ensures);
      parents_scratch = (search rules);
    }
