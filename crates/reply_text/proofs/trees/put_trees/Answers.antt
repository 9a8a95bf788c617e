-- `reply_text::trees::put_trees` meets its contract. The loop's invariant: the lines of the trees before j are written, and the entries of
-- tree j begin at `from`.
-- Assumes nothing.
use Prim.Native.Nat.{ℕ, ◌+◌, ◌≤◌, ◌<◌}
use mathlib.Core.Path.{◌≡◌, ap, ◌∙◌}
use mathlib.Core.Bool.{true}
use mathlib.Core.List.{List, ◌++◌}
use native.Mathlib.Omega.{arith}
use lib.ListN.{length}
use Rattle.lists.proofs.PutOneByOne.{so_far_none, so_far_on, so_far_all, so_far_room}
use Rattle.graph.specs.Graph.{Graph, edge_count}
use Rattle.rules.specs.CoverBytes.{trees_in}
use Rattle.rules.specs.CheckCover.{entries_right}
use Rattle.cover.specs.Runs.{RunOf, BeginsAt}
use Rattle.cover.proofs.TreeRuns.{begins_first, begins_next, tree_is_run}
use Rattle.reply_text.specs.Text.{tree_line, tree_lines}
use Rattle.reply_text.specs.Trees.{run_tree}
use Rattle.reply_text.proofs.TreeLines.{trees_from, trees_all, lines_next, lines_done}
use Rattle.reply_text.proofs.trees.put_trees.Goals as goal

-- The lines from tree j on are its line, and those of the trees behind it.
lines_from : (g : Graph) (c : List ℕ) {j from to : ℕ} → entries_right (edge_count g) c ≡ true → BeginsAt c j from → RunOf c j from to → j < trees_in c
    → tree_lines g (trees_from c j) ≡ tree_line g (run_tree c j from to) ++ tree_lines g (trees_from c (j + 1))
lines_from g c {j} right begins run h =
    lines_next c g j h ∙ ap (λ x. tree_line g x ++ tree_lines g (trees_from c (j + 1))) (tree_is_run c (edge_count g) right begins run)

pub loop-j-init : goal.loop-j-init
loop-j-init c =
    let g : Graph = c.args.g.now in
    let room : c.args.at + length (tree_lines g (trees_from c.args.c.now 0)) ≤ length c.args.out.now = rw (trees_all c.args.c.now) c.requires.fits in
    record {
      begins = begins_first c.args.c.now (edge_count g) c.requires.entries;
      room = room;
      putting = so_far_none c.args.out.now c.args.at (omega arith);
    }

pub put_tree-next-requires : goal.put_tree-next-requires
put_tree-next-requires c =
    let g : Graph = c.args.g.now in
    record {
      run = c.run_end-to.ensures.run;
      fits =
          so_far_room c.loop-j.invariant.putting _ _
          (lines_from g c.args.c.now c.requires.entries c.loop-j.invariant.begins c.run_end-to.ensures (omega arith))
          c.loop-j.invariant.room;
    }

pub loop-j-preserved : goal.loop-j-preserved
loop-j-preserved c =
    let g : Graph = c.args.g.now in
    record {
      begins = begins_next c.args.c.now (edge_count g) c.requires.entries c.loop-j.invariant.begins c.run_end-to.ensures;
      room = c.loop-j.invariant.room;
      putting =
          so_far_on c.loop-j.invariant.putting
          (lines_from g c.args.c.now c.requires.entries c.loop-j.invariant.begins c.run_end-to.ensures (omega arith))
          c.put_tree-next.ensures;
    }

pub returns : goal.returns
returns c =
    let g : Graph = c.args.g.now in
    rw (trees_all c.args.c.now) at (so_far_all c.loop-j.invariant.putting (lines_done c.args.c.now g c.loop-j.j (omega arith)))
