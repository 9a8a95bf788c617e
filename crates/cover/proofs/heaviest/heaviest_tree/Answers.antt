-- `cover::heaviest::heaviest_tree` meets its contract. The loop's invariant: `most` is the heaviest of the trees before j, and the entries of
-- tree j begin at `from`.
-- Assumes nothing.
use mathlib.Core.Path.{◌≡◌, ◌∙◌}
use native.Mathlib.Omega.{arith}
use Rattle.graph.specs.Graph.{Graph, edge_count}
use Rattle.graph.specs.Bytes.{graph_of}
use Rattle.rules.specs.CoverBytes.{start_in, tree_in}
use Rattle.cover.specs.Runs.{run_edges}
use Rattle.cover.proofs.TreeRuns.{begins_first, begins_next, tree_is_run}
use Rattle.cover.proofs.Weights.{heaviest_none, heaviest_next, heaviest_all}
use Rattle.cover.proofs.heaviest.heaviest_tree.Goals as goal

pub loop-j-init : goal.loop-j-init
loop-j-init c =
    let g : Graph = c.args.g.now in
    (begins_first c.args.c.now (edge_count g) c.requires.entries, heaviest_none g c.args.c.now)

pub loop-j-preserved : goal.loop-j-preserved
loop-j-preserved c =
    let g : Graph = c.args.g.now in
    let run_is_tree : tree_in c.args.c.now c.loop-j.j
    ≡ record { start = start_in c.args.c.now c.loop-j.j; edges = run_edges c.args.c.now c.loop-j.from c.run_end-to.result } = tree_is_run c.args.c.now (edge_count g) c.requires.entries c.loop-j.invariant.0 c.run_end-to.ensures in (
      begins_next c.args.c.now (edge_count g) c.requires.entries c.loop-j.invariant.0 c.run_end-to.ensures,
      c.max-most.ensures ∙ heaviest_next g c.args.c.now c.loop-j.j c.loop-j.from c.run_end-to.result run_is_tree
          c.loop-j.invariant.1 c.run_weight.ensures,
    )

pub returns : goal.returns
returns c =
    let g : Graph = c.args.g.now in
    c.loop-j.invariant.1 ∙ heaviest_all g c.args.c.now c.loop-j.j (omega arith)
