-- `closed_walk::walk::walk_tree` meets its contract: the run of the tree's entries is read, and its walk is written. Assumes nothing.
use mathlib.Core.Path.{◌≡◌, sym, ap, ◌∙◌}
use native.Mathlib.Omega.{arith}
use lib.ListN.{length}
use Rattle.lists.proofs.Put.{put_count, put_taken}
use Rattle.graph.specs.Bytes.{graph_of}
use Rattle.rules.specs.Walk.{total_weight}
use Rattle.cover.specs.Runs.{run_edges, RunOf}
use Rattle.closed_walk.specs.Run.{FirstOf}
use Rattle.closed_walk.specs.Checked.{TreeAsked}
use Rattle.closed_walk.proofs.OneRun.{run_length}
use Rattle.closed_walk.proofs.TreeWalks.{run_few, weight_few, write_asked, tree_walked}
use Rattle.closed_walk.proofs.walk.walk_tree.Goals as goal

pub read_run-q-requires : goal.read_run-q-requires
read_run-q-requires c = (c.run_end-to.ensures.run, run_few c.requires c.run_begin-from.ensures c.run_end-to.ensures)

pub slice_bounds-edges-end : goal.slice_bounds-edges-end
slice_bounds-edges-end c = sym (ap length (put_taken c.read_run-q.ensures) ∙ sym (put_count c.read_run-q.ensures))

pub write_walk-written-requires : goal.write_walk-written-requires
write_walk-written-requires c =
    let asked : TreeAsked c.args.g.now c.args.c.now c.args.tree (length c.args.buf.now) = c.requires in
    let began : FirstOf c.args.c.now c.args.tree c.run_begin-from.result = c.run_begin-from.ensures in
    let ended : RunOf c.args.c.now c.args.tree c.run_begin-from.result c.run_end-to.result = c.run_end-to.ensures in
    rw (c.start_in.ensures.is, put_taken c.read_run-q.ensures) (write_asked asked began ended)

pub edges_weight-length-requires : goal.edges_weight-length-requires
edges_weight-length-requires c =
    let asked : TreeAsked c.args.g.now c.args.c.now c.args.tree (length c.args.buf.now) = c.requires in
    let began : FirstOf c.args.c.now c.args.tree c.run_begin-from.result = c.run_begin-from.ensures in
    let ended : RunOf c.args.c.now c.args.tree c.run_begin-from.result c.run_end-to.result = c.run_end-to.ensures in
    rw (put_taken c.read_run-q.ensures) (omega (arith, run_length c.args.c.now c.run_begin-from.result c.run_end-to.result, run_few asked began ended))

pub overflow_mul-length : goal.overflow_mul-length
overflow_mul-length c =
    let weighed : c.edges_weight-length.result ≡ total_weight c.args.g.now (run_edges c.args.c.now c.run_begin-from.result c.run_end-to.result) = rw (put_taken c.read_run-q.ensures) at c.edges_weight-length.ensures in
    let asked : TreeAsked c.args.g.now c.args.c.now c.args.tree (length c.args.buf.now) = c.requires in
    let began : FirstOf c.args.c.now c.args.tree c.run_begin-from.result = c.run_begin-from.ensures in
    let ended : RunOf c.args.c.now c.args.tree c.run_begin-from.result c.run_end-to.result = c.run_end-to.ensures in
    omega (arith, weighed, weight_few asked began ended)

pub returns : goal.returns
returns c =
    let asked : TreeAsked c.args.g.now c.args.c.now c.args.tree (length c.args.buf.now) = c.requires in
    let began : FirstOf c.args.c.now c.args.tree c.run_begin-from.result = c.run_begin-from.ensures in
    let ended : RunOf c.args.c.now c.args.tree c.run_begin-from.result c.run_end-to.result = c.run_end-to.ensures in
    let weighed : c.edges_weight-length.result ≡ total_weight c.args.g.now (run_edges c.args.c.now c.run_begin-from.result c.run_end-to.result) = rw (put_taken c.read_run-q.ensures) at c.edges_weight-length.ensures in
    tree_walked asked began ended (rw (c.start_in.ensures.is, put_taken c.read_run-q.ensures) at c.write_walk-written.ensures) weighed
