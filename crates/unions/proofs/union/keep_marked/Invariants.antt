-- `unions::union::keep_marked` meets its contract. The loop's invariant: the marked edges before the index are taken, and at most as many as are
-- left are marked behind them. Assumes nothing.
use Prim.Native.Nat.{◌-◌, ◌≤◌}
use Rattle.graph.specs.Bytes.{graph_of}
use Rattle.matching.specs.Assignment.{marked}
use Rattle.unions.proofs.MarkedKept.{KeepingMarked}
use Rattle.unions.proofs.union.keep_marked.Given as goal

abbrev pub invariant-loop-edge : goal.invariant-loop-edge
invariant-loop-edge l =
    record {
      keeping : KeepingMarked l.g (marked l.marks) l.list l.initial.label l.label l.initial.out l.out l.r l.edge-index (l.most - l.left);
      within : l.left ≤ l.most;
    }
