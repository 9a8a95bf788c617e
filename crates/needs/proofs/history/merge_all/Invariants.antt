-- `needs::history::merge_all` meets its contract. The loop's invariant: the edges before i are merged and noted. Assumes nothing.
use Prim.Native.Nat.{◌+◌}
use lib.ListN.{length}
use Rattle.graph.specs.Bytes.{graph_of}
use Rattle.needs.proofs.HistoryRecorded.{Recorded, Sizes}
use Rattle.needs.proofs.history.merge_all.Given as goal

abbrev pub invariant-loop-i : goal.invariant-loop-i
invariant-loop-i l =
    record {
      recorded : Recorded l.g l.kept l.i l.label l.made l.total l.until;
      sizes :
          Sizes l.g.vertices (length l.kept + 1) l.initial.label l.initial.made l.initial.total
          l.initial.until l.label l.made l.total l.until;
    }
