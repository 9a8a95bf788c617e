-- `distance::relax::relax_arcs` meets its contract. The loop's invariant: the arcs so far are relaxed, and whoever is nearer by them has a new key.
-- Assumes nothing.
use Prim.Native.Nat.{◌+◌}
use Rattle.waiting.specs.Waiting.{Blocks}
use Rattle.distance.specs.Relaxing.{Relaxed}
use Rattle.distance.proofs.ArcsRekeyed.{Rekeying}
use Rattle.distance.proofs.relax.relax_arcs.Given as goal

abbrev pub invariant-loop-a : goal.invariant-loop-a
invariant-loop-a l =
    record {
      done : Relaxed l.around.arcs.now l.from (l.from + l.a-index) l.u l.initial.dist l.initial.last l.dist l.last;
      rekeyed : Rekeying l.initial.dist l.initial.wait l.dist l.wait;
      blocks : Blocks l.wait l.low;
    }
