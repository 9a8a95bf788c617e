-- `needs::history::needed_by_history` meets its contract. The loop's invariant: the merges before i are summed. Assumes nothing.
use Rattle.needs.proofs.HistoryRead.{Reading}
use Rattle.needs.proofs.history.needed_by_history.Given as goal

abbrev pub invariant-loop-i : goal.invariant-loop-i
invariant-loop-i l = Reading l.n l.merges.total.now l.merges.until.now l.light l.limit l.i l.sum
