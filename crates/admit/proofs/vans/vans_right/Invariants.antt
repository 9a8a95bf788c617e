-- `admit::vans::vans_right` meets its contract. The loop's invariant: every van before j is at a vertex.
-- Assumes nothing.
use Prim.Native.Nat.{ℕ, ◌*◌, ◌<◌}
use Rattle.graph.specs.Bytes.{u16_at}
use Rattle.admit.proofs.vans.vans_right.Given as goal

abbrev pub invariant-loop-j : goal.invariant-loop-j
invariant-loop-j l = (i : ℕ) → i < l.j → u16_at l.vans (2 * i) < l.n
