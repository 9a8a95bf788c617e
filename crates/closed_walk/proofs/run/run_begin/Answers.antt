-- `closed_walk::run::run_begin` meets its contract. The loop's invariant: the entries before i name trees before j.
-- Assumes nothing.
use native.Mathlib.Omega.{arith}
use borrow.Author.Count.{below_more}
use Rattle.closed_walk.proofs.run.run_begin.Goals as goal

pub returns-then-j-entry_tree : goal.returns-then-j-entry_tree
returns-then-j-entry_tree c = record { inside = omega arith; lower = c.loop-i.invariant; not_lower = λ h. omega (arith, c.entry_tree.ensures.is) }

pub loop-i-preserved : goal.loop-i-preserved
loop-i-preserved c = below_more _ c.loop-i.i c.loop-i.invariant (omega (arith, c.entry_tree.ensures.is))

pub returns : goal.returns
returns c = record { inside = omega arith; lower = λ k h. c.loop-i.invariant k (omega arith); not_lower = λ h. absurd (omega arith) }
