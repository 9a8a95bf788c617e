-- `graph::surface::percent` meets its contract: its arms are the definition's.
-- Assumes nothing.
use Prim.Native.Nat.{ℕ}
use native.Mathlib.Omega.{arith}
use borrow.Author.Tests.{le-leb, lt-leb}
use Rattle.graph.specs.Surface.{percent_of}
use Rattle.graph.proofs.surface.percent.Goals as goal

pub returns-in-0-to-9 : goal.returns-in-0-to-9
unfolding percent_of
returns-in-0-to-9 c = let x : ℕ = c.args.class in simp (le-leb x 9 (omega arith))

pub returns-in-10-to-19 : goal.returns-in-10-to-19
unfolding percent_of
returns-in-10-to-19 c = let x : ℕ = c.args.class in simp (lt-leb x 9 (omega arith), le-leb x 19 (omega arith))

pub returns-in-20-to-39 : goal.returns-in-20-to-39
unfolding percent_of
returns-in-20-to-39 c =
    let x : ℕ = c.args.class in
    simp (lt-leb x 9 (omega arith), lt-leb x 19 (omega arith), le-leb x 39 (omega arith))

pub returns-in-40-to-59 : goal.returns-in-40-to-59
unfolding percent_of
returns-in-40-to-59 c =
    let x : ℕ = c.args.class in
    simp (lt-leb x 9 (omega arith), lt-leb x 19 (omega arith), lt-leb x 39 (omega arith), le-leb x 59 (omega arith))

pub returns-in_default : goal.returns-in_default
unfolding percent_of
returns-in_default c =
    let x : ℕ = c.args.class in
    simp (lt-leb x 9 (omega arith), lt-leb x 19 (omega arith), lt-leb x 39 (omega arith), lt-leb x 59 (omega arith))
