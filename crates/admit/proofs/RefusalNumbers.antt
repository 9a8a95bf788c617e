-- The number of every cause is at least 11, so that it tells a refusal from an answer.
-- Assumes nothing.
use Prim.Native.Nat.{◌≤◌}
use native.Mathlib.Omega.{arith}
use Rattle.graph_check.specs.declared.Cause.TheVariants as cause
use Rattle.admit.specs.declared.refusal.Refusal.{Refusal}
use Rattle.admit.specs.declared.refusal.Refusal.TheVariants.{Sheet, Classes, Adjusted, Crews, Vans, Limit, Room, Trials, Length, Starts, Entries, Trees, Vertices, TreeNumber, WalkRoom}
use Rattle.admit.specs.Refusals.{number_of}

pub numbers_begin : (f : Refusal) → 11 ≤ number_of f
numbers_begin (Sheet cause.Length) = omega arith
numbers_begin (Sheet cause.Vertices) = omega arith
numbers_begin (Sheet cause.Edges) = omega arith
numbers_begin (Sheet cause.End) = omega arith
numbers_begin (Sheet cause.Loop) = omega arith
numbers_begin (Sheet cause.Weight) = omega arith
numbers_begin Classes = omega arith
numbers_begin Adjusted = omega arith
numbers_begin Crews = omega arith
numbers_begin Vans = omega arith
numbers_begin Limit = omega arith
numbers_begin Room = omega arith
numbers_begin Trials = omega arith
numbers_begin Length = omega arith
numbers_begin Starts = omega arith
numbers_begin Entries = omega arith
numbers_begin Trees = omega arith
numbers_begin Vertices = omega arith
numbers_begin TreeNumber = omega arith
numbers_begin WalkRoom = omega arith
