-- The number of each cause of a refusal, and what the tests of a question refuse.
-- Assumes nothing.
use Rattle.std.specs.Prelude.{ℕ, Result, Ok, Err}
use Rattle.std.proofs.Math.Option.{some, none}
use Rattle.graph.specs.Fault.{Fault}
use Rattle.graph_check.specs.Check as sheet
use Rattle.admit.specs.declared.refusal.Refusal.{Refusal}
use Rattle.admit.specs.declared.refusal.Refusal.TheVariants.{Sheet, Classes, Adjusted, Crews, Vans, Limit, Room, Trials, Length, Starts, Entries, Trees, Vertices, TreeNumber, WalkRoom}

abbrev pub number_of : Refusal → ℕ
number_of (Sheet f) = sheet.number_of f
number_of Classes = 53
number_of Adjusted = 54
number_of Crews = 21
number_of Vans = 55
number_of Limit = 22
number_of Room = 23
number_of Trials = 56
number_of Length = 31
number_of Starts = 32
number_of Entries = 33
number_of Trees = 34
number_of Vertices = 35
number_of TreeNumber = 51
number_of WalkRoom = 52

abbrev pub fault_in : Result (Unit {0}) Refusal → Fault
fault_in (Err f) = some (number_of f)
fault_in (Ok _) = none
