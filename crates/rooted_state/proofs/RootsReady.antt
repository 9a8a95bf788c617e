-- The roots of a trial are vertices, and what a trial asks has the distances from them ready.
-- Assumes nothing.
use Prim.Native.Nat.{ℕ, ◌<◌}
use mathlib.Core.List.{List}
use Rattle.lists.specs.Member.{◌∈◌}
use Rattle.lists.proofs.Places.{place_of}
use Rattle.graph.specs.Graph.{Graph}
use Rattle.rooted_state.specs.Prepared.{RootsGiven, LimitReady, TrialAsked}

pub roots_inside : {g : Graph} {roots : List ℕ} → RootsGiven g roots → (r : ℕ) → r ∈ roots → r < g.vertices
roots_inside given r m = let (j, h, q) = place_of 0 m in rw q at (given.inside j h)

pub limit_ready : {g : Graph} {roots : List ℕ} {limit : ℕ} {kept distances : List ℕ} → TrialAsked g roots limit kept distances → LimitReady g roots limit distances
limit_ready a = record { given = a.decidable.given; distances_are = a.decidable.distances_are; limit_most = a.limit_most }
