-- Arrays of zeros with a place for each vertex and each root are large enough to lend for the parts.
-- Assumes nothing.
use Prim.Native.Nat.{ℕ}
use mathlib.Core.List.{List}
use native.Mathlib.Nat.{mul_comm}
use native.Mathlib.Omega.{arith}
use lib.ListN.{length, replicate, length-replicate}
use Rattle.graph.specs.Graph.{Graph}
use Rattle.rooted_answer.specs.Answer.{JoinedLent, JoinedFits}

pub zeros_lent : {g : Graph} {roots : List ℕ} {limit : ℕ} {order bounds arcs distances lasts : List ℕ} {size room : ℕ}
    → JoinedFits g roots limit order bounds arcs distances lasts size room
    → JoinedLent g roots limit order bounds arcs distances lasts (replicate size 0) (length (replicate {A = ℕ} size 0)) room
zeros_lent {g} {roots} {size = size} a =
    let sized = length-replicate {A = ℕ} size 0 in
    record {
      asked = a.asked;
      rows_room = omega (arith, a.fits);
      edges_fit = omega (arith, a.fits, mul_comm (length roots) g.vertices);
    }
