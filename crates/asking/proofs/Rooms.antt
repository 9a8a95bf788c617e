-- Arrays that are large enough for some graphs and crews are so for smaller ones; and which are small.
-- Assumes nothing.
use Prim.Native.Nat.{ℕ, ◌≤◌}
use mathlib.Core.Path.{◌≡◌}
use mathlib.Core.Bool.{false}
use native.Mathlib.Nat.{mul-le-mul}
use native.Mathlib.Omega.{arith}
use lib.Dec.{leb}
use borrow.Author.Tests.{leb-true}
use Rattle.graph.specs.Graph.{Graph, edge_count}
use Rattle.prepare.specs.Preparing.{SizeTold, RootedRoom}

pub room_for_fewer : {n m k N M K order kept bounds all arcs distances lasts : ℕ} → n ≤ N → m ≤ M → k ≤ K → RootedRoom N M K order kept bounds all arcs distances lasts
    → RootedRoom n m k order kept bounds all arcs distances lasts
room_for_fewer v e c r =
    record {
      order_room = omega (arith, r.order_room);
      kept_room = omega (arith, r.kept_room);
      bounds_room = omega (arith, r.bounds_room);
      all_room = omega (arith, r.all_room);
      arcs_room = omega (arith, r.arcs_room);
      spare_room = omega (arith, r.spare_room);
      distances_room = omega (arith, r.distances_room, mul-le-mul c v);
      lasts_room = omega (arith, r.lasts_room, mul-le-mul c v);
    }

-- A graph of few vertices and edges is small by the number of its crews.
pub told_small : {g : Graph} (k : ℕ) → g.vertices ≤ 64 → edge_count g ≤ 512 → SizeTold g k (leb k 8)
told_small k v e = record { small = λ q. record { vertices_few = v; edges_few = e; crews_few = leb-true k 8 q } }

pub told_large : {g : Graph} {k : ℕ} → SizeTold g k false
told_large = record { small = λ q. absurd (let z : ◌≡◌ {A = ℕ} 0 1 = cc in omega arith) }
