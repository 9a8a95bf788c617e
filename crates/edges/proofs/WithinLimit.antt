-- The edges within a limit: of edges that stand by weight they are the first, so that the place where they end is how many they are.
-- Assumes nothing.
use Prim.Native.Nat.{ℕ, ◌≤◌, ◌<◌}
use mathlib.Core.Path.{◌≡◌, sym}
use mathlib.Core.Bool.{true, false}
use mathlib.Core.List.{List}
use native.Mathlib.Omega.{arith}
use lib.ListN.{length, get_or}
use lib.Dec.{leb}
use Rattle.std.specs.List.Sorted.{IsPartitionedBy, IsPartitionPoint}
use Rattle.std.proofs.lemmas.List.Sorted.{IsNonDecreasingBy-from_default, IsPartitionedBy-leb}
use Rattle.lists.proofs.AfterStore.{at_or_not}
use Rattle.lists.proofs.FilteredFront.{filter_front}
use Rattle.lists.proofs.Places.{places_in_order}
use Rattle.graph.specs.Graph.{Graph, weight_of}
use Rattle.rules.specs.Order.{ByWeight}
use Rattle.edges.specs.Light.{LightFront}

module _ (g : Graph) (limit : ℕ) (edges : List ℕ) where
  -- No edge within the limit stands behind one that is not,
  pub light_before_heavy : ByWeight g edges → IsPartitionedBy (λ e. leb (weight_of g e) limit) edges
  light_before_heavy sorted = IsPartitionedBy-leb (weight_of g) edges limit (IsNonDecreasingBy-from_default (weight_of g) edges 0 no_heavier)
    where
      -- an edge weighs no more than the same or a later one
      no_heavier : (i j : ℕ) → i ≤ j → j < length edges → weight_of g (get_or edges i 0) ≤ weight_of g (get_or edges j 0)
      no_heavier i j h l =
          at_or_not (λ k. weight_of g (get_or edges k 0) ≤ weight_of g (get_or edges j 0)) j i (omega arith)
          (λ away. places_in_order 0 sorted i j (omega arith) l)

  -- and where those within the limit end, they are all that are.
  pub light_front : {r : ℕ} → r ≤ length edges → IsPartitionPoint (λ e. leb (weight_of g e) limit ≡ true) (λ e. leb (weight_of g e) limit ≡ false) edges r
      → LightFront g limit edges r
  light_front {r} few (light, heavy) =
      record {
        few = few;
        front = sym (filter_front 0 (λ e. leb (weight_of g e) limit) edges r (λ i h. light i 0 (omega arith) h) (λ i h l. heavy i 0 h l));
      }
