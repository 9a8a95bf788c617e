-- The steps of the trial without roots, put together: the pieces that are trees, each from its lowest vertex and in order, are the answer's
-- trees.
-- Assumes nothing.
use Prim.Native.Nat.{ℕ, ◌≤◌}
use mathlib.Core.Path.{◌≡◌, sym, ap, ◌∙◌}
use mathlib.Core.List.{List, ◌++◌}
use native.Mathlib.Omega.{arith}
use lib.ListN.{length, take, drop, length-append}
use lib.Seq.{take_at}
use Rattle.lists.specs.Put.{PutTo}
use Rattle.lists.specs.Sort.{sort_by}
use Rattle.lists.proofs.Put.{put_count, put_taken, put_fits, put_length, put_only_first}
use Rattle.lists.proofs.OnlyFirst.{only_first_on, only_front}
use Rattle.lists.proofs.Sorting.{sort_length}
use Rattle.graph.specs.Graph.{Graph}
use Rattle.pieces.specs.Chosen.{by_key}
use Rattle.unrooted_pieces.specs.Components.{PiecesGiven, SegmentsRisen, LowestSet, Keyed}
use Rattle.unrooted_pieces.specs.TreePlaces.{tree_places}
use Rattle.unrooted.specs.Unrooted.{TreesOrdered}

-- The same pieces, in arrays that are as long.
pub given_on : {starts other cuts members flat' : List ℕ} {k : ℕ} → PiecesGiven starts cuts members k → length flat' ≡ length members → k ≤ length other → PiecesGiven other cuts flat' k
given_on g q h =
    record {
      pieces =
          record {
            cut = g.pieces.cut;
            held = λ i l. record { forward = (g.pieces.held i l).forward; inside = omega (arith, (g.pieces.held i l).inside) };
          };
      starts_room = h;
    }

-- The steps that put the trees in order.
pub trees_ordered : {g : Graph} {pieces : ℕ} {lefts starts₀ starts₁ cuts members₀ flat₁ keys came mid last : List ℕ} {t : ℕ}
    → SegmentsRisen cuts pieces members₀ flat₁ → LowestSet g cuts flat₁ pieces starts₀ starts₁ → Keyed starts₁ cuts flat₁ pieces keys
    → PutTo 0 (tree_places cuts 0 lefts) came mid t → last ≡ sort_by (by_key keys) (take t mid)
    → TreesOrdered g pieces lefts starts₀ starts₁ cuts members₀ flat₁ came (last ++ drop t mid) t
trees_ordered {lefts = lefts} {cuts = cuts} {keys = keys} {mid = mid} {last = last} {t = t} risen low keyed put sorted =
    let places : List ℕ = tree_places cuts 0 lefts in
    let is : last ≡ sort_by (by_key keys) places = sorted ∙ ap (sort_by (by_key keys)) (put_taken put) in
    let size : length last ≡ t = ap length is ∙ sort_length (by_key keys) places ∙ sym (put_count put) in
    record {
      rising = risen;
      from_lowest = low;
      keys = keys;
      keyed = keyed;
      are = take_at last (drop t mid) t size ∙ is;
      count = put_count put;
      room = omega (arith, length-append last (drop t mid));
      chosen_rest = only_first_on (put_only_first put) (only_front t last mid size (omega (arith, put_fits put, put_length put.put)));
    }
