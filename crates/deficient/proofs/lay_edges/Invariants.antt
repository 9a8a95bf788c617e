-- `deficient::lay_edges` meets its contract. The loop's invariant: the edges of the pieces before i are laid, and those left fit.
-- Assumes nothing.
use Prim.Native.Nat.{◌+◌}
use mathlib.Core.Path.{◌≡◌}
use lib.ListN.{length, get_or, drop}
use Rattle.lists.specs.Put.{OnlyFirst}
use Rattle.lists.specs.Segments.{segment}
use Rattle.lists.specs.Sort.{rise}
use Rattle.pieces.specs.Pieces.{Laid}
use Rattle.deficient.specs.TooLowParts.{edges_of}
use Rattle.deficient.proofs.lay_edges.Given as goal

abbrev pub invariant-loop-i : goal.invariant-loop-i
invariant-loop-i l =
    record {
      left : l.at + edges_of l.cuts l.members (drop l.i l.chosen) ≡ edges_of l.cuts l.members l.chosen;
      laid : Laid (λ h. rise (segment l.cuts l.members (get_or l.chosen h 0))) l.i l.at l.bounds l.edges;
      bounds-size : length l.bounds ≡ length l.initial.bounds;
      edges-size : length l.edges ≡ length l.initial.edges;
      bounds_rest : OnlyFirst (length l.chosen + 1) l.initial.bounds l.bounds;
      edges_rest : OnlyFirst (edges_of l.cuts l.members l.chosen) l.initial.edges l.edges;
    }
