-- `rooted_cover::cover_trees::lay_trees` meets its contract. The loop's invariant: the trees of the roots before j are laid, of each no more
-- edges than there are vertices. Assumes nothing.
use Prim.Native.Nat.{◌+◌, ◌*◌, ◌≤◌}
use mathlib.Core.Path.{◌≡◌}
use lib.ListN.{length}
use Rattle.lists.specs.Put.{OnlyFirst}
use Rattle.graph.specs.Bytes.{graph_of}
use Rattle.rooted_state.specs.Placed.{arrays_of}
use Rattle.rooted_cover.specs.CoverTrees.{TreesLaid}
use Rattle.rooted_cover.proofs.cover_trees.lay_trees.Given as goal

abbrev pub invariant-loop-j : goal.invariant-loop-j
invariant-loop-j l =
    record {
      few : l.at ≤ l.j * l.g.vertices;
      laid : TreesLaid l.g l.table.distances.now l.table.lasts.now l.roots (arrays_of l.pieces.starts.now l.pieces.cuts.now l.pieces.members.now l.lefts l.places) l.assignment l.j l.at l.bounds l.edges;
      bounds-size : length l.bounds ≡ length l.initial.bounds;
      edges-size : length l.edges ≡ length l.initial.edges;
      bounds_rest : OnlyFirst (length l.roots + 1) l.initial.bounds l.bounds;
      edges_rest : OnlyFirst (length l.roots * l.g.vertices) l.initial.edges l.edges;
    }
