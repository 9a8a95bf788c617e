-- What the labels of edges show: the lowest vertex of each component.
-- Assumes nothing.
use Prim.Native.Nat.{ℕ}
use mathlib.Core.Path.{◌≡◌, refl, ap, ◌∙◌}
use mathlib.Core.List.{List, []}
use Rattle.lists.specs.Put.{PutTo}
use Rattle.graph.specs.Graph.{Graph}
use Rattle.rules.specs.Labels.{apart, merge_all}
use Rattle.rules.specs.Forest.{lowest}
use Rattle.forest_laws.proofs.Roots.{together_none}
use Rattle.forest_laws.proofs.Forest.{forest_merges}
use Rattle.forest.specs.Arrays.{Agrees}
use Rattle.forest.specs.Lowest.{Components}
use Rattle.pieces.specs.Whole.{EdgesLabelled}
use Rattle.needs.specs.Roots.{RootsWritten}

-- The labels that edges make where all vertices begin apart.
module _ {g : Graph} {edges label₀ array : List ℕ} (l : EdgesLabelled g [] edges label₀ array) where
  labels_made : Agrees g.vertices array (merge_all g apart edges)
  labels_made = rw together_none at l.labels

  -- They show the lowest vertex of each component.
  pub roots_written : {n : ℕ} {before after : List ℕ} {r : ℕ} → n ≡ g.vertices → Components array n before after r → RootsWritten g edges before after r
  roots_written {before = before} {after = after} {r = r} count c =
      let all : Components array g.vertices before after r = rw count at c in
      let are : PutTo 0 (lowest g (merge_all g apart edges)) before after r = all.are g (merge_all g apart edges) refl labels_made in
      record {
        few = all.few;
        are = are;
        at_limit = λ limit q. rw (ap (merge_all g apart) q ∙ forest_merges g apart limit) at are;
      }
