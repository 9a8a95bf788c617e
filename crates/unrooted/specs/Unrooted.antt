-- The trial at a limit for crews without roots (document 01, a "roving" trial): what its steps ask and promise.
-- Assumes nothing.
use Rattle.std.specs.Prelude.{ℕ, ◌+◌, ◌*◌, ◌≤◌, ◌<◌, ◌≡◌, List, map, length, take}
use Rattle.lists.specs.Count.{below}
use Rattle.lists.specs.Put.{Put, OnlyFirst}
use Rattle.lists.specs.Sort.{rise, sort_by}
use Rattle.graph.specs.Graph.{Graph}
use Rattle.rules.specs.Cover.{heaviest}
use Rattle.rules.specs.CoverBytes.{encode}
use Rattle.rules.specs.Held.{trees_at, risen}
use Rattle.rules.specs.Labels.{apart}
use Rattle.rules.specs.Forest.{forest, labels_at, lowest}
use Rattle.rules.specs.Split as rules
use Rattle.rules.specs.UnrootedTrial.{components, needed, unrooted_trees}
use Rattle.rules.specs.Questions.{least_room, most_limit}
use Rattle.split.specs.Pieces.{pieces_of, left_places}
use Rattle.needs.specs.Given.{ForestGiven}
use Rattle.pieces.specs.Chosen.{by_key}
use Rattle.unrooted_pieces.specs.Components.{PiecesGiven, SegmentsRisen, LowestSet, Keyed}
use Rattle.unrooted_pieces.specs.TreePlaces.{tree_places, PlacesAsked}
use Rattle.unrooted.specs.declared.unrooted.Split.{Split}
use Rattle.unrooted.specs.declared.unrooted.Written.{Written}

-- The forest at the limit, and room for the pieces of any.
pub record SplitAsked (g : Graph) (edges : List ℕ) (limit : ℕ) (starts cuts members lefts : List ℕ) : Type 0 where
  pub forest_given : ForestGiven g edges limit
  pub limit_most : limit ≤ most_limit
  pub starts_room : 512 ≤ length starts
  pub cuts_room : 512 < length cuts
  pub members_room : 256 ≤ length members
  pub lefts_room : 256 ≤ length lefts

-- The arrays hold the pieces of the components' trees, and the number of each component's leftover. What stands behind them is as it came.
pub record ComponentsSplit (g : Graph) (limit : ℕ) (starts₀ starts cuts₀ cuts members₀ members lefts₀ lefts : List ℕ) (r : Split) : Type 0 where
  pub pieces_are : map risen (trees_at starts cuts members (below r.pieces)) ≡ pieces_of g (2 * limit) (rise (forest g apart limit)) (lowest g (labels_at g apart limit))
  pub lefts_are : take r.roots lefts ≡ left_places 0 (map (rules.split g (2 * limit)) (components g limit))
  pub roots_room : r.roots ≤ length lefts
  pub given : PiecesGiven starts cuts members r.pieces
  pub few : r.pieces ≤ 512
  pub starts_rest : OnlyFirst r.pieces starts₀ starts
  pub cuts_rest : OnlyFirst (r.pieces + 1) cuts₀ cuts
  pub members_rest : OnlyFirst g.vertices members₀ members
  pub lefts_rest : OnlyFirst r.roots lefts₀ lefts

-- Pieces, and room for the numbers of those that are trees.
pub record OrderAsked (pieces : ℕ) (lefts starts cuts members chosen : List ℕ) : Type 0 where
  pub given : PiecesGiven starts cuts members pieces
  pub few : pieces ≤ 512
  pub places : PlacesAsked lefts cuts chosen

-- The edges of each piece rise, each starts at its lowest vertex, and the first t chosen are the pieces that are trees, by their keys.
-- What stands behind these is as it came.
pub record TreesOrdered (g : Graph) (pieces : ℕ) (lefts starts₀ starts₁ cuts members₀ flat₁ chosen₀ chosen : List ℕ) (t : ℕ) : Type 0 where
  pub rising : SegmentsRisen cuts pieces members₀ flat₁
  pub from_lowest : LowestSet g cuts flat₁ pieces starts₀ starts₁
  pub keys : List ℕ
  pub keyed : Keyed starts₁ cuts flat₁ pieces keys
  pub are : take t chosen ≡ sort_by (by_key keys) (tree_places cuts 0 lefts)
  pub count : t ≡ length (tree_places cuts 0 lefts)
  pub room : t ≤ length chosen
  pub chosen_rest : OnlyFirst t chosen₀ chosen

-- The forest at a limit whose components need at most 32 trees, and room for the bytes of any such cover.
pub record UnrootedTreesAsked (g : Graph) (edges : List ℕ) (limit : ℕ) (buf : List ℕ) : Type 0 where
  pub forest_given : ForestGiven g edges limit
  pub needs_few : needed g limit ≤ 32
  pub limit_most : limit ≤ most_limit
  pub room : least_room ≤ length buf

-- The bytes of the answer's trees were written, with everything behind them as it came; r says the weight of the heaviest and how many.
pub record TreesWritten (g : Graph) (limit : ℕ) (before after : List ℕ) (r : Written) : Type 0 where
  pub put : Put 0 (encode (unrooted_trees g limit)) before after
  pub heaviest_is : r.heaviest ≡ heaviest g (unrooted_trees g limit)
  pub trees_are : r.trees ≡ length (unrooted_trees g limit)
