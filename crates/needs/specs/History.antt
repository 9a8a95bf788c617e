-- The history of merges of the whole forest's edges, recorded once a question: at any limit one pass over it tells what the components need
-- (document 01, step 7), and no edge is read or merged again.
-- Merges are numbered from 1. Of merge i, `total` has the weight of the tree that it completes, and `until` the number of the merge that takes this
-- tree up, or 256 where none does. Number 0 stands for "no merge yet", a tree without edges, which weighs 0.
-- Assumes nothing.
use Rattle.std.specs.Prelude.{ℕ, ◌+◌, ◌-◌, ◌*◌, ◌/◌, ◌^◌, ◌≤◌, ◌<◌, ◌≡◌, cond, List, length, get_or, take, set, ltb}
use Rattle.lists.specs.Count.{below}
use Rattle.lists.specs.Lists.{sum_of}
use Rattle.lists.specs.Put.{OnlyFirst}
use Rattle.graph.specs.Graph.{Graph, one_end, other_end, weight_of}
use Rattle.rules.specs.Labels.{Labels, apart, merge_edge}
use Rattle.rules.specs.Forest.{forest}
use Rattle.rules.specs.UnrootedTrial.{needed}
use Rattle.forest.specs.Arrays.{Agrees}
use Rattle.forest.specs.Keeping.{Labelable}
use Rattle.needs.specs.Given.{ForestKept}

-- A value of the tree that merge i completes, where it is there after `light` merges: no merge up to that one took it up.
abbrev pub value_at : (ℕ → ℕ) → (ℕ → ℕ) → (ℕ → ℕ) → ℕ → ℕ → ℕ
value_at φ total until light i = cond (ltb light (until i)) (φ (total i)) 0

-- How many trees the components need by the history, where the first `light` edges are within the limit: n - light components are there, and of
-- those with edges each needs one more for each 2 B that its tree weighs. (A number divided by 0 is 0.)
abbrev pub needed_by : ℕ → List ℕ → List ℕ → ℕ → ℕ → ℕ
needed_by n total until light limit = n - light + sum_of (value_at (λ w. w / (2 * limit)) (λ i. get_or total i 0) (λ i. get_or until i 0) light) (below (light + 1))

-- The history of a whole forest: where the first `light` of its edges are the forest at a limit, it tells "the sum C" there. No tree in it weighs more
-- than 256 edges can.
pub record HistoryKept (g : Graph) (kept total until : List ℕ) : Type 0 where
  pub total_room : length kept < length total
  pub until_room : length kept < length until
  pub small : (i : ℕ) → i ≤ length kept → get_or total i 0 ≤ 256000000
  pub needs : (limit light : ℕ) → light ≤ length kept → take light kept ≡ forest g apart limit → needed_by g.vertices total until light limit ≡ needed g limit

-- It was recorded, in the places of the merges and of "no merge yet"; what stands behind them is as it came.
pub record HistoryWritten (g : Graph) (kept total total_after until until_after : List ℕ) : Type 0 where
  pub history : HistoryKept g kept total_after until_after
  pub total_rest : OnlyFirst (length kept + 1) total total_after
  pub until_rest : OnlyFirst (length kept + 1) until until_after

-- A merge that is to be noted: of the components whose labels are a and c, by an edge of weight w. There is room, and the weights are not too large.
pub record NoteAsked (a c w number : ℕ) (made total until : List ℕ) : Type 0 where
  pub one_label : a < length made
  pub other_label : c < length made
  pub total_room : number < length total
  pub until_room : number < length until
  pub one_before : get_or made a 0 < number
  pub other_before : get_or made c 0 < number
  pub few : number < 256
  pub fits : w + (get_or total (get_or made a 0) 0 + get_or total (get_or made c 0) 0) < 2 ^ 64

-- It was noted: what it completes weighs the edge and what the two weighed, both are taken up by it, and it is not taken up.
pub record MergeNoted (a c w number : ℕ) (made₀ made₁ total₀ total₁ until₀ until₁ : List ℕ) : Type 0 where
  pub made_is : made₁ ≡ set made₀ a number
  pub total_is : total₁ ≡ set total₀ number (w + (get_or total₀ (get_or made₀ a 0) 0 + get_or total₀ (get_or made₀ c 0) 0))
  pub until_is : until₁ ≡ set (set (set until₀ (get_or made₀ a 0) number) (get_or made₀ c 0) number) number 256

-- An edge that is to be merged and noted,
pub record EdgeAsked (g : Graph) (e number : ℕ) (label made total until : List ℕ) : Type 0 where
  pub labelable : Labelable g label
  pub note : NoteAsked (get_or label (one_end g e) 0) (get_or label (other_end g e) 0) (weight_of g e) number made total until

-- and was.
pub record EdgeMerged (g : Graph) (e number : ℕ) (label₀ label₁ made₀ made₁ total₀ total₁ until₀ until₁ : List ℕ) : Type 0 where
  pub noted : MergeNoted (get_or label₀ (one_end g e) 0) (get_or label₀ (other_end g e) 0) (weight_of g e) number made₀ made₁ total₀ total₁ until₀ until₁
  pub joined : (label : Labels) → Agrees g.vertices label₀ label → Agrees g.vertices label₁ (merge_edge g label e)
  pub label_rest : OnlyFirst g.vertices label₀ label₁

-- What the history asks: a whole forest without roots, and room for 256 numbers.
pub record HistoryAsked (g : Graph) (kept total until : List ℕ) : Type 0 where
  pub forest_kept : ForestKept g kept
  pub total_most : 256 ≤ length total
  pub until_most : 256 ≤ length until

-- The same at its start: all vertices are apart, and no merge was noted.
pub record MergesAsked (g : Graph) (kept label made total until : List ℕ) : Type 0 where
  pub history : HistoryAsked g kept total until
  pub labels_room : g.vertices ≤ length label
  pub labels : Agrees g.vertices label apart
  pub made_room : g.vertices ≤ length made
  pub made_none : (v : ℕ) → get_or made v 0 ≡ 0
  pub none : get_or total 0 0 ≡ 0

-- At its end: it was recorded, and of labels and merges no more changed than those of the vertices.
pub record AllMerged (g : Graph) (kept label label_after made Made-after total total_after until until_after : List ℕ) : Type 0 where
  pub written : HistoryWritten g kept total total_after until until_after
  pub label_rest : OnlyFirst g.vertices label label_after
  pub made_rest : OnlyFirst g.vertices made Made-after

-- What reading it asks: the first `light` merges are there, and neither they nor the vertices are too many or too heavy.
pub record ReadAsked (n : ℕ) (total until : List ℕ) (light : ℕ) : Type 0 where
  pub vertices_most : n ≤ 256
  pub light_few : light ≤ n
  pub total_room : light < length total
  pub until_room : light < length until
  pub small : (i : ℕ) → i ≤ light → get_or total i 0 ≤ 256000000
