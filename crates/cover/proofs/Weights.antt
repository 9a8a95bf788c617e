-- The weights of lists of edges, edge by edge, and the heaviest of trees, tree by tree.
-- Assumes nothing.
use Prim.Native.Nat.{ℕ, ◌+◌, ◌≤◌, ◌<◌, max}
use mathlib.Core.Path.{◌≡◌, refl, sym, ap, ap₂, ◌∙◌}
use mathlib.Core.List.{List, [], ◌∷◌, ◌++◌, map}
use native.Mathlib.Omega.{arith}
use lib.ListN.{length, take, get_or}
use lib.Seq.{take_all}
use Rattle.lists.specs.Count as Count
use Rattle.lists.specs.Lists.{sum_of, largest}
use Rattle.lists.specs.Segments.{segment}
use Rattle.lists.proofs.Largest.{largest_more, largest_map}
use Rattle.lists.proofs.Numbered.{map_below_more}
use Rattle.lists.proofs.OneMore.{sum_more}
use Rattle.lists.proofs.TakeDrop.{take_more}
use Rattle.graph.specs.Graph.{Graph, weight_of}
use Rattle.rules.specs.Walk.{total_weight}
use Rattle.rules.specs.Cover.{tree_weight, heaviest}
use Rattle.rules.specs.CoverBytes.{trees_in, start_in, entry_edge, tree_in, decode}
use Rattle.rules.specs.Held.{tree_at, trees_at}
use Rattle.cover.specs.Chosen.{HeaviestChosen}
use Rattle.cover.specs.Runs.{run_edges}
use Rattle.cover.proofs.TreeRuns.{run_none, run_last}

module _ (g : Graph) where
  -- No edge weighs nothing, and one edge more adds its weight.
  pub nothing_weighs : 0 ≡ total_weight g []
  unfolding total_weight sum_of
  nothing_weighs = refl

  weight_more : (es : List ℕ) (e : ℕ) → total_weight g (es ++ (e ∷ [])) ≡ total_weight g es + weight_of g e
  unfolding total_weight
  weight_more es e = sum_more (weight_of g) es e

  -- So along a run of entries.
  module _ (c : List ℕ) where
    pub run_weight_none : (from : ℕ) → 0 ≡ total_weight g (run_edges c from from)
    run_weight_none from = nothing_weighs ∙ sym (ap (total_weight g) (run_none c from from (omega arith)))

    pub run_weight_next : (from i : ℕ) → from ≤ i → total_weight g (run_edges c from (i + 1)) ≡ total_weight g (run_edges c from i) + weight_of g (entry_edge c i)
    run_weight_next from i h = ap (total_weight g) (run_last c from i h) ∙ weight_more (run_edges c from i) (entry_edge c i)

  -- The heaviest of a cover's trees before j.
  module _ (c : List ℕ) where
    abbrev pub heaviest_before : ℕ → ℕ
    heaviest_before j = largest (tree_weight g) (map (tree_in c) (Count.below j))

    pub heaviest_none : 0 ≡ heaviest_before 0
    unfolding largest Count.below Count.from
    heaviest_none = refl

    -- A tree weighs what its run does.
    pub heaviest_next : (j from to : ℕ) → tree_in c j ≡ record { start = start_in c j; edges = run_edges c from to }
        → {most weight : ℕ} → most ≡ heaviest_before j → weight ≡ total_weight g (run_edges c from to) → max most weight ≡ heaviest_before (j + 1)
    unfolding tree_weight
    heaviest_next j from to q before run =
        ap₂ max before (run ∙ sym (ap (tree_weight g) q))
        ∙ sym (ap (largest (tree_weight g)) (map_below_more (tree_in c) (tree_in c) j (tree_in c j) (λ i h. refl) refl)
        ∙ largest_more (tree_weight g) (map (tree_in c) (Count.below j)) (tree_in c j))

    pub heaviest_all : (j : ℕ) → j ≡ trees_in c → heaviest_before j ≡ heaviest g (decode c)
    unfolding heaviest decode
    heaviest_all j q = ap heaviest_before q

  -- The heaviest of the first j trees that are chosen among those of arrays.
  module _ (bounds edges chosen : List ℕ) where
    -- the weight of tree c
    abbrev weight_at : ℕ → ℕ
    weight_at c = total_weight g (segment bounds edges c)

    unfoldable pub heaviest_of_first : ℕ → ℕ
    heaviest_of_first j = largest weight_at (take j chosen)

    pub chosen_none : 0 ≡ heaviest_of_first 0
    unfolding largest heaviest_of_first
    chosen_none = refl

    pub chosen_next : (j : ℕ) → j < length chosen → max (heaviest_of_first j) (total_weight g (segment bounds edges (get_or chosen j 0))) ≡ heaviest_of_first (j + 1)
    unfolding heaviest_of_first
    chosen_next j h = sym (ap (largest weight_at) (take_more 0 chosen j h) ∙ largest_more weight_at (take j chosen) (get_or chosen j 0))

    pub chosen_all : (j : ℕ) {r : ℕ} → length chosen ≤ j → r ≡ heaviest_of_first j → HeaviestChosen g bounds edges chosen r
    unfolding heaviest_of_first heaviest tree_weight trees_at tree_at
    chosen_all j h q =
        record { is = λ starts. q ∙ ap (largest weight_at) (take_all j chosen h) ∙ sym (largest_map (tree_weight g) (tree_at starts bounds edges) chosen) }
