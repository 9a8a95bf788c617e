-- Chosen trees: at most 32 trees of a graph may be written into the planner's buffer, and segments of one layout are held, with no more
-- entries than the layout has elements.
-- Assumes nothing.
use Prim.Native.Nat.{ℕ, ◌+◌, ◌≤◌, ◌<◌}
use mathlib.Core.Path.{◌≡◌, ap, ◌∙◌}
use mathlib.Core.List.{List}
use native.Mathlib.Omega.{arith}
use lib.ListN.{length}
use Rattle.lists.specs.Lists.{sum_of}
use Rattle.lists.specs.Member.{◌∈◌}
use Rattle.lists.specs.Segments.{segment, Bounded}
use Rattle.lists.proofs.InOrder.{Once}
use Rattle.lists.proofs.SegmentSizes.{chosen_sizes}
use Rattle.lists.proofs.SumsAlike.{length_flat_map}
use Rattle.graph.specs.Graph.{Graph}
use Rattle.graph.specs.Valid.{Valid}
use Rattle.rules.specs.Cover.{Tree, IsTree}
use Rattle.rules.specs.CoverBytes.{entry_edges}
use Rattle.rules.specs.Held.{trees_at}
use Rattle.rules.specs.Questions.{least_room}
use Rattle.cover_laws.proofs.CoverSize.{trees_length}
use Rattle.cover.specs.Chosen.{AllHeld, Writable}
use Rattle.cover.proofs.ChosenBytes.{chosen_trees, chosen_edges}

module _ (starts bounds edges chosen : List ℕ) where
  -- The chosen trees have as many entries as their segments are long.
  pub chosen_entries : length (entry_edges (trees_at starts bounds edges chosen)) ≡ sum_of (λ c. length (segment bounds edges c)) chosen
  chosen_entries = ap length (chosen_edges starts bounds edges chosen) ∙ length_flat_map (segment bounds edges) chosen

  -- At most 32 of them, each a tree of the graph.
  pub trees_writable : (g : Graph) → Valid g → {room : ℕ} → least_room ≤ room → AllHeld bounds edges chosen → length chosen ≤ 32
      → ((t : Tree) → t ∈ trees_at starts bounds edges chosen → IsTree g t) → Writable starts bounds edges chosen room
  trees_writable g valid most held few are =
      let trees = trees_at starts bounds edges chosen in
      let few_trees : length trees ≤ 32 = omega (arith, chosen_trees starts bounds edges chosen) in
      record { held = held; fits = omega (arith, trees_length g valid trees few_trees are) }

  -- Segments of one layout, chosen by numbers below k.
  module _ {k used : ℕ} (b : Bounded bounds k used) (inside : used ≤ length edges) (below_k : (c : ℕ) → c ∈ chosen → c < k) where
    pub bounded_held : AllHeld bounds edges chosen
    bounded_held c m =
        let h = below_k c m in
        record { forward = b.rising c h; inside = omega (arith, b.within (c + 1) (omega arith)) }

    -- None chosen twice, they have no more entries than the layout has elements.
    pub bounded_entries : Once chosen → length (entry_edges (trees_at starts bounds edges chosen)) ≤ used
    bounded_entries once = omega (arith, chosen_entries, chosen_sizes bounds edges b inside chosen once below_k)
