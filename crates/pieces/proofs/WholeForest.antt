-- The forest of the whole graph, from the labels at the start to its front within a limit: each step's record from those of the calls.
-- Assumes nothing.
use Prim.Native.Nat.{ℕ}
use mathlib.Core.Path.{◌≡◌, refl, sym, ◌∙◌}
use mathlib.Core.List.{List}
use lib.ListN.{get_or}
use Rattle.std.specs.Prelude.{Option}
use Rattle.lists.proofs.FirstElement.{head_at}
use Rattle.lists.proofs.OnlyFirst.{only_first_on}
use Rattle.graph.specs.Graph.{Graph}
use Rattle.rules.specs.Order.{ByWeight, ordered}
use Rattle.rules.specs.Labels.{together}
use Rattle.forest_laws.proofs.Ordering.{ordered_by_weight}
use Rattle.forest_laws.proofs.Keeping.{kept_in_order}
use Rattle.forest_laws.proofs.Limit.{forest_within}
use Rattle.forest.specs.Labelled.{Started}
use Rattle.forest.specs.Keeping.{KeptWritten}
use Rattle.edges.specs.Light.{LightFront}
use Rattle.forest.specs.Lowest.{Unjoined}
use Rattle.pieces.specs.Whole.{AllJoined, EdgesLabelled, StopFound, WholeForest, WholeKept, LightForest}

module _ {g : Graph} {roots : List ℕ} {n : ℕ} (count : n ≡ g.vertices) where
  -- The labels of the start, and the edges joined from them.
  pub edges_labelled : {edges label₀ label₁ label₂ : List ℕ} → Started roots n label₀ label₁ → AllJoined g edges label₁ label₂ → EdgesLabelled g roots edges label₀ label₂
  edges_labelled {label₀ = label₀} {label₁ = label₁} s j =
      let t : Started roots g.vertices label₀ label₁ = rw count at s in
      record { labels = j.labels (together roots) t.labels; rest = only_first_on t.rest j.rest }

  -- The labels of the start, and all edges in order kept from them.
  pub whole_forest : {label₀ label₁ label₂ kept₀ kept₁ : List ℕ} {r : ℕ} → Started roots n label₀ label₁
      → KeptWritten g (ordered g) label₁ label₂ kept₀ kept₁ r → WholeForest g roots label₀ label₂ kept₀ kept₁ r
  whole_forest {label₀ = label₀} {label₁ = label₁} s k =
      let t : Started roots g.vertices label₀ label₁ = rw count at s in
      record {
        edges_are = k.edges_are (together roots) t.labels;
        labels = k.labels (together roots) t.labels;
        rest = only_first_on t.rest k.rest;
        fewer = k.fewer;
      }

-- The lowest vertex whose label is not the first root's.
pub stop_found : {g : Graph} {roots edges label₀ label₁ : List ℕ} {n root : ℕ} {r : Option ℕ} → n ≡ g.vertices → root ≡ get_or roots 0 0
    → EdgesLabelled g roots edges label₀ label₁ → Unjoined label₁ n root r → StopFound g roots edges label₀ label₁ r
stop_found {g} {roots} {label₁ = label₁} {r = r} count first l u =
    let v : Unjoined label₁ g.vertices (get_or roots 0 0) r = rw (count, first) at u in
    record { is = v.is g roots _ refl (head_at roots) l.labels; rest = l.rest }

module _ {g : Graph} {kept : List ℕ} where
  -- The edges of a whole forest stand by weight,
  pub whole_by_weight : WholeKept g kept → ByWeight g kept
  whole_by_weight w = rw w.are (kept_in_order g w.label (ordered g) (ordered_by_weight g))

  -- so that those within a limit, which are the forest there, are the first.
  pub light_forest : {limit r : ℕ} → LightFront g limit kept r → LightForest g kept limit r
  light_forest {limit} f =
      record { few = f.few; front = λ label are. f.front ∙ rw are (sym (forest_within g label limit)) }
