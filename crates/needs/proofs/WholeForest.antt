-- The whole forest without roots: each of its edges is kept where all vertices begin apart, its front within a limit is the forest there, and the
-- history of its merges tells what the components there need.
-- Assumes nothing.
use Prim.Native.Nat.{ℕ, ◌<◌}
use mathlib.Core.Path.{◌≡◌, sym, ap, ◌∙◌}
use mathlib.Core.List.{List}
use native.Mathlib.Omega.{arith}
use lib.ListN.{length, take}
use Rattle.graph.specs.Graph.{Graph}
use Rattle.rules.specs.Order.{ordered}
use Rattle.rules.specs.Labels.{apart}
use Rattle.rules.specs.Forest.{keep, forest}
use Rattle.rules.specs.UnrootedTrial.{needed}
use Rattle.forest_laws.proofs.Roots.{together_none}
use Rattle.forest_laws.proofs.Loops.{AllKept, whole_all_kept, kept_whole}
use Rattle.forest_laws.proofs.FewForest.{kept_few}
use Rattle.pieces.specs.Whole.{WholeKept, LightForest}
use Rattle.needs.specs.Given.{ForestKept}
use Rattle.needs.specs.History.{needed_by, HistoryKept, ReadAsked}

module _ {g : Graph} {kept : List ℕ} (f : ForestKept g kept) where
  -- Without roots all vertices begin apart.
  pub kept_apart : kept ≡ keep g apart (ordered g)
  kept_apart = rw together_none at f.forest_is

  pub whole_kept : WholeKept g kept
  whole_kept = record { label = apart; are = kept_apart }

  -- Each edge is kept again, and they are fewer than the vertices.
  pub all_kept : AllKept g apart kept
  all_kept =
      let g = g in
      let is : kept ≡ keep g apart (ordered g) = kept_apart in
      whole_all_kept apart kept (ap (keep g apart) is ∙ kept_whole g apart (ordered g) ∙ sym is)

  pub kept_fewer : length kept < g.vertices
  kept_fewer = let is : kept ≡ keep g apart (ordered g) = kept_apart in rw is (kept_few f.valid apart (ordered g))

  -- The front within the limit is the forest there,
  module _ {limit r : ℕ} (l : LightForest g kept limit r) where
    pub front_is : take r kept ≡ forest g apart limit
    front_is = l.front apart kept_apart

    -- so that the history may be read up to it, and tells "the sum C".
    module _ {total until : List ℕ} (h : HistoryKept g kept total until) {n : ℕ} (count : n ≡ g.vertices) where
      pub read_asked : ReadAsked n total until r
      read_asked =
          record {
            vertices_most = omega (arith, f.valid.vertices_most);
            light_few = omega (arith, kept_fewer, l.few);
            total_room = omega (arith, h.total_room, l.few);
            until_room = omega (arith, h.until_room, l.few);
            small = λ i few. h.small i (omega (arith, l.few));
          }

      pub history_tells : {trees : ℕ} → trees ≡ needed_by n total until r limit → trees ≡ needed g limit
      history_tells is = is ∙ ap (λ k. needed_by k total until r limit) count ∙ h.needs limit r l.few front_is
