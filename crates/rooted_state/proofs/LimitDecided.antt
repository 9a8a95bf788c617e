-- What the whole forest says of a limit: there is no cover where it leaves a vertex joined to no root; and where it leaves none, every vertex is
-- joined to a root within the limit exactly where no edge of the whole forest is above the limit.
-- Assumes nothing.
use Prim.Native.Nat.{ℕ, ◌≤◌, ◌<◌}
use mathlib.Core.Path.{◌≡◌, refl, sym, ap, ◌∙◌}
use mathlib.Core.Bool.{false, not, true≢false, ◌&&◌}
use mathlib.Core.List.{List}
use mathlib.Core.Option as math
use native.Mathlib.Omega.{arith}
use Rattle.std.specs.Prelude.{Option, Some, None, is_some}
use lib.ListN.{length, take, replicate, length-replicate}
use lib.Seq.{length-take-le, take_all}
use Rattle.graph.specs.Graph.{Graph}
use Rattle.graph.specs.Valid.{Valid}
use Rattle.rules.specs.Cover.{rooted}
use Rattle.rules.specs.Order.{ordered}
use Rattle.rules.specs.Labels.{together, merge_all}
use Rattle.rules.specs.Forest.{keep, forest, unjoined}
use Rattle.rules.specs.RootedTrial.{unjoined_at, is_assignable}
use Rattle.rules.specs.Search.{no_vertex, accepts, no_cover_exists}
use Rattle.forest_laws.proofs.Keeping.{kept_merges}
use Rattle.planner_laws.proofs.RootedPrepared.{forest_unjoined, forest_is_whole}
use Rattle.forest.specs.Lowest.{vertex_in}
use Rattle.pieces.specs.Whole.{StopAsked, StopFound, LightForest}
use Rattle.rooted_state.specs.Prepared.{RootsGiven}
use Rattle.rooted_state.proofs.RootsReady.{roots_inside}

-- A label for each of 256 vertices is enough to look for a vertex joined to no root.
pub stop_asked : {g : Graph} {roots : List ℕ} → RootsGiven g roots → StopAsked g roots (replicate 256 0)
stop_asked given =
    record {
      labelable = record { valid = given.valid; room = omega (arith, given.valid.vertices_most, length-replicate {A = ℕ} 256 0) };
      roots_some = given.some;
      roots_inside = roots_inside given;
    }

-- A vertex was found, as the code asks it and as the definition does.
some_found : (r : Option ℕ) → is_some r ≡ not (no_vertex (vertex_in r))
unfolding no_vertex
some_found None = refl
some_found (Some v) = refl

-- Where there is no such vertex, there is none.
no_vertex_none : (o : math.Option ℕ) → not (no_vertex o) ≡ false → o ≡ math.none
unfolding no_vertex
no_vertex_none math.none q = refl
no_vertex_none (math.some v) q = absurd (true≢false q)

module _ (g : Graph) (roots : List ℕ) {kept : List ℕ} (whole : kept ≡ keep g (together roots) (ordered g)) where
  -- The whole forest leaves the same vertex joined to no root as all edges do.
  same_unjoined : unjoined g roots (merge_all g (together roots) kept) ≡ unjoined g roots (merge_all g (together roots) (ordered g))
  same_unjoined = ap (λ edges. unjoined g roots (merge_all g (together roots) edges)) whole ∙ ap (unjoined g roots) (kept_merges g (together roots) (ordered g))

  -- There is no cover exactly where a vertex was found.
  pub found_no_cover : {before after : List ℕ} {r : Option ℕ} → StopFound g roots kept before after r → is_some r ≡ no_cover_exists g (rooted roots)
  unfolding no_cover_exists
  found_no_cover {r = r} s = some_found r ∙ ap (λ o. not (no_vertex o)) (s.is ∙ same_unjoined)

  module _ {limit r : ℕ} (light : LightForest g kept limit r) where
    at_limit : take r kept ≡ forest g (together roots) limit
    at_limit = light.front (together roots) whole

    -- The forest's edges within the limit leave the vertex joined to no root that the trial says.
    light_unjoined : unjoined g roots (merge_all g (together roots) (take r kept)) ≡ unjoined_at g roots limit
    light_unjoined = ap (λ edges. unjoined g roots (merge_all g (together roots) edges)) at_limit ∙ forest_unjoined g roots limit

    -- So where a vertex is looked for by them, what is found is the trial's.
    pub stop_is : {before after : List ℕ} {f : Option ℕ} → StopFound g roots (take r kept) before after f → unjoined_at g roots limit ≡ vertex_in f
    stop_is s = sym (s.is ∙ light_unjoined)

    -- Where there is a cover and no edge of the whole forest is above the limit, every vertex is joined to a root.
    pub light_joined : no_cover_exists g (rooted roots) ≡ false → length kept ≤ r → unjoined_at g roots limit ≡ math.none
    unfolding no_cover_exists
    light_joined some_cover all =
        sym light_unjoined
        ∙ ap (λ edges. unjoined g roots (merge_all g (together roots) edges)) (take_all r kept all)
        ∙ same_unjoined
        ∙ no_vertex_none (unjoined g roots (merge_all g (together roots) (ordered g))) some_cover

    -- Where every vertex is joined to a root, no edge of the whole forest is above the limit.
    joined_light : Valid g → unjoined_at g roots limit ≡ math.none → length kept ≤ r
    joined_light valid joined =
        let same : take r kept ≡ kept = at_limit ∙ forest_is_whole g roots limit valid joined ∙ sym whole in
        omega (arith, length-take-le r kept light.few, ap length same)

    -- So a limit below an edge of the whole forest is not accepted.
    pub heavy_refused : Valid g → r < length kept → false ≡ accepts g (rooted roots) limit
    unfolding accepts no_vertex
    heavy_refused valid above = go (unjoined_at g roots limit) refl
      where
        go : (o : math.Option ℕ) → unjoined_at g roots limit ≡ o → false ≡ no_vertex (unjoined_at g roots limit) && is_assignable g roots limit
        go math.none q = absurd (omega (arith, joined_light valid q))
        go (math.some v) q = rw q refl

-- Where every vertex is joined to a root, the limit is accepted exactly where the parts can be assigned.
pub joined_accepts : (g : Graph) (roots : List ℕ) (limit : ℕ) → unjoined_at g roots limit ≡ math.none → is_assignable g roots limit ≡ accepts g (rooted roots) limit
unfolding accepts no_vertex
joined_accepts g roots limit q = rw q refl
