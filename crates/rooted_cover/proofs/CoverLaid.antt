-- The trees of all roots, laid one after the other: they are held, they fit the buffer, and they are the cover of the trial at every limit at which
-- the parts are placed so.
-- Assumes nothing.
use Prim.Native.Nat.{ℕ, ◌+◌, ◌≤◌, ◌<◌}
use mathlib.Core.Path.{◌≡◌, ap, ◌∙◌}
use mathlib.Core.Bool.{true}
use mathlib.Core.List.{List}
use native.Mathlib.Omega.{arith}
use lib.ListN.{length, get_or, take, drop, set, length-map}
use borrow.Author.Count.{below_more}
use Rattle.lists.specs.Count.{below}
use Rattle.lists.specs.Put.{PutTo}
use Rattle.lists.specs.Segments.{segment}
use Rattle.lists.proofs.Below.{of_below}
use Rattle.lists.proofs.PutSlice.{put_slice, put_before}
use Rattle.lists.proofs.Put.{put_length}
use Rattle.lists.proofs.Runs.{length_below, map_same}
use Rattle.lists.proofs.Segments.{segment_kept, segment_new, bounded_more}
use Rattle.graph.specs.Graph.{Graph}
use Rattle.graph.specs.Valid.{Valid}
use Rattle.rules.specs.Cover.{Tree, heaviest}
use Rattle.rules.specs.CoverBytes.{encode}
use Rattle.rules.specs.Held.{tree_at, trees_at}
use Rattle.rules.specs.RootedTrial.{Choices, GoodChoices, union_tree, rooted_parts, rooted_cover}
use Rattle.rules.specs.Questions.{most_limit}
use Rattle.cover_laws.proofs.CoverSize.{bytes_few}
use Rattle.planner_laws.proofs.RootedSize.{cover_tree_few}
use Rattle.cover.specs.Chosen.{AllHeld, HeaviestChosen, Writable}
use Rattle.cover.proofs.ChosenFit.{bounded_held}
use Rattle.rooted_state.specs.Prepared.{LimitReady}
use Rattle.rooted_state.specs.Placed.{PieceArrays, PartsPlaced}
use Rattle.rooted_cover.specs.CoverTrees.{RootTree, TreePut, TreesLaid, parts_of, CoverAsked, CoverAtLimits}
use Rattle.rooted_cover.proofs.PartPaths.{paths_for}
use Rattle.rooted_cover.proofs.RootedChoices.{choices_of, choices_good, tree_of_cover}

module _ {g : Graph} {distances lasts roots : List ℕ} {a : PieceArrays} {assignment : List ℕ} where
  -- One tree more.
  pub trees_more : {i at end : ℕ} {bounds edges after : List ℕ} → TreesLaid g distances lasts roots a assignment i at bounds edges → i + 1 < length bounds
      → TreePut g distances lasts roots a assignment i at edges after end
      → TreesLaid g distances lasts roots a assignment (i + 1) end (set bounds (i + 1) end) after
  trees_more {i} {at} {end} {bounds} {edges} {after} w room t =
      let p = t.put in
      let new : segment (set bounds (i + 1) end) after i ≡ t.tree =
      segment_new w.bounded end room after ∙ ap (λ n. drop at (take n after)) p.behind ∙ put_slice p.put in
      record {
        bounded = bounded_more w.bounded end room (omega (arith, p.behind));
        inside = omega (arith, p.behind, p.put.room, put_length p.put);
        are =
            below_more (λ h. RootTree g distances lasts roots a assignment h (segment (set bounds (i + 1) end) after h)) i
            (λ h l. rw (segment_kept w.bounded end edges after (put_before p.put) h l) (w.are h l))
            (rw new t.is_tree);
      }

module _ {g : Graph} {order distances lasts roots : List ℕ} {a : PieceArrays} {parts : ℕ} {assignment : List ℕ} {edges_room room : ℕ}
    (asked : CoverAsked g order distances lasts roots a parts assignment edges_room room) {used : ℕ} {bounds edges : List ℕ}
    (laid : TreesLaid g distances lasts roots (parts_of parts a) assignment (length roots) used bounds edges) where
  abbrev ready : LimitReady g roots asked.limit distances
  ready = asked.ready.ready

  abbrev valid : Valid g
  valid = ready.given.valid

  -- The trees that are laid.
  abbrev trees : List Tree
  trees = trees_at roots bounds edges (below (length roots))

  module _ (limit : ℕ) (rows : List ℕ) (small : limit ≤ most_limit) (p : PartsPlaced g roots limit (record { pieces = a; rows = rows; assignment = assignment }) parts true) where
    -- They are the cover of some good choices.
    cover_is : (c : Choices) × GoodChoices g roots limit c × (trees ≡ rooted_cover g roots limit c)
    unfolding trees_at tree_at rooted_cover rooted_parts union_tree
    cover_is =
        let (paths, path_of) = paths_for p laid.are in (
          choices_of (take parts assignment) paths,
          choices_good p paths path_of valid ready.distances_are (omega arith) asked.ready.last_edges ready.given.inside,
          map_same (below (length roots))
              (λ j m.
              let h = of_below (length roots) m in
              ap (λ es. record { start = get_or roots j 0; edges = es }) (tree_of_cover p paths path_of j h (laid.are j h))),
        )

  pub trees_held : AllHeld bounds edges (below (length roots))
  trees_held = bounded_held roots bounds edges (below (length roots)) laid.bounded laid.inside (λ c m. of_below (length roots) m)

  pub trees_writable : Writable roots bounds edges (below (length roots)) room
  unfolding trees_at
  trees_writable =
      let (c, good, is) = cover_is asked.limit asked.rows ready.limit_most asked.placed in
      let few : length trees ≤ 32 = omega (arith, length-map (below (length roots)) (tree_at roots bounds edges), length_below (length roots), ready.given.few) in
      record {
        held = trees_held;
        fits = omega (
          arith,
          asked.ready.most,
          bytes_few trees few (λ t m. omega (arith, cover_tree_few g roots asked.limit valid c (rw is at m), valid.vertices_most)),
        );
      }

  pub cover_written : {before after : List ℕ} {end r : ℕ} → PutTo 0 (encode trees) before after end → HeaviestChosen g bounds edges (below (length roots)) r
      → CoverAtLimits g roots a parts assignment before after r
  cover_written put heavy =
      record {
        at_limit =
            λ limit rows small p.
            let (c, good, is) = cover_is limit rows small p in
            record { choices = c; good = good; put = rw is at put.put; heaviest_is = heavy.is roots ∙ ap (heaviest g) is };
      }
