-- The walk along one tree of a cover: its edges are a run of entries, and what is written and answered is the rules' reply.
-- Assumes nothing.
use Prim.Native.Nat.{ℕ, ◌-◌, ◌*◌, ◌/◌, ◌≤◌}
use mathlib.Core.Path.{◌≡◌, sym, ap, ap₂, subst, ◌∙◌}
use mathlib.Core.List.{List, [], ◌∷◌}
use native.Mathlib.Omega.{arith}
use lib.ListN.{length}
use Rattle.std.proofs.Common.{Ok}
use Rattle.lists.specs.Put.{PutTo}
use Rattle.lists.proofs.Bounds.{sum_most}
use Rattle.lists.proofs.PutPlaces.{put_at_front}
use Rattle.graph.specs.Graph.{Graph, edge_count, weight_of}
use Rattle.graph.proofs.Ranges.{weight_at_most}
use Rattle.rules.specs.Walk.{total_weight}
use Rattle.rules.specs.Cover.{Tree, IsTree, tree_weight}
use Rattle.rules.specs.CoverBytes.{u16_list, start_in, tree_in}
use Rattle.rules.specs.ClosedWalk.{length_of, closed_walk}
use Rattle.rules.specs.WalkQuestion.{stop_bytes, walk_after}
use Rattle.rules.proofs.Fields.{fields_length}
use Rattle.cover_laws.proofs.CoverSize.{tree_edges_few}
use Rattle.cover_laws.proofs.ClosedWalk.{closed_walk_length}
use Rattle.cover.specs.Runs.{run_edges, RunOf}
use Rattle.cover.proofs.TreeRuns.{tree_is_run}
use Rattle.replies.specs.Replies.{said}
use Rattle.closed_walk.specs.Run.{FirstOf}
use Rattle.closed_walk.specs.Turn.{tree_of, WriteAsked, walk_stops}
use Rattle.closed_walk.specs.Checked.{TreeAsked, TreeWalked}
use Rattle.closed_walk.proofs.OneRun.{first_begins, run_length}

module _ {g : Graph} {c : List ℕ} {j room : ℕ} (asked : TreeAsked g c j room) {from to : ℕ} (first : FirstOf c j from) (run : RunOf c j from to) where
  abbrev tree : Tree
  tree = tree_of (start_in c j) (run_edges c from to)

  -- The tree's edges are those of the run.
  tree_is : tree_in c j ≡ tree
  tree_is = tree_is_run c (edge_count g) asked.cover.entries (first_begins c (edge_count g) asked.cover.entries first) run

  is_tree : IsTree g tree
  is_tree = subst (IsTree g) tree_is asked.is_tree

  pub write_asked : WriteAsked g tree room
  write_asked = record { valid = asked.cover.valid; is_tree = is_tree; fits = asked.fits }

  -- There are at most 255 of them,
  pub run_few : to - from ≤ 255
  run_few = omega (arith, tree_edges_few g asked.cover.valid tree is_tree, asked.cover.valid.vertices_most, run_length c from to)

  -- each of weight 1,000,000 at most.
  pub weight_few : total_weight g (run_edges c from to) ≤ 255000000
  unfolding total_weight
  weight_few =
      omega (arith, sum_most (weight_of g) 1000000 (run_edges c from to) (λ e m. weight_at_most asked.cover.valid e), run_few, run_length c from to)

  -- The walk is twice as long as the run is heavy.
  twice : length_of g (closed_walk g tree) ≡ 2 * total_weight g (run_edges c from to)
  twice = unfold tree_weight in closed_walk_length is_tree

  -- Its stops were written: two bytes each.
  pub tree_walked : {before after : List ℕ} {written weight : ℕ} → PutTo 0 (u16_list (walk_stops g tree)) before after written → weight ≡ total_weight g (run_edges c from to)
      → TreeWalked g c j before after (Ok (record { stops = written / 2; length = 2 * weight }))
  unfolding walk_after stop_bytes
  tree_walked {written = written} {weight = weight} put weighs =
      let count : written / 2 ≡ length (walk_stops g tree) = omega (arith, put.behind, fields_length (walk_stops g tree)) in
      rw tree_is
      (record {
        same = ap₂ (λ stops long. said 0 (stops ∷ long ∷ [])) count (ap (λ x. 2 * x) weighs ∙ sym twice);
        buffer = put_at_front put.put;
      })
