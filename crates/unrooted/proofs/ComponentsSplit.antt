-- The components' trees are split as the rules say, where the roots are their lowest vertices and the arcs are the forest's.
-- Assumes nothing.
use Prim.Native.Nat.{ℕ, ◌+◌, ◌*◌, ◌≤◌, ◌<◌}
use mathlib.Core.Path.{◌≡◌, sym, ap, ◌∙◌}
use mathlib.Core.List.{List}
use native.Mathlib.Omega.{arith}
use lib.ListN.{length, take}
use Rattle.lists.specs.Member.{◌∈◌}
use Rattle.lists.specs.Sort.{rise}
use Rattle.lists.proofs.Put.{put_count, put_taken, put_fits, put_length, only_first_length}
use Rattle.lists.proofs.OnlyFirst.{only_first_of_more}
use Rattle.lists.proofs.Places.{at_place}
use Rattle.graph.specs.Graph.{Graph, edge_count}
use Rattle.rules.specs.Labels.{apart}
use Rattle.rules.specs.Forest.{forest, labels_at, lowest}
use Rattle.rules.specs.UnrootedTrial.{components}
use Rattle.forest_laws.proofs.FewForest.{forest_few}
use Rattle.forest_laws.proofs.Forest.{forest_light}
use Rattle.split_laws.proofs.Lowest.{lowest_inside}
use Rattle.edges.specs.PutAround.{AroundPut}
use Rattle.split.specs.ForestSplit.{lent, Splittable, Splits, ForestSplit}
use Rattle.needs.specs.Given.{ForestGiven}
use Rattle.needs.specs.Roots.{RootsWritten}
use Rattle.unrooted.specs.Unrooted.{SplitAsked, ComponentsSplit}

-- The edges of the forest are the graph's, and fewer than its vertices.
module _ {g : Graph} {edges : List ℕ} {limit : ℕ} (f : ForestGiven g edges limit) where
  pub forest_edges_few : length edges < g.vertices
  forest_edges_few = omega (arith, ap length f.are, forest_few f.valid apart limit)

  pub forest_edges_inside : (e : ℕ) → e ∈ edges → e < edge_count g
  forest_edges_inside e m = (forest_light g apart limit e (rw f.are at m)).0

module _ {g : Graph} {edges : List ℕ} {limit : ℕ} {starts cuts members lefts roots₀ roots bounds₀ bounds arcs₀ arcs : List ℕ} {k n : ℕ} (a : SplitAsked g edges limit starts cuts members lefts)
    (w : RootsWritten g edges roots₀ roots k) (p : AroundPut g (rise edges) bounds₀ bounds arcs₀ arcs) (q : n ≡ g.vertices) where
  abbrev lows : List ℕ
  lows = lowest g (labels_at g apart limit)

  roots_are : take k roots ≡ lows
  roots_are = put_taken (w.at_limit limit a.forest_given.are)

  roots_count : k ≡ length lows
  roots_count = put_count (w.at_limit limit a.forest_given.are)

  small : n ≤ 256
  small = omega (arith, q, a.forest_given.valid.vertices_most)

  -- What the splitting asks,
  pub splittable : Splittable n bounds arcs (take k roots) (lent starts cuts members lefts)
  splittable =
      let count : length (take k roots) ≡ k = ap length roots_are ∙ sym roots_count in
      record {
        around = rw q p.around.sound;
        roots_inside =
            λ j h.
            rw roots_are (omega (arith, q, lowest_inside g (labels_at g apart limit) (at_place 0 lows j (omega (arith, count, roots_count)))));
        roots_few = omega (arith, count, w.few, q, small);
        starts_room = omega (arith, count, w.few, q, small, a.starts_room);
        cuts_room = omega (arith, count, w.few, q, small, a.cuts_room);
        members_room = omega (arith, small, a.members_room);
        lefts_room = omega (arith, count, w.few, q, small, a.lefts_room);
      }

  -- and what it gives.
  module _ {starts' cuts' flat' lefts' : List ℕ} {r : ℕ}
      (f : ForestSplit n bounds arcs (take k roots) (2 * limit) (lent starts cuts members lefts) (lent starts' cuts' flat' lefts') r) where
    splits : Splits g (rise (forest g apart limit)) lows (2 * limit) (lent starts cuts members lefts) (lent starts' cuts' flat' lefts') r f.used
    splits = rw (a.forest_given.are, roots_are) at (f.of_graph g (rise edges) p.around (sym q))

    few : r ≤ 511
    few = omega (arith, f.few, f.used_few, ap length roots_are, roots_count, w.few, q, small)

    pub components_split : ComponentsSplit g limit starts starts' cuts cuts' members flat' lefts lefts' (record { pieces = r; roots = k })
    unfolding components
    components_split =
        let count : length (take k roots) ≡ k = ap length roots_are ∙ sym roots_count in
        record {
          pieces_are = splits.pieces;
          lefts_are = ap (λ m. take m lefts') roots_count ∙ put_taken splits.lefts;
          roots_room = omega (arith, put_fits splits.lefts, put_length splits.lefts.put, roots_count);
          given =
              record {
                pieces =
                    record {
                      cut = omega (arith, few, only_first_length f.cuts_rest, a.cuts_room);
                      held =
                          λ i h.
                          record {
                            forward = f.bounded.rising i h;
                            inside = omega (arith, f.bounded.within (i + 1) (omega arith), f.used_few, small, only_first_length f.members_rest, a.members_room);
                          };
                    };
                starts_room = omega (arith, few, only_first_length f.starts_rest, a.starts_room);
              };
          few = omega (arith, few);
          starts_rest = f.starts_rest;
          cuts_rest = f.cuts_rest;
          members_rest = only_first_of_more f.members_rest g.vertices (omega (arith, f.used_few, q));
          lefts_rest = rw count at f.lefts_rest;
        }
