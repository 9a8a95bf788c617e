-- What preparing a question asks, for which graphs and crews small arrays are enough, and what stands prepared: for crews of each kind what they read.
-- Assumes nothing.
use Rattle.std.specs.Prelude.{ℕ, ◌+◌, ◌*◌, ◌≤◌, ◌<◌, ◌≡◌, Bool, true, List, length, take}
use Rattle.lists.specs.Put.{OnlyFirst}
use Rattle.graph.specs.Graph.{Graph, edge_count}
use Rattle.rules.specs.Order.{ordered}
use Rattle.rules.specs.Labels.{together}
use Rattle.rules.specs.Forest.{keep}
use Rattle.order.specs.Order.{RoomForOrder}
use Rattle.distance_table.specs.Table.{Tabled}
use Rattle.rooted_state.specs.Prepared.{RootsGiven, Prepared}
use Rattle.unrooted.specs.Answer.{HistoryReady}
use Rattle.prepare.specs.declared.Ready.{Ready}

-- A valid graph, and room for the order of its edges and for its forest.
pub record ForestAsked (g : Graph) (keys spare order kept : ℕ) : Type 0 where
  pub for_order : RoomForOrder g keys spare order
  pub kept_room : g.vertices ≤ kept

-- The edges stand in order and the whole forest by weight: they are the first elements of their arrays. What stands behind them is as it came, and so
-- is what stands behind the keys that were worked with.
pub record ForestPrepared (g : Graph) (roots keys₀ keys spare₀ spare order₀ order kept₀ kept : List ℕ) (r : Ready) : Type 0 where
  pub edges_are : r.edges ≡ edge_count g
  pub edges_room : r.edges ≤ length order
  pub in_order : take r.edges order ≡ ordered g
  pub forest_room : r.forest ≤ length kept
  pub forest : take r.forest kept ≡ keep g (together roots) (ordered g)
  pub fewer : r.forest < g.vertices
  pub keys_rest : OnlyFirst (edge_count g) keys₀ keys
  pub spare_rest : OnlyFirst (edge_count g) spare₀ spare
  pub order_rest : OnlyFirst (edge_count g) order₀ order
  pub kept_rest : OnlyFirst r.forest kept₀ kept

-- WITH ROOTS

-- A graph and crews for which small arrays are enough.
pub record Small (g : Graph) (k : ℕ) : Type 0 where
  pub vertices_few : g.vertices ≤ 64
  pub edges_few : edge_count g ≤ 512
  pub crews_few : k ≤ 8

-- Where r says so, they are.
pub record SizeTold (g : Graph) (k : ℕ) (r : Bool) : Type 0 where
  pub small : r ≡ true → Small g k

-- Room for a question by k crews with roots about n vertices and m edges: for the order, the whole forest, the edges around each vertex over all edges
-- (`all`, and then the keys of the order) and over the forest (`arcs`, and before that the spare of the order), and for the distances from all roots
-- with their last edges.
pub record RootedRoom (n m k : ℕ) (order kept bounds all arcs distances lasts : ℕ) : Type 0 where
  pub order_room : m ≤ order
  pub kept_room : n ≤ kept
  pub bounds_room : n < bounds
  pub all_room : 2 * m ≤ all
  pub arcs_room : 2 * n ≤ arcs
  pub spare_room : m ≤ arcs
  pub distances_room : k * n ≤ distances
  pub lasts_room : k * n ≤ lasts

-- A valid graph, roots among its vertices, and room for its edges by number, their arcs, and the distances from all roots.
pub record DistancesAsked (g : Graph) (roots : List ℕ) (numbers bounds all distances lasts : ℕ) : Type 0 where
  pub given : RootsGiven g roots
  pub numbers_room : edge_count g ≤ numbers
  pub bounds_room : g.vertices < bounds
  pub all_room : 2 * edge_count g ≤ all
  pub distances_room : length roots * g.vertices ≤ distances
  pub lasts_room : length roots * g.vertices ≤ lasts

-- The distances from all roots stand in their rows. Of no array more changed: of the edges by number one element for each edge, of their arcs two,
-- of the bounds one more than there are vertices.
pub record DistancesPrepared (g : Graph) (roots numbers₀ numbers bounds₀ bounds all₀ all distances₀ distances lasts₀ lasts : List ℕ) : Type 0 where
  pub tabled : Tabled g roots distances lasts
  pub numbers_rest : OnlyFirst (edge_count g) numbers₀ numbers
  pub bounds_rest : OnlyFirst (g.vertices + 1) bounds₀ bounds
  pub all_rest : OnlyFirst (2 * edge_count g) all₀ all
  pub distances_rest : OnlyFirst (length roots * g.vertices) distances₀ distances
  pub lasts_rest : OnlyFirst (length roots * g.vertices) lasts₀ lasts

-- What preparing asks where the crews have roots.
pub record RootedPreparable (g : Graph) (roots order kept bounds all arcs distances lasts : List ℕ) : Type 0 where
  pub given : RootsGiven g roots
  pub room : RootedRoom g.vertices (edge_count g) (length roots) (length order) (length kept) (length bounds) (length all) (length arcs)
      (length distances) (length lasts)

-- Everything that crews with roots read is prepared. What stands behind it is as it came, and so is what stands behind what was worked with: in both
-- arrays of arcs two elements for each edge.
pub record RootedPrepared (g : Graph) (roots order₀ order kept₀ kept bounds₀ bounds all₀ all arcs₀ arcs distances₀ distances lasts₀ lasts : List ℕ) (r : Ready) : Type 0 where
  pub edges_room : r.edges ≤ length order
  pub forest_room : r.forest ≤ length kept
  pub prepared : Prepared g roots (take r.edges order) (take r.forest kept) bounds arcs distances lasts
  pub order_rest : OnlyFirst (edge_count g) order₀ order
  pub kept_rest : OnlyFirst r.forest kept₀ kept
  pub bounds_rest : OnlyFirst (g.vertices + 1) bounds₀ bounds
  pub all_rest : OnlyFirst (2 * edge_count g) all₀ all
  pub arcs_rest : OnlyFirst (2 * edge_count g) arcs₀ arcs
  pub distances_rest : OnlyFirst (length roots * g.vertices) distances₀ distances
  pub lasts_rest : OnlyFirst (length roots * g.vertices) lasts₀ lasts

-- WITHOUT ROOTS

-- A valid graph, and room for the order and the forest of it, and for the history of its merges.
pub record UnrootedPreparable (g : Graph) (keys spare order kept total until : List ℕ) : Type 0 where
  pub for_forest : ForestAsked g (length keys) (length spare) (length order) (length kept)
  pub total_room : 256 ≤ length total
  pub until_room : 256 ≤ length until

-- Everything that crews without roots read is prepared. What stands behind it is as it came, and so is what stands behind the keys that were worked
-- with.
pub record UnrootedPrepared (g : Graph) (keys₀ keys spare₀ spare order₀ order kept₀ kept total₀ total until₀ until : List ℕ) (r : Ready) : Type 0 where
  pub edges_room : r.edges ≤ length order
  pub forest_room : r.forest ≤ length kept
  pub in_order : take r.edges order ≡ ordered g
  pub history : HistoryReady g (take r.forest kept) total until
  pub keys_rest : OnlyFirst (edge_count g) keys₀ keys
  pub spare_rest : OnlyFirst (edge_count g) spare₀ spare
  pub order_rest : OnlyFirst (edge_count g) order₀ order
  pub kept_rest : OnlyFirst r.forest kept₀ kept
  pub total_rest : OnlyFirst (r.forest + 1) total₀ total
  pub until_rest : OnlyFirst (r.forest + 1) until₀ until
