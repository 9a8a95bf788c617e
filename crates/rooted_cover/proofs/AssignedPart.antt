-- The part that a root is assigned: its piece is among those placed, a path leads back from its nearest vertex, and that path, turned round,
-- is a shortest one (document 01, steps 5 and 6).
-- Assumes nothing.
use Prim.Native.Nat.{ℕ, ◌*◌, ◌≤◌, ◌<◌}
use mathlib.Core.Path.{◌≡◌, refl, sym, ap, ◌∙◌}
use mathlib.Core.Bool.{true}
use mathlib.Core.List.{List}
use native.Mathlib.Omega.{arith}
use lib.ListN.{length, get_or, take, length-take, length-drop}
use lib.Seq.{get_or-take}
use lib.Dec.{leb}
use borrow.Author.Tests.{leb-true}
use Rattle.lists.specs.Lists.{any}
use Rattle.lists.specs.Member.{◌∈◌}
use Rattle.lists.specs.Segments.{segment}
use Rattle.lists.specs.Sort.{rise}
use Rattle.lists.proofs.Member.{any_found}
use Rattle.lists.proofs.Sorting.{in_rise, of_rise}
use Rattle.graph.specs.Graph.{Graph, edge_count}
use Rattle.graph.specs.Valid.{Valid}
use Rattle.matching.specs.Assignment.{IsAssignment}
use Rattle.rules.specs.Cover.{Tree}
use Rattle.rules.specs.Distance.{tree_vertices, reaches_part, IsShortestPath}
use Rattle.rules.specs.Held.{risen}
use Rattle.rules.specs.Labels.{together}
use Rattle.rules.specs.RootedTrial.{rooted_pieces, rooted_parts, part_of, left_at, may_go}
use Rattle.rules.proofs.Linked.{turned}
use Rattle.forest_laws.proofs.Forest.{forest_light}
use Rattle.planner_laws.proofs.RootedPieces.{part_at, rooted_left}
use Rattle.distance.specs.Trail.{trail_of}
use Rattle.distance.specs.Shortest.{unreached, Shortest}
use Rattle.distance_table.specs.Nearest.{Nearest}
use Rattle.distance_table.specs.Tabled.{distance_in, DistancesTabled, LastsTabled, row_of}
use Rattle.rooted_state.specs.Placed.{TrialArrays, PartsPlaced}
use Rattle.rooted_cover.specs.Tree.{BackGiven}
use Rattle.rooted_state.proofs.PlacedPieces.{piece_at, parts_count, part_is, start_in_lem}
use Rattle.rooted_state.proofs.NearMeansMayGo.{says_within, tree_reaches, reaches_risen, more_edges, around_inside}
use Rattle.distance_table.proofs.RootPath.{nearest_back, nearest_shortest_path}
use Rattle.distance_table.proofs.RowPlaces as rows

-- An array with room for k rows of n has the whole of each.
pub row_whole : (n : ℕ) (array : List ℕ) (j k : ℕ) → j < k → k * n ≤ length array → n ≤ length (row_of n array j)
row_whole n array j k h room = simp (length-take, length-drop) (omega (arith, rows.row_room j k n (length array) h room))

-- A tree covers the same vertices once its edges rise,
vertices_risen : (g : Graph) (t : Tree) {v : ℕ} → v ∈ tree_vertices g t → v ∈ tree_vertices g (risen t)
unfolding tree_vertices risen
vertices_risen g t {v} m = more_edges g t.start t.edges (rise t.edges) (λ e. in_rise) v m

risen_vertices : (g : Graph) (t : Tree) {v : ℕ} → v ∈ tree_vertices g (risen t) → v ∈ tree_vertices g t
unfolding tree_vertices risen
risen_vertices g t {v} m = more_edges g t.start (rise t.edges) t.edges (λ e. of_rise t.edges) v m

-- so a shortest path to it is still one.
path_risen : {g : Graph} {r : ℕ} {t : Tree} {path : List ℕ} → IsShortestPath g r t path → IsShortestPath g r (risen t) path
path_risen {g} {r} {t} p =
    record {
      inside = p.inside;
      end = p.end;
      in_part_lem = vertices_risen g t p.in_part_lem;
      leads = p.leads;
      once = p.once;
      shortest = λ v other m w. p.shortest v other (risen_vertices g t m) w;
    }

-- The vertices of a tree are the graph's where its start is.
vertices_inside : {g : Graph} → Valid g → (t : Tree) → t.start < g.vertices → (v : ℕ) → v ∈ tree_vertices g t → v < g.vertices
unfolding tree_vertices
vertices_inside {g} valid t h v m = around_inside g t.start valid h t.edges v m

module _ {g : Graph} {roots : List ℕ} {limit : ℕ} {a : TrialArrays} {parts : ℕ} (p : PartsPlaced g roots limit a parts true) where
  abbrev pub given : IsAssignment parts (length roots) (may_go g roots limit) (take parts a.assignment)
  given = p.rows.is_assignment refl

  -- The assignment, by the array of bytes.
  pub byte : (i : ℕ) → i < parts → get_or (take parts a.assignment) i 0 ≡ get_or a.assignment i 0
  byte i h = get_or-take parts a.assignment i 0 h

  pub bytes_room : parts ≤ length a.assignment
  bytes_room = omega (arith, given.each, length-take parts a.assignment)

  pub byte_is_root : (i : ℕ) → i < parts → get_or a.assignment i 0 < length roots
  byte_is_root i h = rw (byte i h) at (given.is_root i h)

  pub bytes_apart : (i j : ℕ) → i < parts → j < parts → get_or a.assignment i 0 ≡ get_or a.assignment j 0 → i ≡ j
  bytes_apart i j h l q = given.apart i j h l (byte i h ∙ q ∙ sym (byte j l))

  may_go_lem : (i : ℕ) → i < parts → may_go g roots limit i (get_or a.assignment i 0) ≡ true
  may_go_lem i h = rw (byte i h) at (given.may i h)

  -- Edges of the parts and of the leftovers are edges of the graph.
  pub part_edge : (i : ℕ) → i < parts → (e : ℕ) → e ∈ segment a.pieces.cuts a.pieces.members (get_or a.pieces.places i 0) → e < edge_count g
  unfolding risen
  part_edge i h e m =
      let is : (part_of (rooted_parts g roots limit) i).edges ≡ rise (segment a.pieces.cuts a.pieces.members (get_or a.pieces.places i 0)) = ap (λ (t : Tree). t.edges) (part_is p.pieces i h) in
      (forest_light g (together roots) limit e ((part_at g roots limit i (omega (arith, parts_count p.pieces))).in_forest (rw is (in_rise m)))).0

  pub left_edge : (j : ℕ) → j < length roots → (e : ℕ) → e ∈ segment a.pieces.cuts a.pieces.members (get_or a.pieces.lefts j 0) → e < edge_count g
  left_edge j h e m =
      (forest_light g (together roots) limit e
      ((rooted_left g roots limit j h).in_forest (of_rise (left_at (rooted_pieces g roots limit) j) (rw (p.pieces.lefts_are j h) at (in_rise m))))).0

  module _ (valid : Valid g) {distances : List ℕ} (tabled : DistancesTabled g roots distances) (small : limit < unreached) (i : ℕ) (h : i < parts) where
    abbrev root : ℕ
    root = get_or roots (get_or a.assignment i 0) 0

    -- The table has a vertex of the part within the limit of it.
    near_one : any (λ v. leb (distance_in distances g.vertices v (get_or a.assignment i 0)) limit) (tree_vertices g (piece_at a.pieces i)) ≡ true
    unfolding may_go
    near_one =
        let j : ℕ = get_or a.assignment i 0 in
        tree_reaches valid limit root (λ v. leb (distance_in distances g.vertices v j) limit)
        (λ v m. says_within limit _ _ small (tabled.each v j m (byte_is_root i h))) (piece_at a.pieces i) (start_in_lem p.pieces i h)
        ∙ reaches_risen g limit root (piece_at a.pieces i)
        ∙ ap (λ t. reaches_part g limit root t) (sym (part_is p.pieces i h))
        ∙ may_go_lem i h

    abbrev dist : List ℕ
    dist = row_of g.vertices distances (get_or a.assignment i 0)

    -- So the nearest vertex of the part has a distance from its root.
    nearest_reached : {v : ℕ} → Nearest g dist (piece_at a.pieces i) v → get_or dist v 0 < unreached
    nearest_reached n =
        let j : ℕ = get_or a.assignment i 0 in
        let (u, m, t) = any_found (λ v. leb (distance_in distances g.vertices v j) limit) (tree_vertices g (piece_at a.pieces i)) near_one in
        let there = rows.part_at (j * g.vertices) g.vertices distances u (vertices_inside valid (piece_at a.pieces i) (start_in_lem p.pieces i h) u m) in
        omega (arith, n.nearest u m, there, leb-true (distance_in distances g.vertices u j) limit t)

    module _ {lasts : List ℕ} (last : LastsTabled g roots distances lasts) {v : ℕ} (n : Nearest g dist (piece_at a.pieces i) v) where
      abbrev row : List ℕ
      row = row_of g.vertices lasts (get_or a.assignment i 0)

      abbrev shortest : Shortest g root dist row
      shortest = last.each (get_or a.assignment i 0) (byte_is_root i h)

      -- A path leads back from it,
      pub part_back : BackGiven row root v 2048
      part_back =
          let low = nearest_reached n in
          record {
            trail = nearest_back shortest n low (row_whole g.vertices lasts _ _ (byte_is_root i h) last.room) (omega (arith, valid.vertices_most));
            marks = λ e m. omega (arith, (shortest.path v n.inside low).inside e m, valid.edges_most);
          }

      -- and it is a shortest path to the part.
      pub part_path : root < g.vertices → IsShortestPath g root (part_of (rooted_parts g roots limit) i) (turned (trail_of row root v))
      part_path inside =
          rw (part_is p.pieces i h)
          (path_risen (nearest_shortest_path shortest n (nearest_reached n) valid inside (vertices_inside valid (piece_at a.pieces i) (start_in_lem p.pieces i h))))
