-- The rows of the distances from all roots and of their last edges, filled one root after the other.
-- Assumes nothing.
use Prim.Native.Nat.{ℕ, ◌+◌, ◌*◌, ◌≤◌, ◌<◌}
use mathlib.Core.Path.{◌≡◌, sym, subst, ◌∙◌}
use mathlib.Core.List.{List, ◌++◌}
use mathlib.Core.Option.{none}
use native.Mathlib.Omega.{arith}
use borrow.Author.Count.{below_more}
use lib.ListN.{length, get_or, take, drop}
use Rattle.lists.specs.Count.{below}
use Rattle.lists.specs.Put.{Put, OnlyFirst}
use Rattle.lists.proofs.Put.{put_length, only_first_length}
use Rattle.graph.specs.Graph.{Graph, edge_count}
use Rattle.rules.specs.Distance.{distances as distances_from}
use Rattle.edges.specs.Around.{Around}
use Rattle.distance.specs.Shortest.{SaysDistance, Shortest, Searched}
use Rattle.distance_table.specs.Tabled.{row_of}
use Rattle.distance_table.specs.Table.{TableFilled}
use Rattle.distance_table.proofs.RowPlaces.{row_length, row_before, part_at}
use Rattle.distance_table.proofs.RowsPut.{row_put, row_here, row_earlier, only_first_row}

-- The distances and the last edges of one root are those that were searched, of whatever graph the arcs are.
pub record RootSearched (n : ℕ) (bounds arcs : List ℕ) (root : ℕ) (row last : List ℕ) : Type 0 where
  pub of_graph : (g : Graph) → Around g (below (edge_count g)) bounds arcs → g.vertices ≡ n → Shortest g root row last

-- The rows of the first j roots are filled, and nothing behind them changed.
pub record TableUnderway (n : ℕ) (bounds arcs roots : List ℕ) (j : ℕ) (distances distances_now lasts Lasts-now : List ℕ) : Type 0 where
  pub within : j ≤ length roots
  pub table_size : length distances_now ≡ length distances
  pub lasts_size : length Lasts-now ≡ length lasts
  pub table_only : OnlyFirst (j * n) distances distances_now
  pub lasts_only : OnlyFirst (j * n) lasts Lasts-now
  pub each : (i : ℕ) → i < j → RootSearched n bounds arcs (get_or roots i 0) (row_of n distances_now i) (row_of n Lasts-now i)

module _ (n : ℕ) (bounds arcs roots : List ℕ) where
  module _ {j : ℕ} {distances distances_now lasts Lasts-now : List ℕ} (m : TableUnderway n bounds arcs roots j distances distances_now lasts Lasts-now) where
    -- One root more, whose rows were put into their places.
    row_more : {dist last distances_next lasts_next : List ℕ} → j < length roots → length dist ≡ n → length last ≡ n
        → Put (j * n) dist distances_now distances_next → Put (j * n) last Lasts-now lasts_next → RootSearched n bounds arcs (get_or roots j 0) dist last
        → TableUnderway n bounds arcs roots (j + 1) distances distances_next lasts lasts_next
    row_more {distances_next = distances_next} {lasts_next = lasts_next} h dist_size last_size in_place last_in_place searched =
        record {
          within = omega arith;
          table_size = put_length in_place ∙ m.table_size;
          lasts_size = put_length last_in_place ∙ m.lasts_size;
          table_only = only_first_row j n in_place dist_size m.table_only;
          lasts_only = only_first_row j n last_in_place last_size m.lasts_only;
          each =
              below_more (λ i. RootSearched n bounds arcs (get_or roots i 0) (row_of n distances_next i) (row_of n lasts_next i)) j
              (λ i l. rw (row_earlier j n in_place dist_size i l, row_earlier j n last_in_place last_size i l) (m.each i l))
              (rw (row_here j n in_place dist_size, row_here j n last_in_place last_size) searched);
        }

    -- As a search that was lent them leaves them: `size` is how long they are.
    pub table_put : {size root : ℕ} {dist last : List ℕ} → j < length roots → j * n + n ≤ length distances_now → j * n + n ≤ length Lasts-now → size ≡ n → root ≡ get_or roots j 0
        → Searched n bounds arcs root (take size (drop (j * n) distances_now)) (take size (drop (j * n) Lasts-now)) dist last
        → TableUnderway n bounds arcs roots (j + 1) distances (take (j * n) distances_now ++ (dist ++ drop size (drop (j * n) distances_now)))
        lasts (take (j * n) Lasts-now ++ (last ++ drop size (drop (j * n) Lasts-now)))
    table_put {size} {root} {dist} {last} h in_table in_lasts same is f =
        let q : size ≡ n = same in
        let r : root ≡ get_or roots j 0 = is in
        let s = rw (q, r) at f in
        let dist_size : length dist ≡ n = only_first_length s.dist_rest ∙ row_length distances_now (j * n) n in_table in
        let last_size : length last ≡ n = only_first_length s.last_rest ∙ row_length Lasts-now (j * n) n in_lasts in
        row_more h dist_size last_size (row_put distances_now dist (j * n) n in_table q dist_size) (row_put Lasts-now last (j * n) n in_lasts q last_size)
        (record { of_graph = s.of_graph })

    -- As they are copied from an earlier root at the same vertex.
    pub table_copied : {i : ℕ} {distances_next lasts_next : List ℕ} → i < j → j < length roots → get_or roots i 0 ≡ get_or roots j 0
        → j * n + n ≤ length distances_now → j * n + n ≤ length Lasts-now
        → Put (j * n) (row_of n distances_now i) distances_now distances_next → Put (j * n) (row_of n Lasts-now i) Lasts-now lasts_next
        → TableUnderway n bounds arcs roots (j + 1) distances distances_next lasts lasts_next
    table_copied {i} l h same in_table in_lasts put last_put =
        let before = row_before i j n l in
        row_more h (row_length distances_now (i * n) n (omega arith)) (row_length Lasts-now (i * n) n (omega arith)) put last_put (rw same at (m.each i l))

    -- All roots.
    pub table_all : length roots ≤ j → length roots * n ≤ length distances → length roots * n ≤ length lasts
        → TableFilled n bounds arcs roots distances distances_now lasts Lasts-now
    table_all h distances_room lasts_room =
        let all : j ≡ length roots = omega (arith, m.within) in
        record {
          of_graph =
              λ g around same.
              let each : (i : ℕ) → i < length roots → Shortest g (get_or roots i 0) (row_of g.vertices distances_now i) (row_of g.vertices Lasts-now i) =
              λ i k.
              subst (λ c. Shortest g (get_or roots i 0) (row_of c distances_now i) (row_of c Lasts-now i)) (sym same) ((m.each i (omega arith)).of_graph g around same) in
              record {
                distances_are =
                    record {
                      room = rw same (omega (arith, m.table_size));
                      each =
                          λ v i l k.
                          subst (λ d. SaysDistance d (get_or (distances_from g (get_or roots i 0)) v none)) (part_at (i * g.vertices) g.vertices distances_now v l)
                          ((each i k).distance v l);
                    };
                last_edges = record { room = rw same (omega (arith, m.lasts_size)); each = each };
              };
          distances_rest = rw all at m.table_only;
          lasts_rest = rw all at m.lasts_only;
        }
