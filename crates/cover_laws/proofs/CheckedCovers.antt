-- The check of a filed cover says yes exactly to covers: its bytes pass exactly where they are the bytes of a cover, and it is the cover that is read.
-- Assumes nothing.
use Prim.Native.Nat.{ℕ, ◌≤◌, ◌<◌}
use mathlib.Core.Path.{◌≡◌, sym, ap, subst, ◌∙◌}
use mathlib.Core.List.{List}
use mathlib.Core.Logic.{◌↔◌}
use mathlib.Core.Option.{none}
use native.Mathlib.Omega.{arith}
use Rattle.lists.specs.Count.{below}
use Rattle.lists.specs.Member.{◌∈◌}
use Rattle.lists.specs.InOrder.{Rising}
use Rattle.lists.proofs.Member.{of_map}
use Rattle.graph.specs.Graph.{Graph, edge_count}
use Rattle.graph.specs.Valid.{Valid}
use Rattle.rules.specs.Cover.{Tree, IsTree, Crews, Starts, IsCover, heaviest}
use Rattle.rules.specs.CoverBytes.{trees_in, tree_in, encode, decode}
use Rattle.rules.specs.CheckCover.{cover_fault}
use Rattle.rules.specs.Fit.{crew_count}
use Rattle.rules.proofs.Fields.{Bytes}
use Rattle.cover_laws.proofs.Entries.{Entry, entries_of, edges_of, of_entries}
use Rattle.cover_laws.proofs.RisingEntries.{grouped, of_edges, edges_rise, rises_entries}
use Rattle.cover_laws.proofs.Reading.{entries_read, tree_in_grouped}
use Rattle.cover_laws.proofs.Writing.{Fits, length_entries, length_encode, trees_again, count_again, entries_read_again, decode_encode}
use Rattle.cover_laws.proofs.EntryTest.{Named, passed_named, named_passes, passed_again}
use Rattle.cover_laws.proofs.VertexTest.{passed_covered, covered_passes}
use Rattle.cover_laws.proofs.TreeTest.{passed_trees, trees_pass}
use Rattle.cover_laws.proofs.CoverSize.{cover_fits}
use Rattle.cover_laws.proofs.StartTest.{passed_starts, starts_pass, passed_inside, inside_passes}
use Rattle.cover_laws.proofs.PassedTests.{Passed, quiet_passed, passed_quiet}

-- The edges of a tree that is read are those that the entries give it.
read_edges : (b : List ℕ) (t : Tree) → t ∈ decode b → (j : ℕ) × (t.edges ≡ edges_of j (entries_read b))
unfolding decode grouped
read_edges b t m =
    let r = of_map (tree_in b) (below (trees_in b)) m in
    (r.0, ap (λ (s : Tree). s.edges) (r.2 ∙ tree_in_grouped b r.0))

module _ (g : Graph) (crews : Crews) (b : List ℕ) (p : Passed g crews b) where
  entries : Named (edge_count g) b
  entries = passed_named (edge_count g) b p.entries

  -- What is read from bytes that pass are trees.
  read_tree : (t : Tree) → t ∈ decode b → IsTree g t
  read_tree t m =
      let r = read_edges b t m in
      let rising = subst Rising (sym r.1) (edges_rise r.0 entries.ordered.rises) in
      let q = passed_trees g (decode b) p.trees t m rising in
      record {
        start_inside = passed_inside g.vertices b p.inside t m;
        edges_inside = λ e k. inside r e k;
        rising = rising;
        joined = q.1;
        no_loop = q.0;
      }
    where
      inside : (j : ℕ) × (t.edges ≡ edges_of j (entries_read b)) → (e : ℕ) → e ∈ t.edges → e < edge_count g
      inside r e k =
          let x = of_edges r.0 (entries_read b) (subst (λ l. e ∈ l) r.1 k) in
          omega (arith, x.3, entries.edges x.0 x.1)

  -- What is read from bytes that pass is a cover.
  read_cover : IsCover g crews (decode b)
  read_cover =
      record {
        starts = passed_starts crews b p.starts;
        all_covered = record { are_trees = read_tree; covered = passed_covered g (decode b) p.covered };
      }

  -- Bytes that pass are the bytes of what is read.
  read_bytes : Bytes b → encode (decode b) ≡ b
  read_bytes by = passed_again (edge_count g) b by p.sized p.entries

module _ (g : Graph) (crews : Crews) (trees : List Tree) (cover : IsCover g crews trees) (fits : Fits trees) where
  again : decode (encode trees) ≡ trees
  again = decode_encode trees fits

  are : (t : Tree) → t ∈ trees → IsTree g t
  are = cover.all_covered.are_trees

  -- The entries of a cover rise, and name trees and edges that there are.
  cover_named : Named (edge_count g) (encode trees)
  cover_named =
      record {
        ordered =
            record {
              rises = rw (entries_read_again trees fits) (rises_entries 0 trees (λ t m. (are t m).rising));
              trees = λ x m. omega (arith, trees_again trees fits, (of_entries 0 trees (listed m)).1);
            };
        edges = λ x m. let q = (of_entries 0 trees (listed m)).2 in (are q.0 q.1).edges_inside x.edge q.2;
      }
    where
      listed : {x : Entry} → x ∈ entries_read (encode trees) → x ∈ entries_of 0 trees
      listed {x} m = subst (λ l. x ∈ l) (entries_read_again trees fits) m

  -- The bytes of a cover pass all tests.
  cover_passes : Passed g crews (encode trees)
  cover_passes =
      record {
        sized = omega (arith, length_encode trees, trees_again trees fits, count_again trees fits, length_entries trees);
        starts = starts_pass crews (encode trees) (subst (Starts crews) (sym again) cover.starts);
        inside = inside_passes g.vertices (encode trees) (λ t m. (are t (subst (λ l. t ∈ l) again m)).start_inside);
        entries = named_passes (edge_count g) (encode trees) cover_named;
        trees = rw again (trees_pass g trees (λ t m. let r = are t m in (r.rising, r.no_loop, r.joined)));
        covered = rw again (covered_passes g trees cover.all_covered.covered);
      }

module _ (g : Graph) (valid : Valid g) (crews : Crews) (few : crew_count crews ≤ 32) where
  -- The bytes of a cover are read as that very cover.
  pub cover_read : (trees : List Tree) → IsCover g crews trees → decode (encode trees) ≡ trees
  cover_read trees cover = decode_encode trees (cover_fits g valid crews few trees cover)

  -- So the heaviest tree that is read is the cover's.
  pub heaviest_read : (trees : List Tree) → IsCover g crews trees → (b : List ℕ) → b ≡ encode trees → heaviest g (decode b) ≡ heaviest g trees
  heaviest_read trees cover b e = ap (heaviest g) (ap decode e ∙ cover_read trees cover)

  -- Bytes are not refused exactly where they are the bytes of a cover.
  pub checked_covers : (b : List ℕ) → Bytes b → (cover_fault g crews b ≡ none) ↔ ((trees : List Tree) × IsCover g crews trees × (b ≡ encode trees))
  checked_covers b by = (one, other)
    where
      one : cover_fault g crews b ≡ none → (trees : List Tree) × IsCover g crews trees × (b ≡ encode trees)
      one e = let p = quiet_passed g crews b e in (decode b, read_cover g crews b p, sym (read_bytes g crews b p by))

      other : (trees : List Tree) × IsCover g crews trees × (b ≡ encode trees) → cover_fault g crews b ≡ none
      other (trees, cover, e) =
          rw e (passed_quiet g crews (encode trees) (cover_passes g crews trees cover (cover_fits g valid crews few trees cover)))
