-- Marks of the vertices, set one after the other: the starts of the trees, and the ends of the entries' edges.
-- Assumes nothing.
use Prim.Native.Nat.{ℕ, ◌+◌, ◌<◌}
use mathlib.Core.Path.{◌≡◌, refl, sym, ap₂, subst, ◌∙◌}
use mathlib.Core.Bool.{Bool, true}
use mathlib.Core.List.{List}
use mathlib.Core.Logic.{◌⊎◌, inl, inr, ◌↔◌}
use native.Mathlib.Omega.{arith}
use lib.ListN.{length, get_or, set, length-set}
use lib.Seq.{get_or-set_same, get_or-set_other}
use lib.Dec.{eqb}
use borrow.Author.Count.{below_more}
use borrow.Author.Tests.{eq-eqb}
use Rattle.lists.specs.Count.{below}
use Rattle.lists.specs.Lists.{filter}
use Rattle.lists.specs.Member.{◌∈◌}
use Rattle.lists.proofs.Below.{equal_or_not, of_below, in_below}
use Rattle.lists.proofs.Member.{in_filter, of_filter, in_map, of_map}
use Rattle.lists.proofs.SameYes.{same_test}
use Rattle.graph.specs.Graph.{Graph, one_end, other_end}
use Rattle.rules.specs.Cover.{Covers, at_start, at_one_end, at_other_end}
use Rattle.rules.specs.CoverBytes.{trees_in, entries_in, start_in, entry_tree, entry_edge, tree_in, decode}
use Rattle.rules.specs.CheckCover.{vertices_covered}
use Rattle.forest.specs.Marks.{AllMarked}
use Rattle.cover_laws.proofs.VertexTest.{HasTree, passed_covered, covered_passes}
use Rattle.filed_entries.specs.Vertices.{VertexMarked, OnlyCovered, StartsMarked, EndsMarked}

-- One mark more.
module _ (marks : List ℕ) (x : ℕ) where
  -- What is marked now was marked before, or is the new one.
  mark_of : (v : ℕ) → VertexMarked (set marks x 1) v → (v ≡ x) ⊎ VertexMarked marks v
  mark_of v p = go (equal_or_not v x)
    where
      go : (v ≡ x) ⊎ (v ≡ x → ⊥) → (v ≡ x) ⊎ VertexMarked marks v
      go (inl q) = inl q
      go (inr d) = inr (sym (get_or-set_other marks x v 1 0 d) ∙ p)

  module _ (h : x < length marks) where
    mark_here : VertexMarked (set marks x 1) x
    mark_here = get_or-set_same marks x 1 0 h

    -- What was marked stays so.
    mark_kept : (v : ℕ) → VertexMarked marks v → VertexMarked (set marks x 1) v
    mark_kept v p = go (equal_or_not v x)
      where
        go : (v ≡ x) ⊎ (v ≡ x → ⊥) → VertexMarked (set marks x 1) v
        go (inl q) = rw q mark_here
        go (inr d) = get_or-set_other marks x v 1 0 d ∙ p

    -- What is not marked is as it came.
    mark_rest : (v : ℕ) → (VertexMarked (set marks x 1) v → ⊥) → get_or (set marks x 1) v 0 ≡ get_or marks v 0
    mark_rest v n = go (equal_or_not v x)
      where
        go : (v ≡ x) ⊎ (v ≡ x → ⊥) → get_or (set marks x 1) v 0 ≡ get_or marks v 0
        go (inl q) = absurd (n (rw q mark_here))
        go (inr d) = get_or-set_other marks x v 1 0 d

  only_more : (g : Graph) (c : List ℕ) → HasTree g (decode c) x → OnlyCovered g c marks → OnlyCovered g c (set marks x 1)
  only_more g c new only v p = go (mark_of v p)
    where
      go : (v ≡ x) ⊎ VertexMarked marks v → HasTree g (decode c) v
      go (inl q) = rw q new
      go (inr old) = only v old

module _ (g : Graph) (c : List ℕ) where
  -- A tree covers its start.
  start_covered : (j : ℕ) → j < trees_in c → HasTree g (decode c) (start_in c j)
  unfolding decode tree_in
  start_covered j h = (tree_in c j, in_map (tree_in c) (in_below (trees_in c) h), at_start refl)

  -- The tree that an entry names has the entry's edge.
  entry_in_tree : (i : ℕ) → i < entries_in c → entry_edge c i ∈ (tree_in c (entry_tree c i)).edges
  unfolding tree_in
  entry_in_tree i h =
      in_map (entry_edge c) (in_filter (λ k. eqb (entry_tree c k) (entry_tree c i)) (in_below (entries_in c) h) (eq-eqb (entry_tree c i) (entry_tree c i) refl))

  -- So it covers that edge's ends.
  module _ (i : ℕ) (h : i < entries_in c) (named : entry_tree c i < trees_in c) where
    one_end_covered : HasTree g (decode c) (one_end g (entry_edge c i))
    unfolding decode
    one_end_covered =
        (tree_in c (entry_tree c i), in_map (tree_in c) (in_below (trees_in c) named), at_one_end (entry_edge c i) (entry_in_tree i h) refl)

    other_end_covered : HasTree g (decode c) (other_end g (entry_edge c i))
    unfolding decode
    other_end_covered =
        (tree_in c (entry_tree c i), in_map (tree_in c) (in_below (trees_in c) named), at_other_end (entry_edge c i) (entry_in_tree i h) refl)

-- Starts, one after the other.
module _ {c : List ℕ} {j : ℕ} {before after : List ℕ} (s : StartsMarked c j before after) where
  pub starts_more : length after ≡ length before → j < trees_in c → start_in c j < length before → StartsMarked c (j + 1) before (set after (start_in c j) 1)
  starts_more long h l =
      let x = start_in c j in
      let inside : x < length after = omega arith in
      record {
        starts = below_more (λ k. VertexMarked (set after x 1) (start_in c k)) j (λ k m. mark_kept after x inside (start_in c k) (s.starts k m)) (mark_here after x inside);
        only = λ g only. only_more after x g c (start_covered g c j h) (s.only g only);
        rest = λ v n. mark_rest after x inside v n ∙ s.rest v (λ p. n (mark_kept after x inside v p));
      }

-- Ends, entry by entry.
module _ {g : Graph} {c : List ℕ} {i : ℕ} {before after : List ℕ} (s : EndsMarked g c i before after) where
  ends_more : length after ≡ length before → i < entries_in c → one_end g (entry_edge c i) < length before → other_end g (entry_edge c i) < length before
      → EndsMarked g c (i + 1) before (set (set after (one_end g (entry_edge c i)) 1) (other_end g (entry_edge c i)) 1)
  ends_more long h hu hv =
      let u = one_end g (entry_edge c i) in
      let v = other_end g (entry_edge c i) in
      let once = set after u 1 in
      let inside : u < length after = omega arith in
      let inside_once : v < length once = omega (arith, length-set after u 1) in
      let kept : (w : ℕ) → VertexMarked after w → VertexMarked (set once v 1) w = λ w p. mark_kept once v inside_once w (mark_kept after u inside w p) in
      record {
        ends =
            below_more (λ k. VertexMarked (set once v 1) (one_end g (entry_edge c k)) × VertexMarked (set once v 1) (other_end g (entry_edge c k))) i
            (λ k m. (kept (one_end g (entry_edge c k)) (s.ends k m).0, kept (other_end g (entry_edge c k)) (s.ends k m).1))
            (mark_kept once v inside_once u (mark_here after u inside), mark_here once v inside_once);
        only = λ named only.
            only_more once v g c (other_end_covered g c i h (named i h))
            (only_more after u g c (one_end_covered g c i h (named i h)) (s.only named only));
        kept = λ w p. kept w (s.kept w p);
        rest = λ w n.
            mark_rest once v inside_once w n
            ∙ mark_rest after u inside w (λ p. n (mark_kept once v inside_once w p))
            ∙ s.rest w (λ p. n (kept w p));
      }

  -- The same, where the ends were read.
  pub ends_read : {u v : ℕ} → u ≡ one_end g (entry_edge c i) → v ≡ other_end g (entry_edge c i) → length after ≡ length before → i < entries_in c
      → u < length before → v < length before → EndsMarked g c (i + 1) before (set (set after u 1) v 1)
  ends_read p q long h hu hv =
      let x = one_end g (entry_edge c i) in
      let y = other_end g (entry_edge c i) in
      let more : EndsMarked g c (i + 1) before (set (set after x 1) y 1) = ends_more long h (omega (arith, p)) (omega (arith, q)) in
      subst (λ (w : List ℕ). EndsMarked g c (i + 1) before w) (ap₂ (λ k l. set (set after k 1) l 1) (sym p) (sym q)) more

-- Where all starts and all ends are marked, every vertex that is covered is.
module _ (g : Graph) (c marks : List ℕ) (starts : (j : ℕ) → j < trees_in c → VertexMarked marks (start_in c j))
    (ends : (i : ℕ) → i < entries_in c → VertexMarked marks (one_end g (entry_edge c i)) × VertexMarked marks (other_end g (entry_edge c i))) where
  -- An edge of a tree is that of an entry.
  entry_of : (j e : ℕ) → e ∈ (tree_in c j).edges → (i : ℕ) × (i < entries_in c) × (e ≡ entry_edge c i)
  unfolding tree_in
  entry_of j e m =
      let r = of_map (entry_edge c) (filter (λ k. eqb (entry_tree c k) j) (below (entries_in c))) m in
      (r.0, of_below (entries_in c) (of_filter (λ k. eqb (entry_tree c k) j) (below (entries_in c)) r.1).0, r.2)

  tree_marked : (v j : ℕ) → j < trees_in c → Covers g (tree_in c j) v → VertexMarked marks v
  unfolding tree_in
  tree_marked v j h (at_start q) = rw q (starts j h)
  tree_marked v j h (at_one_end e m q) = let (i, l, p) = entry_of j e m in rw (q, p) (ends i l).0
  tree_marked v j h (at_other_end e m q) = let (i, l, p) = entry_of j e m in rw (q, p) (ends i l).1

  pub covered_marked : (v : ℕ) → HasTree g (decode c) v → VertexMarked marks v
  unfolding decode
  covered_marked v (t, m, covers) =
      let r = of_map (tree_in c) (below (trees_in c)) m in
      tree_marked v r.0 (of_below (trees_in c) r.1) (rw r.2 at covers)

-- Starts and ends were marked where nothing was: all vertices are marked exactly where all are covered.
pub all_marked_covered : (g : Graph) (c m₀ m₁ m₂ : List ℕ) → ((v : ℕ) → VertexMarked m₀ v → ⊥) → StartsMarked c (trees_in c) m₀ m₁ → EndsMarked g c (entries_in c) m₁ m₂
    → ((i : ℕ) → i < entries_in c → entry_tree c i < trees_in c) → (r : Bool) → (r ≡ true) ↔ AllMarked m₂ g.vertices → r ≡ vertices_covered g (decode c)
all_marked_covered g c m₀ m₁ m₂ none s e named r decides =
    same_test r (vertices_covered g (decode c))
    (λ t. covered_passes g (decode c) (λ v h. e.only named (s.only g (λ u p. absurd (none u p))) v (decides.0 t v h)))
    (λ t. decides.1 (λ v h. covered_marked g c m₂ (λ j l. e.kept (start_in c j) (s.starts j l)) e.ends v (passed_covered g (decode c) t v h)))
