-- Growing and splitting a trial's forest leaves nothing out. Where every vertex is linked to a root by the forest and no edge is one too
-- many, each edge stands in the parts and the leftovers together exactly once, and each vertex is a root or an end of one of those edges.
-- That holds of the forest of a rooted trial at a limit that joins every vertex to a root, and of the forest of an unrooted one at any.
-- Assumes nothing.
use Prim.Native.Nat.{ℕ, ◌+◌, ◌≤◌, ◌<◌}
use mathlib.Core.Path.{◌≡◌, ap, ◌∙◌}
use mathlib.Core.List.{List, map}
use mathlib.Core.Logic.{◌⊎◌, inl, inr}
use mathlib.Core.Option.{none}
use native.Mathlib.Omega.{arith}
use lib.ListN.{length}
use Rattle.lists.specs.Lists.{times}
use Rattle.lists.specs.Member.{◌∈◌}
use Rattle.lists.specs.Sort.{rise}
use Rattle.lists.proofs.Sorting.{in_rise, of_rise}
use Rattle.lists.proofs.Times.{times_rise, in_times, once_times}
use Rattle.graph.specs.Graph.{Graph, edge_count, one_end, other_end}
use Rattle.graph.specs.Valid.{Valid}
use Rattle.rules.specs.Walk.{Joins, Linked}
use Rattle.rules.specs.Cover.{Tree}
use Rattle.rules.specs.Labels.{Labels, apart, together}
use Rattle.rules.specs.Forest.{forest, labels_at, lowest}
use Rattle.rules.specs.Grow.{Rooted, grow}
use Rattle.rules.specs.Split.{Pieces, split, all_parts}
use Rattle.rules.specs.RootedTrial.{unjoined_at}
use Rattle.rules.specs.CoverBytes.{entry_edges}
use Rattle.rules.proofs.Linked.{linked_more}
use Rattle.forest_laws.proofs.Roots.{Reached, some_head, together_joins}
use Rattle.forest_laws.proofs.Unjoined.{unjoined_none}
use Rattle.forest_laws.proofs.Forest.{forest_light, forest_once, forest_apart, root_label_is_reached}
use Rattle.split_laws.proofs.Along.{child_branch}
use Rattle.split_laws.proofs.Deep.{Inside}
use Rattle.split_laws.proofs.Trees.{all_children, of_all_children, tree_hangs}
use Rattle.split_laws.proofs.Reached.{all_reached}
use Rattle.split_laws.proofs.Once.{Untied, edges_same}
use Rattle.split_laws.proofs.Untied.{untied_fewer, labels_untied}
use Rattle.split_laws.proofs.Lowest.{lowest_inside, lowest_apart, lowest_reach}
use Rattle.split_laws.proofs.SplitTree.{tree_split}
use Rattle.split_laws.proofs.SplitForest.{all_left, in_all_parts, trees_exact}

-- The edges, from these roots, make trees that hold every vertex, with no edge too many.
pub record ForestFrom (g : Graph) (roots edges : List ℕ) : Type 0 where
  pub inside : Inside g edges
  pub roots_inside : (r : ℕ) → r ∈ roots → r < g.vertices
  pub once : (e : ℕ) → times e edges ≤ 1
  pub untied : Untied g roots edges
  pub reached : (v : ℕ) → v < g.vertices → Reached g roots edges v

-- The vertex is a root, or an end of an edge in a part, or of an edge left of one of the trees.
pub data Held (g : Graph) (H : ℕ) (roots : List ℕ) (trees : List Rooted) (v : ℕ) : Type 0 where
  at_root : v ∈ roots → Held g H roots trees v
  at_part : (p : Tree) → p ∈ all_parts (map (split g H) trees) → (e far : ℕ) → e ∈ p.edges → Joins g e far v → Held g H roots trees v
  at_left : (t : Rooted) → t ∈ trees → (e far : ℕ) → e ∈ (split g H t).left → Joins g e far v → Held g H roots trees v

-- The trees grown along the edges from the roots, split with threshold H.
abbrev pub pieces_from : Graph → ℕ → List ℕ → List ℕ → List Pieces
pieces_from g H roots edges = map (split g H) (grow g edges roots)

-- Splitting leaves nothing out: each number stands in the parts and the leftovers together as often as among the edges, so each edge once,
-- and each vertex is held.
pub record SplitWhole (g : Graph) (H : ℕ) (roots edges : List ℕ) : Type 0 where
  pub exact : (e : ℕ) → times e (entry_edges (all_parts (pieces_from g H roots edges))) + times e (all_left (pieces_from g H roots edges)) ≡ times e edges
  pub edge_once : {e : ℕ} → e ∈ edges → times e (entry_edges (all_parts (pieces_from g H roots edges))) + times e (all_left (pieces_from g H roots edges)) ≡ 1
  pub held : (v : ℕ) → v < g.vertices → Held g H roots (grow g edges roots) v

module _ {g : Graph} {roots edges : List ℕ} (f : ForestFrom g roots edges) (H : ℕ) where
  -- The pieces hold each number as often as the edges do,
  pieces_exact : (e : ℕ) → times e (entry_edges (all_parts (pieces_from g H roots edges))) + times e (all_left (pieces_from g H roots edges)) ≡ times e edges
  pieces_exact e = trees_exact g H (grow g edges roots) e ∙ edges_same g edges roots f.inside f.roots_inside f.untied f.once (λ d m. f.reached (one_end g d) (f.inside d m).0) e

  -- and every vertex.
  pieces_hold : (v : ℕ) → v < g.vertices → Held g H roots (grow g edges roots) v
  pieces_hold v within = go (all_reached g edges f.inside roots f.roots_inside (f.reached v within))
    where
      split_edge : {t : Rooted} {e far : ℕ} → t ∈ grow g edges roots → Joins g e far v → ((p : Tree) × (p ∈ (split g H t).parts) × (e ∈ p.edges)) ⊎ (e ∈ (split g H t).left)
          → Held g H roots (grow g edges roots) v
      split_edge {t} {e} {far} m j (inl (p, k, n)) = at_part p (in_all_parts g H m k) e far n j
      split_edge {t} {e} {far} m j (inr n) = at_left t m e far n j

      go : (v ∈ roots) ⊎ (v ∈ all_children (grow g edges roots)) → Held g H roots (grow g edges roots) v
      go (inl m) = at_root m
      go (inr m) =
          let (t, i, n) = of_all_children (grow g edges roots) m in
          let hangs = tree_hangs g edges roots i in
          let (u, e, k, j) = child_branch hangs n in
          split_edge i j ((tree_split g H t hangs).kept k)

  -- Splitting the trees of such a forest leaves nothing out.
  pub split_whole : SplitWhole g H roots edges
  split_whole = record {
    exact = pieces_exact;
    edge_once = λ {e} m. omega (arith, pieces_exact e, f.once e, in_times m);
    held = pieces_hold;
  }

-- Both ends of every edge of the graph are vertices of the graph;
abbrev pub EndsInside : Graph → Type 0
EndsInside g = (e : ℕ) → e < edge_count g → (one_end g e < g.vertices) × (other_end g e < g.vertices)

-- so it is in a valid graph.
pub valid_ends : {g : Graph} → Valid g → EndsInside g
valid_ends valid e h = let x = valid.each_edge e h in (x.one_end, x.other_end)

-- A trial's forest is such a forest, by number, where the roots that it links are joined from the start and it links each vertex to a root.
module _ {g : Graph} (ends : EndsInside g) (P : Labels) (limit : ℕ) (roots : List ℕ) (within : (r : ℕ) → r ∈ roots → r < g.vertices)
    (alike : (r s : ℕ) → r ∈ roots → s ∈ roots → Linked g (forest g P limit) r s → P r ≡ P s)
    (reached : (v : ℕ) → v < g.vertices → Reached g roots (forest g P limit) v) where
  forest_from : ForestFrom g roots (rise (forest g P limit))
  forest_from = record {
    inside = λ e m. ends e (forest_light g P limit e (of_rise (forest g P limit) m)).0;
    roots_inside = within;
    once = λ e. omega (arith, times_rise e (forest g P limit), once_times (forest_once g P limit) e);
    untied = untied_fewer (λ e m. of_rise (forest g P limit) m) (labels_untied (record { alike = alike; no_loop = λ e m. forest_apart g P limit m }));
    reached = λ v h. let (r, m, l) = reached v h in (r, m, linked_more (λ e n. in_rise n) l);
  }

module _ {g : Graph} (ends : EndsInside g) (limit : ℕ) where
  module _ (roots : List ℕ) (within : (r : ℕ) → r ∈ roots → r < g.vertices) (some_root : 1 ≤ length roots) (all_joined_lem : unjoined_at g roots limit ≡ none) where
    -- Where no vertex is unjoined, the forest links each to a root.
    joined_reached : (v : ℕ) → v < g.vertices → Reached g roots (forest g (together roots) limit) v
    unfolding unjoined_at
    joined_reached v h =
        (root_label_is_reached g limit roots (some_head roots some_root) v).0 ((unjoined_none g roots (labels_at g (together roots) limit)).0 all_joined_lem v h)

    -- The forest of a rooted trial, where every vertex is joined to a root.
    pub rooted_forest : ForestFrom g roots (rise (forest g (together roots) limit))
    rooted_forest = forest_from ends (together roots) limit roots within (λ r s m n l. together_joins roots m n) joined_reached

    -- Splitting it leaves nothing out.
    pub rooted_whole : (H : ℕ) → SplitWhole g H roots (rise (forest g (together roots) limit))
    rooted_whole H = split_whole rooted_forest H

  -- The forest of an unrooted trial, each component rooted at its lowest vertex.
  pub unrooted_forest : ForestFrom g (lowest g (labels_at g apart limit)) (rise (forest g apart limit))
  unrooted_forest =
      forest_from ends apart limit (lowest g (labels_at g apart limit)) (λ r m. lowest_inside g (labels_at g apart limit) m)
      (λ r s m n l. ap apart (lowest_apart g limit m n l)) (lowest_reach g limit)

  -- Splitting it leaves nothing out.
  pub unrooted_whole : (H : ℕ) → SplitWhole g H (lowest g (labels_at g apart limit)) (rise (forest g apart limit))
  unrooted_whole H = split_whole unrooted_forest H
