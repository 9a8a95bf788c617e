-- Limit 0 (document 02, A.4): "A limit of 0 accepts exactly when weightless lines join every stop to a yard, or into at most k components."
-- Nothing is split there, so that every root is free, and a component needs one tree.
-- Assumes nothing.
use Prim.Native.Nat.{ℕ, ◌≤◌, ◌<◌}
use mathlib.Core.Path.{◌≡◌, refl, sym, ap, ◌∙◌}
use mathlib.Core.Bool.{true, ◌&&◌, false≢true}
use mathlib.Core.List.Memᴰ
use mathlib.Core.List.{List, [], ◌∷◌, map}
use mathlib.Core.Logic.{◌↔◌}
use mathlib.Core.Option.{Option, some, none}
use native.Mathlib.Nat.{div-zero}
use native.Mathlib.Omega.{arith}
use lib.ListN.{length, length-map}
use lib.Dec.{eqb}
use borrow.Author.Tests.{eqb-true, eq-eqb, leb-true, le-leb}
use Rattle.lists.specs.Count.{below, from}
use Rattle.lists.specs.Lists.{flat}
use Rattle.lists.specs.Member.{◌∈◌}
use Rattle.lists.specs.InOrder.{InOrder}
use Rattle.lists.specs.Sort.{rise}
use Rattle.lists.proofs.Member.{in_filter, of_filter, in_map, of_map}
use Rattle.lists.proofs.Below.{in_below, of_below}
use Rattle.lists.proofs.InOrder.{rising_once, in_order_within}
use Rattle.lists.proofs.Images.{images_once, images_in_order}
use Rattle.lists.proofs.Lengths.{length_within}
use Rattle.lists.proofs.SumsAlike.{sum_same, length_sum}
use Rattle.graph.specs.Graph.{Graph, edge_count, weight_of}
use Rattle.matching.specs.Assignable.{assignable}
use Rattle.rules.specs.Walk.{Linked, total_weight}
use Rattle.rules.specs.Cover.{Crews, rooted, unrooted}
use Rattle.rules.specs.Order.{light}
use Rattle.rules.specs.Labels.{apart, together}
use Rattle.rules.specs.Forest.{forest, labels_at, lowest}
use Rattle.rules.specs.Grow.{Rooted, branch_edges, grow}
use Rattle.rules.specs.Split.{split, all_parts}
use Rattle.rules.specs.RootedTrial.{unjoined_at, rooted_pieces, rooted_parts, is_assignable}
use Rattle.rules.specs.UnrootedTrial.{components, needs, needed}
use Rattle.rules.specs.Search.{no_vertex, accepts}
use Rattle.rules.specs.Weightless.{weightless, JoinedTo, WeightlessJoined}
use Rattle.rules.specs.Fit.{CrewsFit}
use Rattle.rules.proofs.Linked.{linked_more}
use Rattle.forest_laws.proofs.Limit.{in_light, of_light}
use Rattle.forest_laws.proofs.Walks.{merged_linked, linked_merged}
use Rattle.forest_laws.proofs.Roots.{some_head, root_is_reached}
use Rattle.forest_laws.proofs.Unjoined.{unjoined_none}
use Rattle.split_laws.proofs.Lowest.{lowest_inside, lowest_rising, lowest_alike, lowest_of_lem}
use Rattle.split_laws.proofs.Weights.{no_parts}
use Rattle.planner_laws.proofs.ComponentEdges.{component_roots}

module _ (g : Graph) where
  -- The weightless edges are those within limit 0, in another order,
  light_weightless : (e : ℕ) → e ∈ light g 0 → e ∈ weightless g
  unfolding weightless
  light_weightless e m =
      let (h, w) = of_light g 0 m in
      in_filter (λ f. eqb (weight_of g f) 0) (in_below (edge_count g) h) (eq-eqb (weight_of g e) 0 (omega arith))

  weightless_light : (e : ℕ) → e ∈ weightless g → e ∈ light g 0
  unfolding weightless
  weightless_light e m =
      let (n, t) = of_filter (λ f. eqb (weight_of g f) 0) (below (edge_count g)) m in
      in_light g 0 (of_below (edge_count g) n) (omega (arith, eqb-true (weight_of g e) 0 t))

  -- and link the same.
  zero_linked : {u v : ℕ} → Linked g (light g 0) u v → Linked g (weightless g) u v
  zero_linked l = linked_more light_weightless l

  linked_zero : {u v : ℕ} → Linked g (weightless g) u v → Linked g (light g 0) u v
  linked_zero l = linked_more weightless_light l

  -- ROOTED

  -- Nothing is split at limit 0,
  unsplit : (trees : List Rooted) → all_parts (map (split g 0) trees) ≡ []
  unfolding all_parts flat split
  unsplit [] = refl
  unsplit (t ∷ trees) = rw (no_parts g t.root [] t.branches) (unsplit trees)

  pub zero_no_parts : (roots : List ℕ) → rooted_parts g roots 0 ≡ []
  unfolding rooted_parts rooted_pieces
  zero_no_parts roots = unsplit (grow g (rise (forest g (together roots) 0)) roots)

  -- so that there is nothing to assign.
  zero_assignable : (roots : List ℕ) → is_assignable g roots 0 ≡ true
  unfolding is_assignable assignable below from
  zero_assignable roots = rw (zero_no_parts roots) refl

  -- Limit 0 is accepted exactly where weightless edges join every vertex to a root.
  rooted_zero : (roots : List ℕ) → 1 ≤ length roots → (accepts g (rooted roots) 0 ≡ true) ↔ JoinedTo g roots
  unfolding accepts no_vertex unjoined_at labels_at
  rooted_zero roots has_root = (
    λ t. reached (unjoined_at g roots 0) refl (rw (zero_assignable roots) at t),
    λ joined. rw (zero_assignable roots, unreached joined) refl,
  )
    where
      reached : (o : Option ℕ) → unjoined_at g roots 0 ≡ o → (no_vertex o && true) ≡ true → JoinedTo g roots
      reached (some v) q t = absurd (false≢true t)
      reached none q t = λ v h.
          let (r, m, l) = (root_is_reached g roots (light g 0) (some_head roots has_root) v).0 ((unjoined_none g roots (labels_at g (together roots) 0)).0 q v h) in
          (r, m, zero_linked l)

      unreached : JoinedTo g roots → unjoined_at g roots 0 ≡ none
      unreached joined =
          (unjoined_none g roots (labels_at g (together roots) 0)).1
          (λ v h. let (r, m, l) = joined v h in (root_is_reached g roots (light g 0) (some_head roots has_root) v).1 (r, m, linked_zero l))

  -- UNROOTED

  -- A component needs one tree at limit 0,
  pub zero_needs : (t : Rooted) → needs g 0 t ≡ 1
  unfolding needs
  zero_needs t = omega (arith, div-zero (total_weight g (branch_edges t.branches)))

  -- so that as many are needed as there are components. Each has a lowest vertex.
  abbrev label : ℕ → ℕ
  label = labels_at g apart 0

  abbrev lowests : List ℕ
  lowests = lowest g label

  pub zero_needed : needed g 0 ≡ length lowests
  unfolding needed
  zero_needed =
      sum_same (needs g 0) (λ _. 1) (components g 0) (λ t m. zero_needs t) ∙ sym (length_sum (components g 0))
      ∙ sym (length-map (components g 0) (λ (t : Rooted). t.root)) ∙ ap length (component_roots g 0)

  -- Vertices have one label exactly where weightless edges link them.
  same_label : {u v : ℕ} → Linked g (weightless g) u v → label u ≡ label v
  unfolding labels_at
  same_label l = linked_merged g (light g 0) apart (linked_zero l)

  label_same : (u v : ℕ) → label u ≡ label v → Linked g (weightless g) u v
  unfolding labels_at
  label_same u v q = zero_linked (merged_linked g (light g 0) u v q)

  -- So weightless edges join every vertex to a lowest one,
  lowest_joined : JoinedTo g lowests
  lowest_joined v h = let (r, o) = lowest_of_lem g label v h in (r, o.listed, label_same r v o.alike)

  -- and whatever vertices they join every vertex to are no fewer than the lowest.
  joined_many : (these : List ℕ) → JoinedTo g these → length lowests ≤ length these
  joined_many these joined =
      omega (
        arith,
        length-map lowests label,
        length-map these label,
        length_within (images_once label (rising_once (lowest_rising g label)) (λ u v m n. lowest_alike g label m n)) among,
      )
    where
      among : (x : ℕ) → x ∈ map label lowests → x ∈ map label these
      among x m =
          let (v, n, q) = of_map label lowests m in
          let (r, i, l) = joined v (lowest_inside g label n) in
          Memᴰ.cast (q ∙ sym (same_label l)) (in_map label i)

  -- Limit 0 is accepted exactly where weightless edges join every vertex to one of at most k.
  unrooted_zero : (k : ℕ) → (accepts g (unrooted k) 0 ≡ true) ↔ WeightlessJoined g (unrooted k)
  unfolding accepts
  unrooted_zero k = (
    λ t. (lowests, omega (arith, leb-true (needed g 0) k t, zero_needed), lowest_joined),
    λ w. let (these, few, joined) = w in le-leb (needed g 0) k (omega (arith, zero_needed, joined_many these joined)),
  )

  -- COMPONENTS

  -- No two of these are joined by weightless edges: they lie in different components.
  abbrev Unlinked : List ℕ → Type 0
  Unlinked these = InOrder (λ (u v : ℕ). Linked g (weightless g) u v → ⊥) these

  -- There are at most k components: of any vertices in different components there are no more. Lone vertices are components, too.
  abbrev AtMostComponents : ℕ → Type 0
  AtMostComponents k = (these : List ℕ) → ((v : ℕ) → v ∈ these → v < g.vertices) → Unlinked these → length these ≤ k

  lowest_unlinked : Unlinked lowests
  lowest_unlinked = in_order_within (rising_once (lowest_rising g label)) (λ u v m n differ l. differ (lowest_alike g label m n (same_label l)))

  unlinked_few : AtMostComponents (length lowests)
  unlinked_few these inside unlinked =
      omega (
        arith,
        length-map lowests label,
        length-map these label,
        length_within (images_in_order label (in_order_within unlinked (λ u v m n differ q. differ (label_same u v q)))) among,
      )
    where
      among : (x : ℕ) → x ∈ map label these → x ∈ map label lowests
      among x m =
          let (v, n, q) = of_map label these m in
          let (r, o) = lowest_of_lem g label v (inside v n) in
          Memᴰ.cast (q ∙ sym o.alike) (in_map label o.listed)

  -- That every vertex is joined to one of at most k says just this.
  pub few_components : (k : ℕ) → WeightlessJoined g (unrooted k) ↔ AtMostComponents k
  few_components k = (
    λ w these inside unlinked. let (all, few, joined) = w in omega (arith, joined_many all joined, unlinked_few these inside unlinked),
    λ most. (lowests, most lowests (λ v m. lowest_inside g label m) lowest_unlinked, lowest_joined),
  )

-- BOTH KINDS

-- "A limit of 0 accepts exactly when weightless lines join every stop to a yard, or into at most k components."
pub zero_accepts : (g : Graph) (crews : Crews) → CrewsFit g crews → (accepts g crews 0 ≡ true) ↔ WeightlessJoined g crews
zero_accepts g (rooted roots) (has_root, inside) = rooted_zero g roots has_root
zero_accepts g (unrooted k) fit = unrooted_zero g k
