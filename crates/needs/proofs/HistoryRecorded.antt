-- The history of the whole forest, edge by edge: after j edges it is that of j merges, and in the end it tells what the components need at any limit.
-- Assumes nothing.
use Prim.Native.Nat.{ℕ, ◌+◌, ◌*◌, ◌/◌, ◌≤◌, ◌<◌}
use mathlib.Core.Path.{◌≡◌, refl, sym, ap, subst, ◌∙◌}
use mathlib.Core.Bool.{Bool, true, false, cond}
use mathlib.Core.List.{List, [], ◌∷◌, ◌++◌}
use native.Mathlib.Nat.{zero-div}
use native.Mathlib.Omega.{arith}
use lib.ListN.{length, get_or, take}
use Rattle.lists.specs.Count.{from, below}
use Rattle.lists.specs.Lists.{filter, sum_of}
use Rattle.lists.specs.Put.{OnlyFirst}
use Rattle.lists.proofs.AfterStore.{at_or_not}
use Rattle.lists.proofs.Bounds.{sum_most}
use Rattle.lists.proofs.OneMore.{sum_first}
use Rattle.lists.proofs.OnlyFirst.{only_first_none, only_first_store}
use Rattle.lists.proofs.SumsAlike.{sum_zero}
use Rattle.lists.proofs.TakeDrop.{take_more}
use Rattle.graph.specs.Graph.{Graph, one_end, other_end, weight_of}
use Rattle.graph.specs.Valid.{Valid}
use Rattle.graph.proofs.Ranges.{one_end_below, other_end_below, weight_at_most}
use Rattle.rules.specs.Walk.{total_weight}
use Rattle.rules.specs.Labels.{Labels, apart, merge_edge, merge_all}
use Rattle.forest_laws.proofs.Merging.{merged_append}
use Rattle.forest_laws.proofs.VertexLabels.{VertexLabels, own, apart_vertices, merged_vertices}
use Rattle.forest_laws.proofs.Loops.{AllKept}
use Rattle.forest.specs.Arrays.{Agrees}
use Rattle.needs.specs.History.{value_at, HistoryKept, NoteAsked, EdgeMerged}
use Rattle.needs.proofs.ComponentWeights.{label_weight, components_sum}
use Rattle.needs.proofs.SumsBelow.{sum_below_more}
use Rattle.needs.proofs.MergedWeights.{label_no_more, own_kept}
use Rattle.needs.proofs.MergeHistory.{Alive, Noted, value_none, alive_more, sum_earlier, sum_now}
use Rattle.needs.proofs.NotedPlaces.{at, note_of, noted_of, noted_places, noted_only}
use Rattle.needs.proofs.HistoryNeeds.{ends_apart, history_needs}

-- The labels that the first j edges make.
abbrev labels_after : Graph → List ℕ → ℕ → Labels
labels_after g kept j = merge_all g apart (take j kept)

-- The first j edges were merged and noted.
pub record Recorded (g : Graph) (kept : List ℕ) (j : ℕ) (label made total until : List ℕ) : Type 0 where
  pub labels : Agrees g.vertices label (labels_after g kept j)
  pub alive : Alive g (labels_after g kept j) (take j kept) j (at made) (at total) (at until)
  pub sums : (φ : ℕ → ℕ) → φ 0 ≡ 0 → (light : ℕ) → light ≤ j
      → sum_of (value_at φ (at total) (at until) light) (below (light + 1)) ≡ components_sum g (labels_after g kept light) (take light kept) φ
  pub small : (i : ℕ) → i ≤ j → at total i ≤ 256000000

-- There is room for a label and a merge of each vertex, and for 256 merges.
pub record Room (n : ℕ) (label made total until : List ℕ) : Type 0 where
  pub labels : n ≤ length label
  pub mades : n ≤ length made
  pub totals : 256 ≤ length total
  pub untils : 256 ≤ length until

-- The arrays are as long as they came, and only the places of n vertices changed, and of the history the first m.
pub record Sizes (n m : ℕ) (label₀ made₀ total₀ until₀ label made total until : List ℕ) : Type 0 where
  pub labels : length label ≡ length label₀
  pub mades : length made ≡ length made₀
  pub totals : length total ≡ length total₀
  pub untils : length until ≡ length until₀
  pub label_only : OnlyFirst n label₀ label
  pub made_only : OnlyFirst n made₀ made
  pub total_only : OnlyFirst m total₀ total
  pub until_only : OnlyFirst m until₀ until

module _ {g : Graph} (valid : Valid g) {kept : List ℕ} (k : AllKept g apart kept) (few : length kept < g.vertices) where
  -- No tree weighs more than 256 edges can.
  kept_weight : total_weight g kept ≤ 256000000
  unfolding total_weight
  kept_weight = omega (arith, sum_most (weight_of g) 1000000 kept (λ e m. weight_at_most valid e), valid.vertices_most)

  module _ (j : ℕ) (h : j < length kept) {label made total until : List ℕ} (room : Room g.vertices label made total until)
      (r : Recorded g kept j label made total until) where
    abbrev e : ℕ
    e = get_or kept j 0

    abbrev before : Labels
    before = labels_after g kept j

    vertices : VertexLabels g.vertices before
    vertices = merged_vertices valid (apart_vertices g.vertices) (take j kept)

    one_label : get_or label (one_end g e) 0 ≡ before (one_end g e)
    one_label = r.labels (one_end g e) (one_end_below valid e)

    other_label : get_or label (other_end g e) 0 ≡ before (other_end g e)
    other_label = r.labels (other_end g e) (other_end_below valid e)

    -- The next edge may be noted.
    asked : NoteAsked (before (one_end g e)) (before (other_end g e)) (weight_of g e) (j + 1) made total until
    asked =
        let a = before (one_end g e) in
        let c = before (other_end g e) in
        let la : a < g.vertices = vertices.below (one_end g e) (one_end_below valid e) in
        let lc : c < g.vertices = vertices.below (other_end g e) (other_end_below valid e) in
        let ma : at made a ≤ j = r.alive.before a la in
        let mc : at made c ≤ j = r.alive.before c lc in
        record {
          one_label = omega (arith, room.mades);
          other_label = omega (arith, room.mades);
          total_room = omega (arith, room.totals, valid.vertices_most);
          until_room = omega (arith, room.untils, valid.vertices_most);
          one_before = omega arith;
          other_before = omega arith;
          few = omega (arith, valid.vertices_most);
          fits = omega (arith, weight_at_most valid e, r.small (at made a) ma, r.small (at made c) mc);
        }

    pub note_asked : (x : ℕ) → x ≡ e → NoteAsked (get_or label (one_end g x) 0) (get_or label (other_end g x) 0) (weight_of g x) (j + 1) made total until
    note_asked x q =
        note_of (ap (λ d. get_or label (one_end g d) 0) q ∙ one_label) (ap (λ d. get_or label (other_end g d) 0) q ∙ other_label) (ap (weight_of g) q) asked

    -- With it, the first j + 1 edges were.
    module _ {x : ℕ} (q : x ≡ e) {label' made' total' until' : List ℕ} (n : EdgeMerged g x (j + 1) label label' made made' total total' until until') where
      m : EdgeMerged g e (j + 1) label label' made made' total total' until until'
      m = subst (λ d. EdgeMerged g d (j + 1) label label' made made' total total' until until') q n

      pub merged_only : (b : ℕ) → j + 1 < b → OnlyFirst b total total' × OnlyFirst b until until'
      merged_only = noted_only j asked (noted_of one_label other_label refl m.noted)

      pub merged_made : OnlyFirst g.vertices made made'
      merged_made =
          rw m.noted.made_is
          (only_first_store (only_first_none g.vertices made) (get_or label (one_end g e) 0) (j + 1)
          (omega (arith, one_label, vertices.below (one_end g e) (one_end_below valid e))))

      noted : Noted (before (one_end g e)) (before (other_end g e)) (weight_of g e) j (at made) (at made') (at total) (at total') (at until) (at until')
      noted = noted_places j asked (noted_of one_label other_label refl m.noted)

      edges_more : take (j + 1) kept ≡ take j kept ++ (e ∷ [])
      edges_more = take_more 0 kept j h

      labels_more : labels_after g kept (j + 1) ≡ merge_edge g before e
      unfolding merge_all
      labels_more = ap (merge_all g apart) edges_more ∙ merged_append g apart (take j kept) (e ∷ [])

      few_more : j + 1 < 256
      few_more = omega (arith, valid.vertices_most)

      apart_ends : before (one_end g e) ≡ before (other_end g e) → ⊥
      apart_ends = ends_apart k j h

      alive_next : Alive g (merge_edge g before e) (take j kept ++ (e ∷ [])) (j + 1) (at made') (at total') (at until')
      alive_next = alive_more g before vertices e (one_end_below valid e) (other_end_below valid e) apart_ends few_more r.alive noted

      sums_next : (φ : ℕ → ℕ) → φ 0 ≡ 0 → (light : ℕ) → light ≤ j + 1
          → sum_of (value_at φ (at total') (at until') light) (below (light + 1)) ≡ components_sum g (labels_after g kept light) (take light kept) φ
      sums_next φ zero light l =
          at_or_not (λ i. i ≤ j + 1 → sum_of (value_at φ (at total') (at until') i) (below (i + 1)) ≡ components_sum g (labels_after g kept i) (take i kept) φ) (j + 1) light
          (λ _.
          rw (labels_more, edges_more)
          (sum_now g before vertices e (one_end_below valid e) (other_end_below valid e) apart_ends few_more r.alive noted φ zero (r.sums φ zero j (omega arith))))
          (λ away q.
          sum_earlier g before vertices e (one_end_below valid e) (other_end_below valid e) apart_ends few_more r.alive noted φ zero light (omega arith)
          ∙ r.sums φ zero light (omega arith))
          l

      new_small : at total' (j + 1) ≤ 256000000
      unfolding total_weight
      new_small =
          let a = before (one_end g e) in
          let made_new : at total' (at made' a) ≡ at total' (j + 1) = ap (at total') noted.made_new in
          omega (
            arith,
            made_new,
            alive_next.weight a (vertices.below (one_end g e) (one_end_below valid e)) (own_kept g before vertices e apart_ends),
            label_no_more g (merge_edge g before e) (take j kept ++ (e ∷ [])) a,
            ap (total_weight g) edges_more,
            sum_first (weight_of g) kept (j + 1),
            kept_weight,
          )

      pub recorded_more : Recorded g kept (j + 1) label' made' total' until'
      recorded_more =
          record {
            labels = rw labels_more (m.joined before r.labels);
            alive = rw (labels_more, edges_more) alive_next;
            sums = sums_next;
            small = λ i l. at_or_not (λ x. x ≤ j + 1 → at total' x ≤ 256000000) (j + 1) i (λ _. new_small)
                (λ away q. omega (arith, noted.total_old i (omega arith), r.small i (omega arith))) l;
          }

  -- In the end the history tells what the components need.
  pub recorded_all : {j : ℕ} {label made total until : List ℕ} → Room g.vertices label made total until → Recorded g kept j label made total until → length kept ≤ j
      → HistoryKept g kept total until
  recorded_all {j} {label} {made} {total} {until} room r h =
      record {
        total_room = omega (arith, room.totals, valid.vertices_most);
        until_room = omega (arith, room.untils, valid.vertices_most);
        small = λ i l. r.small i (omega arith);
        needs = λ limit light l are. history_needs valid total until k limit light l are (r.sums (λ w. w / (2 * limit)) (zero-div (2 * limit)) light (omega arith));
      }

-- At the start no component has a weight, and there is no merge.
module _ (g : Graph) where
  no_weight : (v : ℕ) → label_weight g apart [] v ≡ 0
  unfolding total_weight sum_of filter
  no_weight v = refl

  no_sum : (φ : ℕ → ℕ) → φ 0 ≡ 0 → components_sum g apart [] φ ≡ 0
  no_sum φ zero = sum_zero (λ v. cond (own apart v) (φ (label_weight g apart [] v)) 0) (below g.vertices) (λ v m. go (own apart v) v)
    where
      go : (b : Bool) (v : ℕ) → cond b (φ (label_weight g apart [] v)) 0 ≡ 0
      go true v = ap φ (no_weight v) ∙ zero
      go false v = refl

  module _ (kept : List ℕ) (label made total until : List ℕ) (labels : Agrees g.vertices label apart) (made_none : (v : ℕ) → at made v ≡ 0)
      (none : at total 0 ≡ 0) where
    first_sum : (φ : ℕ → ℕ) → φ 0 ≡ 0 → sum_of (value_at φ (at total) (at until) 0) (below (0 + 1)) ≡ components_sum g (labels_after g kept 0) (take 0 kept) φ
    unfolding merge_all below from sum_of
    first_sum φ zero = omega (arith, sum_below_more 0 (value_at φ (at total) (at until) 0), value_none φ (at total) (at until) 0 0 zero none, no_sum φ zero)

    pub recorded_none : Recorded g kept 0 label made total until
    unfolding merge_all
    recorded_none =
        record {
          labels = labels;
          alive =
              record {
                none = none;
                weight = λ v l o. ap (at total) (made_none v) ∙ none ∙ sym (no_weight v);
                before = λ v l. omega (arith, made_none v);
                never = λ v l o some. absurd (omega (arith, made_none v));
                differ = λ u v lu lv ou ov q some. absurd (omega (arith, made_none u));
                known = λ i some l late. absurd (omega arith);
              };
          sums =
              λ φ zero light l.
              at_or_not (λ i. i ≤ 0 → sum_of (value_at φ (at total) (at until) i) (below (i + 1)) ≡ components_sum g (labels_after g kept i) (take i kept) φ) 0 light
              (λ _. first_sum φ zero) (λ away q. absurd (omega arith)) l;
          small = λ i l. at_or_not (λ x. x ≤ 0 → at total x ≤ 256000000) 0 i (λ _. omega (arith, none)) (λ away q. absurd (omega arith)) l;
        }
