-- The history of merges, one merge after the other: which merge completed each component's tree, and that the trees which are there after any
-- number of merges are those that no merge up to then took up.
-- Assumes nothing.
use Prim.Native.Nat.{ℕ, ◌+◌, ◌≤◌, ◌<◌}
use mathlib.Core.Path.{◌≡◌, refl, sym, ap, ap₂, ◌∙◌}
use mathlib.Core.Bool.{Bool, true, false, cond, true≢false}
use mathlib.Core.List.{List, [], ◌∷◌, ◌++◌}
use mathlib.Core.Logic.{dite}
use native.Mathlib.Decide.{ℕ_discrete}
use native.Mathlib.Omega.{arith}
use lib.Dec.{ltb}
use borrow.Author.Tests.{ltb-true, ltb-false, lt-ltb, le-ltb}
use Rattle.lists.specs.Count.{below}
use Rattle.lists.specs.Lists.{sum_of}
use Rattle.lists.proofs.AfterStore.{at_or_not}
use Rattle.lists.proofs.Below.{of_below}
use Rattle.lists.proofs.SumsAlike.{sum_same}
use Rattle.graph.specs.Graph.{Graph, one_end, other_end, weight_of}
use Rattle.rules.specs.Labels.{Labels, merge_edge}
use Rattle.forest_laws.proofs.VertexLabels.{VertexLabels, own}
use Rattle.needs.specs.History.{value_at}
use Rattle.needs.proofs.ComponentWeights.{label_weight, components_sum}
use Rattle.needs.proofs.SumsBelow.{sum_below_more, sum_below_two}
use Rattle.needs.proofs.MergedWeights.{is_own, own_lost, own_other, added_kept, added_other, sum_merged}

-- After j merges: `made` has, at each vertex that is its own label, the merge that completed its component's tree, 0 where there was none. No merge
-- took that tree up, different components have different ones, and whatever was taken up was so by one of the j.
pub record Alive (g : Graph) (label : Labels) (edges : List ℕ) (j : ℕ) (made total until : ℕ → ℕ) : Type 0 where
  pub none : total 0 ≡ 0
  pub weight : (v : ℕ) → v < g.vertices → own label v ≡ true → total (made v) ≡ label_weight g label edges v
  pub before : (v : ℕ) → v < g.vertices → made v ≤ j
  pub never : (v : ℕ) → v < g.vertices → own label v ≡ true → 0 < made v → until (made v) ≡ 256
  pub differ : (u v : ℕ) → u < g.vertices → v < g.vertices → own label u ≡ true → own label v ≡ true → made u ≡ made v → 0 < made u → u ≡ v
  pub known : (i : ℕ) → 0 < i → i ≤ j → j < until i → until i ≡ 256

-- What the next merge, of the components of a and c by an edge of weight w, does to the history.
pub record Noted (a c w j : ℕ) (made made' total total' until until' : ℕ → ℕ) : Type 0 where
  pub total_new : total' (j + 1) ≡ w + (total (made a) + total (made c))
  pub total_old : (i : ℕ) → i ≤ j → total' i ≡ total i
  pub until_new : until' (j + 1) ≡ 256
  pub until_one : until' (made a) ≡ j + 1
  pub until_other : until' (made c) ≡ j + 1
  pub until_old : (i : ℕ) → i ≤ j → (i ≡ made a → ⊥) → (i ≡ made c → ⊥) → until' i ≡ until i
  pub made_new : made' a ≡ j + 1
  pub made_old : (v : ℕ) → (v ≡ a → ⊥) → made' v ≡ made v

-- What is taken up, or weighs nothing, has no value; the others have that of their weight.
module _ (φ total until : ℕ → ℕ) (light i : ℕ) where
  pub value_none : φ 0 ≡ 0 → total i ≡ 0 → value_at φ total until light i ≡ 0
  value_none zero q = go (ltb light (until i))
    where
      go : (b : Bool) → cond b (φ (total i)) 0 ≡ 0
      go true = ap φ q ∙ zero
      go false = refl

  value_there : light < until i → value_at φ total until light i ≡ φ (total i)
  value_there h = rw (lt-ltb light (until i) h)

  value_gone : until i ≤ light → value_at φ total until light i ≡ 0
  value_gone h = rw (le-ltb light (until i) h)

-- An edge of the graph whose ends' labels differ.
module _ (g : Graph) (label : Labels) (s : VertexLabels g.vertices label) (e : ℕ) (one : one_end g e < g.vertices) (other : other_end g e < g.vertices)
    (apart : label (one_end g e) ≡ label (other_end g e) → ⊥) where
  abbrev a : ℕ
  a = label (one_end g e)

  abbrev c : ℕ
  c = label (other_end g e)

  abbrev after : Labels
  after = merge_edge g label e

  a_below : a < g.vertices
  a_below = s.below (one_end g e) one

  c_below : c < g.vertices
  c_below = s.below (other_end g e) other

  own_a : own label a ≡ true
  own_a = is_own g label s e apart (one_end g e)

  own_c : own label c ≡ true
  own_c = is_own g label s e apart (other_end g e)

  -- A vertex that is its own label now was so before, and is not the one that was lost.
  not_lost : {v : ℕ} → own after v ≡ true → v ≡ c → ⊥
  not_lost {v} o q = true≢false (sym o ∙ ap (own after) q ∙ own_lost g label s e apart)

  was_own : (v : ℕ) → own after v ≡ true → own label v ≡ true
  was_own v o = sym (own_other g label s e apart v (not_lost o)) ∙ o

  -- Its merge, noted in the history of those before.
  module _ {edges : List ℕ} {j : ℕ} (few : j + 1 < 256) {made made' total total' until until' : ℕ → ℕ} (m : Alive g label edges j made total until)
      (t : Noted a c (weight_of g e) j made made' total total' until until') where
    -- Its merge, where there is one, is neither of the two that are taken up now.
    not_one : (v : ℕ) → v < g.vertices → own label v ≡ true → (v ≡ a → ⊥) → 0 < made v → made v ≡ made a → ⊥
    not_one v l o away some q = away (m.differ v a l a_below o own_a q some)

    not_other : (v : ℕ) → v < g.vertices → own label v ≡ true → (v ≡ c → ⊥) → 0 < made v → made v ≡ made c → ⊥
    not_other v l o away some q = away (m.differ v c l c_below o own_c q some)

    until_kept : (v : ℕ) → v < g.vertices → own after v ≡ true → (v ≡ a → ⊥) → 0 < made v → until' (made v) ≡ 256
    until_kept v l o away some =
        t.until_old (made v) (m.before v l) (not_one v l (was_own v o) away some) (not_other v l (was_own v o) (not_lost o) some)
        ∙ m.never v l (was_own v o) some

    until_known : (i : ℕ) → 0 < i → i ≤ j → j + 1 < until' i → until' i ≡ 256
    until_known i some h late =
        dite (ℕ_discrete i (made a)) (λ q. absurd (omega (arith, ap until' q, t.until_one))) λ da.
        dite (ℕ_discrete i (made c)) (λ q. absurd (omega (arith, ap until' q, t.until_other))) λ dc.
        let same : until' i ≡ until i = t.until_old i h da dc in same ∙ m.known i some h (omega arith)

    pub alive_more : Alive g after (edges ++ (e ∷ [])) (j + 1) made' total' until'
    alive_more =
        record {
          none = t.total_old 0 (omega arith) ∙ m.none;
          weight =
              λ v l.
              at_or_not (λ k. own after k ≡ true → total' (made' k) ≡ label_weight g after (edges ++ (e ∷ [])) k) a v
              (λ o.
              ap total' t.made_new
              ∙ t.total_new
              ∙ ap₂ (λ x y. weight_of g e + (x + y)) (m.weight a a_below own_a) (m.weight c c_below own_c)
              ∙ sym (added_kept g label s e apart edges))
              (λ away o.
              ap total' (t.made_old v away)
              ∙ t.total_old (made v) (m.before v l)
              ∙ m.weight v l (was_own v o)
              ∙ sym (added_other g label s e apart edges v away (not_lost o)));
          before = λ v l. at_or_not (λ k. k < g.vertices → made' k ≤ j + 1) a v (λ _. omega (arith, t.made_new)) (λ away _. omega (arith, t.made_old v away, m.before v l)) l;
          never =
              λ v l.
              at_or_not (λ k. own after k ≡ true → 0 < made' k → until' (made' k) ≡ 256) a v
              (λ o some. ap until' t.made_new ∙ t.until_new)
              (λ away o some. ap until' (t.made_old v away) ∙ until_kept v l o away (omega (arith, t.made_old v away)));
          differ = two_differ;
          known =
              λ i some h late.
              at_or_not (λ k. 0 < k → k ≤ j + 1 → j + 1 < until' k → until' k ≡ 256) (j + 1) i
              (λ _ _ _. t.until_new)
              (λ away p q r. until_known i p (omega arith) r) some h late;
        }
      where
        two_differ : (u v : ℕ) → u < g.vertices → v < g.vertices → own after u ≡ true → own after v ≡ true → made' u ≡ made' v → 0 < made' u → u ≡ v
        two_differ u v lu lv ou ov q some =
            dite (ℕ_discrete u a)
            (λ ua. dite (ℕ_discrete v a) (λ va. ua ∙ sym va) (λ va. absurd (omega (arith, ap made' ua, t.made_new, t.made_old v va, m.before v lv))))
            (λ ua.
            dite (ℕ_discrete v a)
            (λ va. absurd (omega (arith, ap made' va, t.made_new, t.made_old u ua, m.before u lu)))
            (λ va.
            m.differ u v lu lv (was_own u ou) (was_own v ov) (sym (t.made_old u ua) ∙ q ∙ t.made_old v va) (omega (arith, t.made_old u ua))))

    module _ (φ : ℕ → ℕ) (zero : φ 0 ≡ 0) where
      -- The sums after fewer merges are as they were: what is taken up now was there then.
      module _ (light : ℕ) (h : light ≤ j) where
        earlier_at : (v : ℕ) → v < g.vertices → own label v ≡ true → 0 < made v → until' (made v) ≡ j + 1
            → value_at φ total' until' light (made v) ≡ value_at φ total until light (made v)
        earlier_at v l o some now =
            value_there φ total' until' light (made v) (omega (arith, now))
            ∙ ap φ (t.total_old (made v) (m.before v l))
            ∙ sym (value_there φ total until light (made v) (omega (arith, m.never v l o some)))

        earlier_each : (i : ℕ) → i < light + 1 → value_at φ total' until' light i ≡ value_at φ total until light i
        earlier_each i l =
            dite (ℕ_discrete i 0)
            (λ q.
            let was : total i ≡ 0 = ap total q ∙ m.none in
            value_none φ total' until' light i zero (t.total_old i (omega arith) ∙ was) ∙ sym (value_none φ total until light i zero was))
            (λ some.
            dite (ℕ_discrete i (made a)) (λ q. rw q (earlier_at a a_below own_a (omega arith) t.until_one)) λ da.
            dite (ℕ_discrete i (made c)) (λ q. rw q (earlier_at c c_below own_c (omega arith) t.until_other)) λ dc.
            ap₂ (λ x y. cond (ltb light x) (φ y) 0) (t.until_old i (omega arith) da dc) (t.total_old i (omega arith)))

        pub sum_earlier : sum_of (value_at φ total' until' light) (below (light + 1)) ≡ sum_of (value_at φ total until light) (below (light + 1))
        sum_earlier = sum_same (value_at φ total' until' light) (value_at φ total until light) (below (light + 1)) (λ i m. earlier_each i (of_below (light + 1) m))

      -- The sum after this merge loses the values of the two trees that it takes up, and gains that of the tree that it completes.
      abbrev now : ℕ → ℕ
      now = value_at φ total' until' (j + 1)

      abbrev was : ℕ → ℕ
      was = value_at φ total until j

      was_there : (v : ℕ) → v < g.vertices → own label v ≡ true → was (made v) ≡ φ (label_weight g label edges v)
      was_there v l o =
          dite (ℕ_discrete (made v) 0)
          (λ q.
          let nothing : total (made v) ≡ 0 = ap total q ∙ m.none in
          value_none φ total until j (made v) zero nothing ∙ sym (ap φ nothing ∙ zero))
          (λ some. value_there φ total until j (made v) (omega (arith, m.never v l o (omega arith))))
          ∙ ap φ (m.weight v l o)

      both_none : (i : ℕ) → i ≡ 0 → now i ≡ was i
      both_none i q =
          let none : total i ≡ 0 = ap total q ∙ m.none in
          value_none φ total' until' (j + 1) i zero (t.total_old i (omega arith) ∙ none) ∙ sym (value_none φ total until j i zero none)

      both_same : (i : ℕ) → i < j + 1 → (i ≡ made a → ⊥) → (i ≡ made c → ⊥) → now i ≡ was i
      both_same i l da dc =
          dite (ℕ_discrete i 0) (both_none i) λ some.
          let same : until' i ≡ until i = t.until_old i (omega arith) da dc in
          let weighs : total' i ≡ total i = t.total_old i (omega arith) in
          go some same weighs (ltb j (until i)) refl
        where
          go : (i ≡ 0 → ⊥) → until' i ≡ until i → total' i ≡ total i → (b : Bool) → ltb j (until i) ≡ b → now i ≡ was i
          go some same weighs true q =
              let late : j < until i = ltb-true j (until i) q in
              value_there φ total' until' (j + 1) i (omega (arith, m.known i (omega arith) (omega arith) late)) ∙ ap φ weighs ∙ sym (value_there φ total until j i late)
          go some same weighs false q =
              let gone : until i ≤ j = ltb-false j (until i) q in value_gone φ total' until' (j + 1) i (omega arith) ∙ sym (value_gone φ total until j i gone)

      both_one : made a ≡ made c → now (made a) ≡ was (made a)
      both_one q = dite (ℕ_discrete (made a) 0) (both_none (made a)) (λ some. absurd (apart (m.differ a c a_below c_below own_a own_c q (omega arith))))

      pub sum_now : sum_of was (below (j + 1)) ≡ components_sum g label edges φ → sum_of now (below (j + 1 + 1)) ≡ components_sum g after (edges ++ (e ∷ [])) φ
      sum_now so_far =
          let new : now (j + 1) ≡ φ (weight_of g e + (label_weight g label edges a + label_weight g label edges c)) =
          value_there φ total' until' (j + 1) (j + 1) (omega (arith, t.until_new))
          ∙ ap φ (t.total_new ∙ ap₂ (λ x y. weight_of g e + (x + y)) (m.weight a a_below own_a) (m.weight c c_below own_c)) in
          omega (
            arith,
            new,
            so_far,
            sum_below_more (j + 1) now,
            value_gone φ total' until' (j + 1) (made a) (omega (arith, t.until_one)),
            value_gone φ total' until' (j + 1) (made c) (omega (arith, t.until_other)),
            was_there a a_below own_a,
            was_there c c_below own_c,
            sum_below_two (j + 1) now was (made a) (made c) (omega (arith, m.before a a_below)) (omega (arith, m.before c c_below)) both_same both_one,
            sum_merged g label s e apart one other edges φ,
          )
