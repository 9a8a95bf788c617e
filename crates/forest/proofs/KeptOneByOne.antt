-- Edges taken one by one, each kept where its ends are not yet joined, are those that the definition keeps, and their ends are joined.
-- Assumes nothing.
use Prim.Native.Nat.{ℕ, ◌+◌, ◌≤◌, ◌<◌}
use mathlib.Core.Path.{◌≡◌, refl, sym, ap, ◌∙◌}
use mathlib.Core.Bool.{true, false, not}
use mathlib.Core.List.{List}
use native.Mathlib.Omega.{arith}
use lib.ListN.{length, get_or, drop, set, length-set}
use borrow.Author.Tests.{not-true, not-false, eqb-true, eqb-false, eq-eqb, ne_eqb}
use Rattle.lists.specs.Put.{OnlyFirst}
use Rattle.lists.proofs.OnlyFirst.{only_first_none, only_first_on}
use Rattle.lists.proofs.NextPlace.{rest_next, rest_none}
use Rattle.lists.proofs.PutOneByOne.{PutSoFar, so_far_none, so_far_same, so_far_more, so_far_all, so_far_behind}
use Rattle.graph.specs.Graph.{Graph, one_end, other_end}
use Rattle.graph.specs.Valid.{Valid}
use Rattle.graph.proofs.Ranges.{one_end_below, other_end_below}
use Rattle.rules.specs.Labels.{Labels, joined, ends_joined, merge_edge, merge_all}
use Rattle.rules.specs.Forest.{keep}
use Rattle.forest_laws.proofs.Merging.{JoinsEnds, edge_joined}
use Rattle.forest_laws.proofs.Keeping.{keep_joined, keep_apart}
use Rattle.forest_laws.proofs.FewForest.{kept_few}
use Rattle.forest.specs.Arrays.{Agrees}
use Rattle.forest.specs.Labelled.{Merged, Joined}
use Rattle.forest.specs.Keeping.{KeptWritten}

-- The ends u and v of an edge are joined: where they are already, no label changes, and otherwise the labels are merged.
module _ {g : Graph} (valid : Valid g) (e : ℕ) {u v : ℕ} (one : u ≡ one_end g e) (other : v ≡ other_end g e) (before : List ℕ) where
  module _ (label : Labels) (a : Agrees g.vertices before label) where
    one_label : get_or before u 0 ≡ label (one_end g e)
    one_label = ap (λ (x : ℕ). get_or before x 0) one ∙ a (one_end g e) (one_end_below valid e)

    other_label : get_or before v 0 ≡ label (other_end g e)
    other_label = ap (λ (x : ℕ). get_or before x 0) other ∙ a (other_end g e) (other_end_below valid e)

    ends_same : get_or before u 0 ≡ get_or before v 0 → label (one_end g e) ≡ label (other_end g e)
    ends_same q = sym one_label ∙ q ∙ other_label

    ends_other : (get_or before u 0 ≡ get_or before v 0 → ⊥) → label (one_end g e) ≡ label (other_end g e) → ⊥
    ends_other d q = d (one_label ∙ q ∙ sym other_label)

  pub joined_already : get_or before u 0 ≡ get_or before v 0 → Joined g e before before false
  unfolding ends_joined joined
  joined_already q =
      record {
        new = λ label a. ap not (sym (eq-eqb (label (one_end g e)) (label (other_end g e)) (ends_same label a q)));
        labels = λ label a. rw (edge_joined g label e (ends_same label a q)) a;
        rest = only_first_none g.vertices before;
      }

  pub joined_now : {n : ℕ} {after : List ℕ} → (get_or before u 0 ≡ get_or before v 0 → ⊥) → n ≡ g.vertices → Merged n u v before after
      → Joined g e before after true
  unfolding ends_joined joined merge_edge
  joined_now {after = after} d count merged =
      let m : Merged g.vertices (one_end g e) (other_end g e) before after = rw (count, one, other) at merged in
      record {
        new = λ label a. ap not (sym (ne_eqb (label (one_end g e)) (label (other_end g e)) (ends_other label a d)));
        labels = m.labels;
        rest = m.rest;
      }

-- From labels on entry: the labels now, what is still to be kept, and the labels that all edges make.
pub record TakingFrom (g : Graph) (edges : List ℕ) (i : ℕ) (label₁ kept₀ kept₁ : List ℕ) (r : ℕ) (label : Labels) : Type 0 where
  pub here : Labels
  pub agrees : Agrees g.vertices label₁ here
  pub so_far : PutSoFar 0 (keep g label edges) (keep g here (drop i edges)) kept₀ kept₁ r
  pub merged : merge_all g label edges ≡ merge_all g here (drop i edges)

-- The edges before i were taken.
pub record Taking (g : Graph) (edges : List ℕ) (i : ℕ) (label₀ label₁ kept₀ kept₁ : List ℕ) (r : ℕ) : Type 0 where
  pub few : r ≤ i
  pub labels_same : length label₁ ≡ length label₀
  pub kept_same : length kept₁ ≡ length kept₀
  pub rest : OnlyFirst g.vertices label₀ label₁
  pub going : (label : Labels) → Agrees g.vertices label₀ label → TakingFrom g edges i label₁ kept₀ kept₁ r label

module _ {g : Graph} {edges : List ℕ} where
  pub taking_none : (label kept : List ℕ) → Taking g edges 0 label label kept kept 0
  taking_none array kept =
      record {
        few = omega arith;
        labels_same = refl;
        kept_same = refl;
        rest = only_first_none g.vertices array;
        going = λ label a. record { here = label; agrees = a; so_far = so_far_none kept 0 (omega arith); merged = refl };
      }

  module _ {i : ℕ} {label₀ label₁ kept₀ kept₁ : List ℕ} {r : ℕ} (t : Taking g edges i label₀ label₁ kept₀ kept₁ r) where
    module _ (h : i < length edges) where
      abbrev edge : ℕ
      edge = get_or edges i 0

      -- the labels that all edges make, after this one is joined
      merged_on : (here : Labels) → merge_all g here (drop i edges) ≡ merge_all g (merge_edge g here edge) (drop (i + 1) edges)
      unfolding merge_all
      merged_on here = rw (rest_next edges i h)

      -- the edge's ends, as the answer says
      module _ {label₂ : List ℕ} (same : length label₂ ≡ length label₁) where
        were_joined : Joined g edge label₁ label₂ false → (here : Labels) → Agrees g.vertices label₁ here → JoinsEnds g here edge
        unfolding ends_joined joined
        were_joined j here a = eqb-true (here (one_end g edge)) (here (other_end g edge)) (not-false _ (sym (j.new here a)))

        were_apart : Joined g edge label₁ label₂ true → (here : Labels) → Agrees g.vertices label₁ here → JoinsEnds g here edge → ⊥
        unfolding ends_joined joined
        were_apart j here a = eqb-false (here (one_end g edge)) (here (other_end g edge)) (not-true _ (sym (j.new here a)))

        pub taking_passed : Joined g edge label₁ label₂ false → Taking g edges (i + 1) label₀ label₂ kept₀ kept₁ r
        taking_passed j =
            record {
              few = omega arith;
              labels_same = same ∙ t.labels_same;
              kept_same = t.kept_same;
              rest = only_first_on t.rest j.rest;
              going =
                  λ label a.
                  let f = t.going label a in
                  let here = f.here in
                  let q = were_joined j here f.agrees in
                  record {
                    here = merge_edge g here edge;
                    agrees = j.labels here f.agrees;
                    so_far =
                        so_far_same f.so_far
                        (ap (keep g here) (rest_next edges i h)
                        ∙ keep_joined g here edge (drop (i + 1) edges) q
                        ∙ ap (λ (l : Labels). keep g l (drop (i + 1) edges)) (sym (edge_joined g here edge q)));
                    merged = f.merged ∙ merged_on here;
                  };
            }

        pub taking_more : Joined g edge label₁ label₂ true → r < length kept₁
            → Taking g edges (i + 1) label₀ label₂ kept₀ (set kept₁ r edge) (r + 1)
        taking_more j room =
            record {
              few = omega arith;
              labels_same = same ∙ t.labels_same;
              kept_same = length-set kept₁ r edge ∙ t.kept_same;
              rest = only_first_on t.rest j.rest;
              going =
                  λ label a.
                  let f = t.going label a in
                  let here = f.here in
                  record {
                    here = merge_edge g here edge;
                    agrees = j.labels here f.agrees;
                    so_far =
                        so_far_more f.so_far
                        (ap (keep g here) (rest_next edges i h) ∙ keep_apart g here edge (drop (i + 1) edges) (were_apart j here f.agrees))
                        room;
                    merged = f.merged ∙ merged_on here;
                  };
            }

    module _ (valid : Valid g) where
      -- whatever labels the array held, fewer edges are kept than there are vertices
      pub taking_few : r < g.vertices
      taking_few =
          let own : Labels = λ v. get_or label₀ v 0 in
          let f = t.going own (λ v l. refl) in
          omega (arith, so_far_behind f.so_far, kept_few valid own edges)

      pub taking_all : length edges ≤ i → i ≤ length edges → KeptWritten g edges label₀ label₁ kept₀ kept₁ r
      unfolding keep merge_all
      taking_all h k =
          record {
            edges_are = λ label a. let f = t.going label a in so_far_all f.so_far (ap (keep g f.here) (rest_none edges i h));
            labels = λ label a. let f = t.going label a in rw (f.merged ∙ ap (merge_all g f.here) (rest_none edges i h)) f.agrees;
            rest = t.rest;
            few = omega arith;
            fewer = taking_few;
          }
