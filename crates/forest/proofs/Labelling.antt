-- Labels in an array: equal elements are equal labels; the roots' labels at the start, and the labels after two vertices are joined;
-- labels that are vertices.
-- Assumes nothing.
use Prim.Native.Nat.{ℕ, ◌+◌, ◌≤◌, ◌<◌}
use mathlib.Core.Path.{◌≡◌, refl, sym, ap, ap₂, ◌∙◌}
use mathlib.Core.Bool.{true, false, cond, false≢true, ◌||◌}
use mathlib.Core.Logic.{dite}
use mathlib.Core.List.{List, [], ◌∷◌, ◌++◌, head_d}
use native.Mathlib.Decide.{ℕ_discrete}
use native.Mathlib.Omega.{arith}
use lib.ListN.{length, get_or, take, drop, set, get_or-append}
use lib.Seq.{get_or-set_other, get_or-take}
use lib.Dec.{eqb}
use borrow.Author.Count.{below_none}
use borrow.Author.Tests.{eq-eqb, ne_eqb}
use Rattle.lists.specs.Lists.{any, member}
use Rattle.std.specs.List.{list_any}
use Rattle.lists.proofs.OnlyFirst.{only_front}
use Rattle.lists.proofs.SetUpTo.{stored_more}
use Rattle.graph.specs.Graph.{Graph}
use Rattle.graph.specs.Valid.{Valid}
use Rattle.rules.specs.Labels.{Labels, joined, merge, together, merge_all}
use Rattle.forest_laws.proofs.Roots.{together_none}
use Rattle.forest_laws.proofs.VertexLabels.{VertexLabels, apart_vertices, merged_vertices}
use Rattle.forest.specs.Arrays.{Agrees}
use Rattle.forest.specs.Labelled.{Started, Merged}

-- Whether v stands among the roots, as the list says it and as the definition does.
same_tests : (r v : ℕ) → eqb r v ≡ eqb v r
same_tests r v = dite (ℕ_discrete r v) (λ q. ap (λ k. eqb k v) q ∙ ap (eqb v) (sym q)) (λ d. ne_eqb r v d ∙ sym (ne_eqb v r (λ q. d (sym q))))

pub contained : (v : ℕ) (roots : List ℕ) → list_any (λ r. eqb r v) roots ≡ member v roots
unfolding member any
contained v [] = refl
contained v (r ∷ roots) = ap₂ ◌||◌ (same_tests r v) (contained v roots)

-- The label of a root at the start is the first root, and that of another vertex its own.
pub root_label : (v : ℕ) (roots : List ℕ) → member v roots ≡ true → get_or roots 0 0 ≡ together roots v
unfolding together member any head_d
root_label v [] t = absurd (false≢true t)
root_label v (r ∷ roots) t = rw t

pub own_label : (v : ℕ) (roots : List ℕ) → member v roots ≡ false → v ≡ together roots v
unfolding together
own_label v roots t = rw t

-- Where an array agrees with labels, equal elements are equal labels.
module _ {n : ℕ} (array : List ℕ) (label : Labels) (agrees : Agrees n array label) (u v : ℕ) (hu : u < n) (hv : v < n) where
  pub joined_yes : get_or array u 0 ≡ get_or array v 0 → joined label u v ≡ true
  unfolding joined
  joined_yes q = eq-eqb (label u) (label v) (sym (agrees u hu) ∙ q ∙ agrees v hv)

  pub joined_no : (get_or array u 0 ≡ get_or array v 0 → ⊥) → joined label u v ≡ false
  unfolding joined
  joined_no d = ne_eqb (label u) (label v) (λ q. d (agrees u hu ∙ q ∙ sym (agrees v hv)))

-- Where no vertex is a root, the labels that edges make are vertices.
pub labels_below : {g : Graph} → Valid g → (edges array : List ℕ) → Agrees g.vertices array (merge_all g (together []) edges)
    → (v : ℕ) → v < g.vertices → get_or array v 0 < g.vertices
labels_below {g} valid edges array agrees v h =
    let made : VertexLabels g.vertices (merge_all g (together []) edges) = rw together_none (merged_vertices valid (apart_vertices g.vertices) edges) in
    rw (agrees v h) (made.below v h)

-- What stands for the first n labels has the labels of the start, and the others are as they came.
pub started : {roots : List ℕ} {n : ℕ} (front before : List ℕ) → length front ≡ n → n ≤ length before → Agrees n front (together roots)
    → Started roots n before (front ++ drop n before)
started {n = n} front before size room labels =
    record {
      labels = λ v l. get_or-append front (drop n before) 0 v (omega arith) ∙ labels v l;
      rest = only_front n front before size room;
    }

-- Below x the labels are merged, and from x on they are as they were.
pub record Merging (n u v x : ℕ) (before after : List ℕ) : Type 0 where
  pub labels : (label : Labels) → Agrees n before label → Agrees x after (merge label u v)
  pub ahead : (k : ℕ) → x ≤ k → k < n → get_or after k 0 ≡ get_or before k 0

module _ {n u v : ℕ} where
  pub merging_none : (before : List ℕ) → Merging n u v 0 before (take n before)
  merging_none before = record { labels = λ label a. below_none _; ahead = λ k l h. get_or-take n before k 0 h }

  module _ {x : ℕ} {before after : List ℕ} (m : Merging n u v x before after) where
    merged_label : (label : Labels) → u < n → v < n → x < n → Agrees n before label
        → cond (eqb (get_or after x 0) (get_or before v 0)) (get_or before u 0) (get_or after x 0) ≡ merge label u v x
    unfolding merge
    merged_label label hu hv hx a = rw (m.ahead x (omega arith) hx, a x hx, a u hu, a v hv)

    pub merging_more : {y : ℕ} → u < n → v < n → x < n → x < length after
        → y ≡ cond (eqb (get_or after x 0) (get_or before v 0)) (get_or before u 0) (get_or after x 0)
        → Merging n u v (x + 1) before (set after x y)
    merging_more {y} hu hv hx room q =
        record {
          labels = λ label a. stored_more (merge label u v) after x y room (m.labels label a) (q ∙ merged_label label hu hv hx a);
          ahead = λ k l h. get_or-set_other after x k y 0 (omega arith) ∙ m.ahead k (omega arith) h;
        }

    pub merging_all : n ≤ x → length after ≡ n → n ≤ length before → Merged n u v before (after ++ drop n before)
    merging_all h size room =
        record {
          labels = λ label a k l. get_or-append after (drop n before) 0 k (omega arith) ∙ m.labels label a k (omega arith);
          rest = only_front n after before size room;
        }
