-- Vertices joined by parents: shorter ways join the same, and a parent for one that stands for others joins what the merged labels join.
-- Assumes nothing.
use Prim.Native.Nat.{ℕ, ◌≤◌, ◌<◌}
use mathlib.Core.Path.{◌≡◌, refl, sym, ap, ◌∙◌}
use mathlib.Core.Bool.{true, false, not}
use mathlib.Core.List.{List}
use mathlib.Core.Logic.{◌⊎◌, inl, inr}
use native.Mathlib.Omega.{arith}
use lib.ListN.{length, get_or, set, length-set}
use lib.Seq.{get_or-set_same, get_or-set_other}
use borrow.Author.Tests.{eq-eqb, ne_eqb}
use Rattle.lists.proofs.AfterStore.{at_or_not}
use Rattle.graph.specs.Graph.{Graph, one_end, other_end}
use Rattle.rules.specs.Labels.{Labels, apart, joined, ends_joined, merge, merge_edge}
use Rattle.forest_laws.proofs.Merging.{merge_coarser, merge_joins, merge_cases, edge_joined}
use Rattle.filed.specs.Parents.{Stands, AllStand, Parents, Spells, Shortened, Found, EndsJoined}

-- Where every vertex stands for itself, none is higher than itself, and all are apart.
module _ {parents : List ℕ} (room : length parents ≡ 256) (stand : AllStand parents) where
  pub apart_parents : Parents parents
  apart_parents = record { room = room; falls = λ v h. omega (arith, stand v h) }

  pub apart_spells : Spells parents apart
  unfolding apart
  apart_spells = record { up = λ v h. stand v h; once = λ u v hu hv su sv q. q }

-- x takes a parent y that is lower.
module _ {parents : List ℕ} (p : Parents parents) (x y : ℕ) (inside : x < 256) (lower : y < x) where
  abbrev after : List ℕ
  after = set parents x y

  here : get_or after x 0 ≡ y
  here = get_or-set_same parents x y 0 (omega (arith, p.room))

  there : (v : ℕ) → (v ≡ x → ⊥) → get_or after v 0 ≡ get_or parents v 0
  there v d = get_or-set_other parents x v y 0 d

  lowered : Parents after
  lowered =
      record {
        room = length-set parents x y ∙ p.room;
        falls = λ v h. at_or_not (λ k. get_or after k 0 ≤ k) x v (omega (arith, here)) (λ d. omega (arith, there v d, p.falls v h));
      }

  -- Who stands for others now is not x, and stood for them before.
  not_lowered : (v : ℕ) → Stands after v → v ≡ x → ⊥
  not_lowered v s q = omega (arith, here, rw q at s)

  stood : (v : ℕ) → Stands after v → Stands parents v
  stood v s = sym (there v (not_lowered v s)) ∙ s

  -- x did not stand for others, and y is joined to it: nothing else is joined.
  module _ (other : Stands parents x → ⊥) where
    shorter : ((label : Labels) → Spells parents label → label y ≡ label x) → Shortened parents after
    shorter same =
        record {
          parents = lowered;
          stand = λ v h s. there v (λ q. other (rw q at s)) ∙ s;
          spells = λ label w. record {
            up = λ v h. at_or_not (λ k. label (get_or after k 0) ≡ label k) x v (ap label here ∙ same label w) (λ d. ap label (there v d) ∙ w.up v h);
            once = λ u v hu hv su sv. w.once u v hu hv (stood u su) (stood v sv);
          };
        }

  -- x stood for one of a and b, and y is joined to the other: a and b are joined.
  module _ (label : Labels) (w : Spells parents label) (stands_x : Stands parents x) (a b : ℕ) where
    linked : (merge label a b y ≡ merge label a b x)
        → ((u v : ℕ) → u < 256 → v < 256 → Stands after u → Stands after v → (label u ≡ label a) × (label b ≡ label v) → u ≡ v)
        → Spells after (merge label a b)
    linked tie only =
        record {
          up = λ v h.
              at_or_not (λ k. merge label a b (get_or after k 0) ≡ merge label a b k) x v (ap (merge label a b) here ∙ tie)
              (λ d. ap (merge label a b) (there v d) ∙ merge_coarser label a b (get_or parents v 0) v (w.up v h));
          once = λ u v hu hv su sv q. go u v hu hv su sv (merge_cases label a b u v q);
        }
      where
        go : (u v : ℕ) → u < 256 → v < 256 → Stands after u → Stands after v
            → (label u ≡ label v) ⊎ ((label u ≡ label a) × (label b ≡ label v)) ⊎ ((label u ≡ label b) × (label a ≡ label v)) → u ≡ v
        go u v hu hv su sv (inl q) = w.once u v hu hv (stood u su) (stood v sv) q
        go u v hu hv su sv (inr (inl q)) = only u v hu hv su sv q
        go u v hu hv su sv (inr (inr q)) = sym (only v u hv hu sv su (sym q.1, sym q.0))

    -- x stands for b.
    pub linked_second : label y ≡ label a → label x ≡ label b → Spells after (merge label a b)
    linked_second qy qx =
        linked
        (merge_coarser label a b y a qy ∙ merge_joins label a b ∙ sym (merge_coarser label a b x b qx))
        (λ u v hu hv su sv q. absurd (not_lowered v sv (w.once v x hv inside (stood v sv) stands_x (sym q.1 ∙ sym qx))))

    -- x stands for a.
    pub linked_first : label y ≡ label b → label x ≡ label a → Spells after (merge label a b)
    linked_first qy qx =
        linked
        (merge_coarser label a b y b qy ∙ sym (merge_joins label a b) ∙ sym (merge_coarser label a b x a qx))
        (λ u v hu hv su sv q. absurd (not_lowered u su (w.once u x hu inside (stood u su) stands_x (q.0 ∙ sym qx))))

-- Nothing becomes shorter.
pub short_none : {parents : List ℕ} → Parents parents → Shortened parents parents
short_none p = record { parents = p; stand = λ v h s. s; spells = λ label w. w }

pub short_then : {before between after : List ℕ} → Shortened before between → Shortened between after → Shortened before after
short_then s t =
    record { parents = t.parents; stand = λ v h d. t.stand v h (s.stand v h d); spells = λ label w. t.spells label (s.spells label w) }

-- On the way from v up: at x, with parents as they are.
pub record OnTheWay (v x : ℕ) (before after : List ℕ) : Type 0 where
  pub short : Shortened before after
  pub below : x ≤ v
  pub same : (label : Labels) → Spells before label → label x ≡ label v

pub way_begins : {parents : List ℕ} → Parents parents → (v : ℕ) → OnTheWay v v parents parents
way_begins p v = record { short = short_none p; below = omega arith; same = λ label w. refl }

module _ {v x : ℕ} {before after : List ℕ} (inside : v < 256) (o : OnTheWay v x before after) where
  -- x takes its parent's parent, which is next.
  pub way_on : {up next : ℕ} → up ≡ get_or after x 0 → up < x → next ≡ get_or after up 0 → OnTheWay v next before (set after x next)
  way_on {up} {next} q h r =
      let falls = o.short.parents.falls up (omega (arith, o.below)) in
      let same : (label : Labels) → Spells after label → label next ≡ label x =
      λ label w. ap label r ∙ w.up up (omega (arith, o.below)) ∙ ap label q ∙ w.up x (omega (arith, o.below)) in
      record {
        short = short_then o.short (shorter o.short.parents x next (omega (arith, o.below)) (omega arith) (λ s. omega arith) same);
        below = omega (arith, o.below);
        same = λ label w. same label (o.short.spells label w) ∙ o.same label w;
      }

  -- x is its own parent.
  pub way_ends : {up : ℕ} → up ≡ get_or after x 0 → x ≤ up → Found v before after x
  way_ends q h =
      record {
        short = o.short;
        stands = omega (arith, o.short.parents.falls x (omega (arith, o.below)));
        below = o.below;
        same = o.same;
      }

-- Who stands for the ends of an edge was found, one after the other.
module _ (g : Graph) (e : ℕ) {before between after : List ℕ} {u v : ℕ} (one : one_end g e < 256) (other : other_end g e < 256)
    (first : Found (one_end g e) before between u) (second : Found (other_end g e) between after v) where
  abbrev short : Shortened before after
  short = short_then first.short second.short

  stands_first : Stands after u
  stands_first = second.short.stand u (omega (arith, first.below)) first.stands

  module _ (label : Labels) (w : Spells before label) where
    abbrev now_spells : Spells after label
    now_spells = short.spells label w

    for_first : label u ≡ label (one_end g e)
    for_first = first.same label w

    for_second : label v ≡ label (other_end g e)
    for_second = second.same label (first.short.spells label w)

  -- The same vertex stands for both.
  pub joined_before : u ≡ v → EndsJoined g e before after false
  unfolding ends_joined joined
  joined_before q =
      record {
        parents = short.parents;
        new = λ label w. ap not (sym (eq-eqb (label (one_end g e)) (label (other_end g e)) (tied label w)));
        labels = λ label w. rw (edge_joined g label e (tied label w)) (now_spells label w);
      }
    where
      tied : (label : Labels) → Spells before label → label (one_end g e) ≡ label (other_end g e)
      tied label w = sym (for_first label w) ∙ ap label q ∙ for_second label w

  module _ (differ : u ≡ v → ⊥) where
    not_yet : (label : Labels) → Spells before label → true ≡ not (ends_joined g label e)
    unfolding ends_joined joined
    not_yet label w =
        ap not (sym (ne_eqb (label (one_end g e)) (label (other_end g e))
        (λ q. differ ((now_spells label w).once u v (omega (arith, first.below)) (omega (arith, second.below)) stands_first second.stands
        (for_first label w ∙ q ∙ sym (for_second label w))))))

    pub lower_first : u < v → EndsJoined g e before (set after v u) true
    unfolding merge_edge
    lower_first h =
        record {
          parents = lowered short.parents v u (omega (arith, second.below)) h;
          new = not_yet;
          labels = λ label w.
              linked_second short.parents v u (omega (arith, second.below)) h label (now_spells label w)
              second.stands (one_end g e) (other_end g e) (for_first label w) (for_second label w);
        }

    pub lower_second : v < u → EndsJoined g e before (set after u v) true
    unfolding merge_edge
    lower_second h =
        record {
          parents = lowered short.parents u v (omega (arith, first.below)) h;
          new = not_yet;
          labels = λ label w.
              linked_first short.parents u v (omega (arith, first.below)) h label (now_spells label w)
              stands_first (one_end g e) (other_end g e) (for_second label w) (for_first label w);
        }
