-- The lowest vertex joined to no root, and the lowest vertex of each component, as loops over the vertices find them: a vertex is joined
-- to a lower one exactly where its label has been met before.
-- Assumes nothing.
use Prim.Native.Nat.{ℕ, zero, suc, ◌+◌, ◌≤◌, ◌<◌}
use mathlib.Core.Path.{◌≡◌, refl, sym, ap, ◌∙◌}
use mathlib.Core.Bool.{Bool, true, false, not, false≢true}
use mathlib.Core.List.{List}
use mathlib.Core.Option as math
use native.Mathlib.Numerals.{add-one}
use native.Mathlib.Omega.{arith}
use lib.ListN.{length, get_or, take, set, length-set, replicate, length-replicate}
use lib.Seq.{get_or-set_same, get_or-set_other, get_or-take, length-take-le}
use borrow.Author.Count.{below_more}
use Rattle.std.specs.Prelude.{Option, Some, None, MatchOption}
use Rattle.std.specs.List.{AllWithin, HoldsAt}
use Rattle.lists.specs.Count.{any_below}
use Rattle.lists.specs.Lists.{filter, first_that}
use Rattle.lists.proofs.AfterStore.{at_or_not}
use Rattle.lists.proofs.AnyBelow.{found_any_below, none_any_below}
use Rattle.lists.proofs.NextPlace.{below_from, numbers_all, numbers_next, numbers_none, filter_taken, filter_passed}
use Rattle.lists.proofs.PutOneByOne.{PutSoFar, so_far_none, so_far_same, so_far_more, so_far_all}
use Rattle.rules.specs.Labels.{Labels, joined}
use Rattle.rules.specs.Forest.{unjoined, lowest}
use Rattle.forest.specs.Arrays.{Agrees}
use Rattle.forest.specs.Lowest.{vertex_in, Unjoined, Components}
use Rattle.forest.proofs.Labelling.{joined_yes, joined_no}

-- The first of the numbers below n that is not joined to the root, from v on.
abbrev pub unjoined_from : Labels → ℕ → ℕ → ℕ → math.Option ℕ
unjoined_from label n root v = first_that (λ u. not (joined label root u)) (below_from n v)

-- From v on the first is the first of all.
pub record Looking (array : List ℕ) (n root v : ℕ) : Type 0 where
  pub same : (label : Labels) → Agrees n array label → unjoined_from label n root 0 ≡ unjoined_from label n root v

module _ {array : List ℕ} {n root : ℕ} where
  pub looking_none : Looking array n root 0
  looking_none = record { same = λ label a. refl }

  -- the answer is that of the definition, whatever the graph and the roots
  answered : (r : Option ℕ) → ((label : Labels) → Agrees n array label → unjoined_from label n root 0 ≡ vertex_in r) → Unjoined array n root r
  unfolding unjoined
  answered r q =
      record {
        is = λ g roots label vertices first a. sym (rw (vertices, first, numbers_all n) (q label a));
      }

  module _ {v : ℕ} (l : Looking array n root v) where
    module _ (hr : root < n) (hv : v < n) where
      pub looking_more : get_or array v 0 ≡ get_or array root 0 → Looking array n root (v + 1)
      unfolding first_that
      looking_more q =
          record { same = λ label a. l.same label a ∙ rw (numbers_next n v hv, joined_yes array label a root v hr hv (sym q)) }

      pub looking_found : (get_or array v 0 ≡ get_or array root 0 → ⊥) → Unjoined array n root (Some v)
      unfolding first_that
      looking_found d =
          answered (Some v) (λ label a. l.same label a ∙ rw (numbers_next n v hv, joined_no array label a root v hr hv (λ q. d (sym q))))

    pub looking_all : n ≤ v → Unjoined array n root None
    unfolding first_that
    looking_all h = answered None (λ label a. l.same label a ∙ rw (numbers_none n v h))

  -- Up to v all vertices are joined to the root.
  pub looking_up : (v : ℕ) → root < n → v ≤ n → ((u : ℕ) → u < v → get_or array u 0 ≡ get_or array root 0) → Looking array n root v
  looking_up zero hr h same = looking_none
  looking_up (suc v) hr h same =
      rw (← add-one v) (looking_more (looking_up v hr (omega arith) (λ u l. same u (omega arith))) hr (omega arith) (same v (omega arith)))

  -- The place of the first label that is not the root's is the answer.
  pub place_answers : root < n → n ≤ length array → (r : Option ℕ)
      → MatchOption r (AllWithin (λ x. x ≡ get_or array root 0) (take n array) 0 (length (take n array)))
      (λ v. (v < length (take n array)) × HoldsAt (λ x. x ≡ get_or array root 0 → ⊥) (take n array) v
      × AllWithin (λ x. x ≡ get_or array root 0) (take n array) 0 v)
      → Unjoined array n root r
  place_answers hr room r places = go r places
    where
      size : length (take n array) ≡ n
      size = length-take-le n array room

      label_of : (u : ℕ) → u < n → get_or (take n array) u 0 ≡ get_or array u 0
      label_of u h = get_or-take n array u 0 h

      go : (r : Option ℕ)
          → MatchOption r (AllWithin (λ x. x ≡ get_or array root 0) (take n array) 0 (length (take n array)))
          (λ v. (v < length (take n array)) × HoldsAt (λ x. x ≡ get_or array root 0 → ⊥) (take n array) v
          × AllWithin (λ x. x ≡ get_or array root 0) (take n array) 0 v)
          → Unjoined array n root r
      go None all = looking_all (looking_up n hr (omega arith) (λ u h. sym (label_of u h) ∙ all u 0 (omega arith) (omega (arith, size)))) (omega arith)
      go (Some v) (inside, away, all) =
          let h : v < n = omega (arith, size) in
          looking_found (looking_up v hr (omega arith) (λ u l. sym (label_of u (omega arith)) ∙ all u 0 (omega arith) l)) hr h
          (λ q. away 0 (label_of v h ∙ q))

-- What is read of the first n labels is the label of a vertex.
pub label_read : (n : ℕ) (array : List ℕ) (v : ℕ) {x : ℕ} → n ≤ length array → v < length (take n array) → x ≡ get_or (take n array) v 0
    → (v < n) × (x ≡ get_or array v 0)
label_read n array v room h q =
    let l : v < n = omega (arith, length-take-le n array room) in
    (l, q ∙ get_or-take n array v 0 l)

-- No label has been met yet.
none_met : (n x : ℕ) → get_or (replicate n false) x false ≡ false
none_met zero x = refl
none_met (suc n) zero = refl
none_met (suc n) (suc x) = none_met n x

-- The labels of the vertices below v have been met, and no other.
pub record Meeting (array : List ℕ) (v : ℕ) (met : List Bool) : Type 0 where
  pub size : length met ≡ 256
  pub each : (u : ℕ) → u < v → get_or met (get_or array u 0) false ≡ true
  pub only : (x : ℕ) → get_or met x false ≡ true → (u : ℕ) × (u < v) × (get_or array u 0 ≡ x)

-- v is joined to a lower vertex, exactly where r says so.
pub record JoinedBelow (array : List ℕ) (v : ℕ) (r : Bool) : Type 0 where
  pub is : (n : ℕ) (label : Labels) → v < n → Agrees n array label → r ≡ any_below v (λ u. joined label u v)

module _ {array : List ℕ} where
  pub meeting_none : Meeting array 0 (replicate 256 false)
  meeting_none =
      record {
        size = length-replicate {A = Bool} 256 false;
        each = λ u h. absurd (omega arith);
        only = λ x q. absurd (false≢true (sym (none_met 256 x) ∙ q));
      }

  module _ {v : ℕ} {met : List Bool} (w : Meeting array v met) {x : ℕ} (Label-is : x ≡ get_or array v 0) where
    -- The label of v has been met before: v is joined to a lower vertex,
    module _ (t : get_or met x false ≡ true) where
      pub met_joined : JoinedBelow array v true
      met_joined =
          let (u, l, q) = w.only x t in
          record {
            is = λ n label h a. sym (found_any_below (λ u. joined label u v) v l (joined_yes array label a u v (omega arith) h (q ∙ Label-is)));
          }

      pub meeting_again : Meeting array (v + 1) met
      meeting_again =
          record {
            size = w.size;
            each = below_more (λ u. get_or met (get_or array u 0) false ≡ true) v w.each (rw Label-is at t);
            only = λ y p. let (u, l, q) = w.only y p in (u, omega arith, q);
          }

    -- or it is new: v is not.
    pub new_apart : get_or met x false ≡ false → JoinedBelow array v false
    new_apart new =
        record {
          is =
              λ n label h a.
              sym (none_any_below (λ u. joined label u v) v
              (λ u l. joined_no array label a u v (omega arith) h (λ q. false≢true (sym new ∙ rw (q ∙ sym Label-is) at (w.each u l)))));
        }

    -- Its label is met now.
    pub meeting_new : x < 256 → Meeting array (v + 1) (set met x true)
    meeting_new room =
        let now : List Bool = set met x true in
        let inside : x < length met = omega (arith, w.size) in
        let here : get_or now x false ≡ true = get_or-set_same met x true false inside in
        record {
          size = length-set met x true ∙ w.size;
          each =
              below_more (λ u. get_or now (get_or array u 0) false ≡ true) v
              (λ u l. at_or_not (λ y. get_or now y false ≡ true) x (get_or array u 0) here
              (λ away. get_or-set_other met x (get_or array u 0) true false away ∙ w.each u l))
              (rw (← Label-is) here);
          only =
              λ y.
              at_or_not (λ y. get_or now y false ≡ true → (u : ℕ) × (u < v + 1) × (get_or array u 0 ≡ y)) x y
              (λ t. (v, omega arith, sym Label-is))
              (λ away t. let (u, l, q) = w.only y (sym (get_or-set_other met x y true false away) ∙ t) in (u, omega arith, q));
        }

-- v is joined to no lower vertex.
abbrev pub is_lowest : Labels → ℕ → Bool
is_lowest label v = not (any_below v (λ u. joined label u v))

-- The lowest vertices below v were written, and those from v on are left.
pub record Listing (array : List ℕ) (n v : ℕ) (before after : List ℕ) (r : ℕ) : Type 0 where
  pub few : r ≤ v
  pub within : v ≤ n
  pub same : length after ≡ length before
  pub so_far : (label : Labels) → Agrees n array label
      → PutSoFar 0 (filter (is_lowest label) (below_from n 0)) (filter (is_lowest label) (below_from n v)) before after r

module _ {array : List ℕ} {n : ℕ} where
  pub listing_none : (before : List ℕ) → Listing array n 0 before before 0
  listing_none before = record { few = omega arith; within = omega arith; same = refl; so_far = λ label a. so_far_none before 0 (omega arith) }

  module _ {v : ℕ} {before after : List ℕ} {r : ℕ} (l : Listing array n v before after r) where
    module _ (h : v < n) where
      pub listing_passed : JoinedBelow array v true → Listing array n (v + 1) before after r
      listing_passed j =
          record {
            few = omega arith;
            within = omega arith;
            same = l.same;
            so_far =
                λ label a.
                so_far_same (l.so_far label a)
                (filter_passed (is_lowest label) (numbers_next n v h) (ap not (sym (j.is n label h a))));
          }

      pub listing_more : JoinedBelow array v false → r < length after → Listing array n (v + 1) before (set after r v) (r + 1)
      listing_more j room =
          record {
            few = omega arith;
            within = omega arith;
            same = length-set after r v ∙ l.same;
            so_far =
                λ label a.
                so_far_more (l.so_far label a)
                (filter_taken (is_lowest label) (numbers_next n v h) (ap not (sym (j.is n label h a)))) room;
          }

    pub listing_all : n ≤ v → Components array n before after r
    unfolding lowest filter
    listing_all h =
        record {
          few = omega arith;
          are = λ g label vertices a. rw (vertices, numbers_all n) (so_far_all (l.so_far label a) (rw (numbers_none n v h)));
        }
