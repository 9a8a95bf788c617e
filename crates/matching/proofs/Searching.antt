-- The search for an augmenting path, turn by turn: a place of the parts reached, and a root for its part, at a time.
-- As many roots are reached as there are places behind the first, so the places are never full while a root is left.
-- Assumes nothing.
use Prim.Native.Nat.{ℕ, ◌+◌, ◌*◌, ◌<◌, ◌≤◌}
use mathlib.Core.Path.{◌≡◌, ◌∙◌, refl, sym, ap}
use mathlib.Core.Bool.{Bool, true, false, not}
use mathlib.Core.List.{List}
use native.Mathlib.Omega.{arith}
use native.Mathlib.Nat.{mul-le-mul_right, add-mul, one-mul}
use lib.Dec.{eqb}
use lib.ListN.{length, get_or, set, length-set}
use lib.Seq.{get_or-set_same, get_or-set_other}
use borrow.Author.Tests.{eq-eqb, ne_eqb, eqb-false, not-true}
use Rattle.lists.specs.Count.{count}
use Rattle.lists.proofs.Fewer.{count_bounded, count_fewer}
use Rattle.lists.proofs.AfterStore.{at_or_not, after_store}
use Rattle.lists.proofs.Pigeonhole.{count_all}
use Rattle.matching.specs.State.{none, Place, Edges, Reached, Closed}

-- Some part has reached the root.
pub reached : List ℕ → ℕ → Bool
reached from r = not (eqb (get_or from r 0) none)

reached_true : (from : List ℕ) (r : ℕ) → (get_or from r 0 ≡ none → ⊥) → reached from r ≡ true
unfolding reached
reached_true from r some = rw (ne_eqb (get_or from r 0) none some)

reached_false : (from : List ℕ) (r : ℕ) → get_or from r 0 ≡ none → reached from r ≡ false
unfolding reached
reached_false from r e = rw (eq-eqb (get_or from r 0) none e)

reached_not : (from : List ℕ) (r : ℕ) → reached from r ≡ true → get_or from r 0 ≡ none → ⊥
unfolding reached
reached_not from r e = eqb-false (get_or from r 0) none (not-true (eqb (get_or from r 0) none) e)

-- A search from part i has reached t parts, and the roots that `from` has.
pub record Queue (y : ℕ) (allowed : ℕ → ℕ → Bool) (i : ℕ) (owner parts via from : List ℕ) (t : ℕ) : Type 0 where
  pub parts_size : length parts ≡ 33
  pub via_size : length via ≡ 33
  pub from_size : length from ≡ 32
  pub some : 0 < t
  pub room : t ≤ 1 + count 32 (reached from)
  pub first : get_or parts 0 0 ≡ i
  pub behind : (a : ℕ) → 0 < a → a < t → Place i owner parts via from a
  pub near : (r : ℕ) → r < 32 → (get_or from r 0 ≡ none → ⊥) → get_or from r 0 < t
  pub edges : Edges y allowed parts from
  pub queued : (r : ℕ) → r < 32 → (get_or from r 0 ≡ none → ⊥) → (b : ℕ) × (0 < b) × (b < t) × (get_or via b 0 ≡ r)

-- The state of the search: the roots allowed to the parts at places before `at` are reached, and of those allowed to the
-- part at `at` the ones below j.
pub record Searching (y : ℕ) (allowed : ℕ → ℕ → Bool) (i : ℕ) (owner parts via from : List ℕ) (t at j : ℕ) : Type 0 where
  pub queue : Queue y allowed i owner parts via from t
  pub within : at ≤ t
  pub root : j ≤ y
  pub passed : (a r : ℕ) → a < at → r < y → allowed (get_or parts a 0) r ≡ true → get_or from r 0 ≡ none → ⊥
  pub passing : (r : ℕ) → r < j → allowed (get_or parts at 0) r ≡ true → get_or from r 0 ≡ none → ⊥

module _ {y : ℕ} {allowed : ℕ → ℕ → Bool} {i : ℕ} {owner parts via from : List ℕ} {t at j : ℕ} (s : Searching y allowed i owner parts via from t at j) where
  open s use {queue, within, root, passed, passing}
  open queue use {parts_size, via_size, from_size, some, room, first, behind, near, edges, queued}

  -- There are no more parts than places.
  pub search_few : t ≤ 33
  search_few = omega (arith, count_bounded 32 (reached from), room)

  -- Each part reached is part i or one before it.
  search_part : (a : ℕ) → a < t → get_or parts a 0 ≤ i
  search_part a h = at_or_not (λ x. x < t → get_or parts x 0 ≤ i) 0 a (λ _. omega (arith, first)) (λ ne h. omega (arith, (behind a (omega arith) h).is_part)) h

  -- A root allowed to a part reached has its byte.
  pub search_byte : (n : ℕ) → (i + 1) * y ≤ n → at < t → j < y → get_or parts at 0 * y + j < n
  search_byte n enough h below =
      let k = get_or parts at 0 in
      let l : k + 1 ≤ i + 1 = omega (arith, search_part at h) in
      omega (arith, mul-le-mul_right y l, add-mul k 1 y, one-mul y)

  -- The search is at its end.
  pub search_closed : t ≤ at → y ≤ 32 → Closed y allowed i owner parts t
  search_closed end few =
      record {
        some = some;
        few = search_few;
        first = first;
        behind = λ a h l. (behind a h l).is_part;
        closed = λ a r l h e. let q = queued r (omega arith) (passed a r (omega arith) h e) in (q.0, q.1, q.2, ap (λ r. get_or owner r 0) (sym q.3) ∙ (behind q.0 q.1 q.2).has);
      }

  -- Root j is allowed to the part at this place and is not reached yet: it is reached now.
  module _ (few : y ≤ 32) (h : at < t) (below : j < y) (may : allowed (get_or parts at 0) j ≡ true) (new : get_or from j 0 ≡ none) where
    abbrev from' : List ℕ
    from' = set from j at

    at_few : at < 33
    at_few = omega (arith, search_few)

    at_some : at ≡ none → ⊥
    at_some q = omega (arith, at_few)

    from_at : get_or from' j 0 ≡ at
    from_at = get_or-set_same from j at 0 (omega (arith, from_size))

    -- the roots of the places so far were reached before, from the same places
    earlier' : (a : ℕ) → 0 < a → a < t → get_or from' (get_or via a 0) 0 < a
    earlier' a l u =
        let old = (behind a l u).earlier in
        rw (get_or-set_other from j (get_or via a 0) at 0 (λ q. omega (arith, search_few, old, ap (λ r. get_or from r 0) q))) old

    edges' : Edges y allowed parts from'
    edges' r l = after_store (λ r f. (f ≡ none → ⊥) → (r < y) × (allowed (get_or parts f 0) r ≡ true)) from j at r (omega (arith, from_size)) (λ _. (below, may)) (λ _. edges r l)

    near' : (r : ℕ) → r < 32 → (get_or from' r 0 ≡ none → ⊥) → get_or from' r 0 < t
    near' r l = after_store (λ _ f. (f ≡ none → ⊥) → f < t) from j at r (omega (arith, from_size)) (λ _. h) (λ _. near r l)

    -- what was reached still is
    still : (r : ℕ) → (get_or from r 0 ≡ none → ⊥) → get_or from' r 0 ≡ none → ⊥
    still r n = after_store (λ _ f. f ≡ none → ⊥) from j at r (omega (arith, from_size)) at_some (λ _. n)

    -- No part has it: there is a path to it.
    pub search_found : get_or owner j 0 ≡ none → Reached y allowed i owner parts via from' j
    search_found free =
        record {
          is_root = omega arith;
          free = free;
          near = rw from_at at_few;
          places =
              record {
                first = first;
                behind =
                    λ a l u.
                    let old = behind a l (omega (arith, from_at)) in
                    record {
                      is_root = old.is_root;
                      earlier = earlier' a l (omega (arith, from_at));
                      has = old.has;
                      is_part = old.is_part;
                    };
              };
          edges = edges';
        }

    -- There is a place for the part that has it.
    pub search_room : t < 33
    search_room = omega (arith, room, count_all 32, count_fewer 32 (reached from) (λ _. true) (λ _ _ _. refl) j (omega arith) (reached_false from j new) refl)

    -- The part that has it is reached now.
    module _ (is_part : get_or owner j 0 < i) where
      abbrev parts' : List ℕ
      parts' = set parts t (get_or owner j 0)

      abbrev via' : List ℕ
      via' = set via t j

      parts_off : (a : ℕ) → a < t → get_or parts' a 0 ≡ get_or parts a 0
      parts_off a l = get_or-set_other parts t a (get_or owner j 0) 0 (omega arith)

      via_off : (a : ℕ) → a < t → get_or via' a 0 ≡ get_or via a 0
      via_off a l = get_or-set_other via t a j 0 (omega arith)

      room' : t + 1 ≤ 1 + count 32 (reached from')
      room' =
          let one_more = count_fewer 32 (reached from) (reached from') (λ r l p. reached_true from' r (still r (reached_not from r p)))
          j (omega arith) (reached_false from j new) (reached_true from' j (rw from_at at_some)) in
          omega (arith, room)

      via_at : get_or via' t 0 ≡ j
      via_at = get_or-set_same via t j 0 (omega (arith, search_room, via_size))

      place_last : Place i owner parts' via' from' t
      place_last =
          let parts_at : get_or parts' t 0 ≡ get_or owner j 0 = get_or-set_same parts t (get_or owner j 0) 0 (omega (arith, search_room, parts_size)) in
          record {
            is_root = omega (arith, via_at);
            earlier = rw (via_at, from_at) h;
            has = rw (via_at, parts_at);
            is_part = rw parts_at is_part;
          }

      place_kept : (a : ℕ) → 0 < a → a < t → Place i owner parts' via' from' a
      place_kept a l u =
          let old = behind a l u in
          record {
            is_root = rw (via_off a u) old.is_root;
            earlier = rw (via_off a u) (earlier' a l u);
            has = rw (via_off a u, parts_off a u) old.has;
            is_part = rw (parts_off a u) old.is_part;
          }

      -- The search goes on with the next root.
      pub search_push : Searching y allowed i owner parts' via' from' (t + 1) at (j + 1)
      search_push =
          record {
            queue =
                record {
                  parts_size = length-set parts t (get_or owner j 0) ∙ parts_size;
                  via_size = length-set via t j ∙ via_size;
                  from_size = length-set from j at ∙ from_size;
                  some = omega arith;
                  room = room';
                  first = parts_off 0 some ∙ first;
                  behind = λ a l u. at_or_not (λ x. 0 < x → x < t + 1 → Place i owner parts' via' from' x) t a (λ _ _. place_last) (λ ne l u. place_kept a l (omega arith)) l u;
                  near = λ r l n. omega (arith, near' r l n);
                  edges = λ r l n. let q = edges' r l n in (q.0, rw (parts_off (get_or from' r 0) (near' r l n)) q.1);
                  queued =
                      λ r l.
                      after_store (λ r f. (f ≡ none → ⊥) → (b : ℕ) × (0 < b) × (b < t + 1) × (get_or via' b 0 ≡ r)) from j at r (omega (arith, from_size))
                      (λ _. (t, some, omega arith, via_at))
                      (λ _ n. let q = queued r l n in (q.0, q.1, omega arith, via_off q.0 q.2 ∙ q.3));
                };
            within = omega arith;
            root = omega arith;
            passed = λ a r l b e. still r (passed a r l b (rw (parts_off a (omega arith)) at e));
            passing =
                λ r l.
                at_or_not (λ x. x < j + 1 → allowed (get_or parts' at 0) x ≡ true → get_or from' x 0 ≡ none → ⊥) j r
                (λ _ _ q. at_some (sym from_at ∙ q)) (λ ne l e. still r (passing r (omega arith) (rw (parts_off at h) at e))) l;
          }
