-- The exchange along an augmenting path, turn by turn. Between two turns one root is vacant: no part has it, and it is
-- the next to be given, to the part that reached it. Places fall along the path, so what a turn stores is not read again.
-- Assumes nothing.
use Prim.Native.Nat.{ℕ, ◌+◌, ◌<◌, ◌≤◌}
use mathlib.Core.Path.{◌≡◌, ◌∙◌, refl, sym, ap}
use mathlib.Core.Logic.{inl, inr}
use mathlib.Core.List.{List}
use native.Mathlib.Omega.{arith}
use native.Mathlib.Nat.{le_refl}
use lib.ListN.{length, get_or, set, length-set}
use lib.Seq.{get_or-set_same, get_or-set_other}
use Rattle.lists.specs.Put.{OnlyFirst}
use Rattle.lists.proofs.AfterStore.{after_store}
use Rattle.lists.proofs.Put.{only_first_length}
use Rattle.lists.proofs.OnlyFirst.{only_first_none, only_first_store}
use Rattle.matching.specs.State.{none, Place, Places, Exchangeable, HadOrReached, Exchanged}

-- The state between two turns: `root` is vacant, and was reached from `place`.
pub record Exchanging (i : ℕ) (parts via from before owner roots : List ℕ) (root place : ℕ) : Type 0 where
  pub vacant : root < 32
  pub reached : get_or from root 0 ≡ place
  pub near : place < 33
  pub places : Places i owner parts via from place
  pub all : length owner ≡ 32
  pub is_root : (k : ℕ) → k < i → get_or roots k 0 < 32
  pub owned : (k : ℕ) → k < i → get_or owner (get_or roots k 0) 0 ≡ k
  pub away : (k : ℕ) → k < i → get_or roots k 0 ≡ root → ⊥
  pub owner_of : (r : ℕ) → r < 32 → (r ≡ root → ⊥) → (get_or owner r 0 ≡ none → ⊥) → (get_or owner r 0 < i) × (get_or roots (get_or owner r 0) 0 ≡ r)
  pub by : (k : ℕ) → k < i → HadOrReached parts from before i k (get_or roots k 0)
  pub rest : OnlyFirst (i + 1) before roots

-- The path's root is vacant before the first turn.
pub exchange_start : {i j : ℕ} {parts via from owner roots : List ℕ} → Exchangeable i j parts via from owner roots
    → Exchanging i parts via from roots owner roots j (get_or from j 0)
exchange_start {i} {j} {owner = owner} {roots = roots} e =
    record {
      vacant = e.is_root;
      reached = refl;
      near = e.near;
      places = e.places;
      all = e.mirror.all;
      is_root = e.mirror.is_root;
      owned = e.mirror.owned;
      away = λ k h q. omega (arith, e.few, sym (e.mirror.owned k h) ∙ ap (λ r. get_or owner r 0) q ∙ e.free);
      owner_of = λ r h _. e.mirror.owner_of r h;
      by = λ k h. inl (h, refl);
      rest = only_first_none (i + 1) roots;
    }

module _ {i : ℕ} {parts via from before owner roots : List ℕ} {root place : ℕ}
    (e : Exchanging i parts via from before owner roots root place) (few : i < none) (fits : i < length before) where
  open e use {vacant, reached, near, places, all, is_root, owned, away, owner_of, by, rest}

  -- There is a root for part i and for each before it.
  room : i < length roots
  room = omega (arith, only_first_length rest)

  -- The vacant root goes to a part that is i or before it: what the roots and their owners are then.
  module _ (part : ℕ) (is_part : part < i + 1) where
    abbrev roots' : List ℕ
    roots' = set roots part root

    abbrev owner' : List ℕ
    owner' = set owner root part

    root_at_lem : get_or roots' part 0 ≡ root
    root_at_lem = get_or-set_same roots part root 0 (omega (arith, room))

    owner_at : get_or owner' root 0 ≡ part
    owner_at = get_or-set_same owner root part 0 (omega arith)

    -- every part that has a root, this one among them, has one that is its own
    is_root' : (k : ℕ) → ((k ≡ part → ⊥) → k < i) → get_or roots' k 0 < 32
    is_root' k h = after_store (λ _ r. r < 32) roots part root k (omega (arith, room)) vacant (λ ne. is_root k (h ne))

    owned' : (k : ℕ) → ((k ≡ part → ⊥) → k < i) → get_or owner' (get_or roots' k 0) 0 ≡ k
    owned' k h =
        after_store (λ k r. get_or owner' r 0 ≡ k) roots part root k (omega (arith, room)) owner_at
        (λ ne. get_or-set_other owner root (get_or roots k 0) part 0 (away k (h ne)) ∙ owned k (h ne))

    by' : get_or parts place 0 ≡ part → (k : ℕ) → ((k ≡ part → ⊥) → k < i) → HadOrReached parts from before i k (get_or roots' k 0)
    by' q k h =
        after_store (HadOrReached parts from before i) roots part root k (omega (arith, room))
        (inr ((λ none'. omega arith), ap (λ a. get_or parts a 0) reached ∙ q)) (λ ne. by k (h ne))

    -- and nothing past part i is written
    rest' : OnlyFirst (i + 1) before roots'
    rest' = only_first_store rest part root is_part

    -- a root that is not vacant stays with its part, unless this is the part that gets the vacant one
    owner_of' : (r : ℕ) → r < 32 → (r ≡ root → ⊥) → (get_or owner r 0 ≡ none → ⊥) → (get_or owner r 0 ≡ part → ⊥)
        → (get_or owner r 0 < i) × (get_or roots' (get_or owner r 0) 0 ≡ r)
    owner_of' r h off some other =
        let q = owner_of r h off some in
        (q.0, get_or-set_other roots part (get_or owner r 0) root 0 other ∙ q.1)

  -- The root was reached from a part behind the first: that part gets it.
  module _ (more : place ≡ 0 → ⊥) where
    pub here : Place i owner parts via from place
    here = places.behind place (omega arith) (le_refl place)

    abbrev part : ℕ
    part = get_or parts place 0

    abbrev next : ℕ
    next = get_or via place 0

    is_part : part < i + 1
    is_part = omega (arith, here.is_part)

    next_off : next ≡ root → ⊥
    next_off q = omega (arith, here.earlier, ap (λ r. get_or from r 0) q)

    -- The part has another root so far, the next to be vacant.
    its_root : get_or roots part 0 ≡ next
    its_root =
        ap (λ k. get_or roots k 0) (sym here.has)
        ∙ (owner_of next here.is_root next_off (λ q. omega (arith, here.is_part, here.has))).1

    -- Places before the next root's are as they were: the vacant root was reached from a later one.
    kept : (a : ℕ) → 0 < a → a ≤ get_or from next 0 → Place i (set owner root part) parts via from a
    kept a some near' =
        let old = places.behind a some (omega (arith, here.earlier)) in
        record {
          is_root = old.is_root;
          earlier = old.earlier;
          has =
              get_or-set_other owner root (get_or via a 0) part 0
              (λ q. omega (arith, old.earlier, here.earlier, ap (λ r. get_or from r 0) q))
              ∙ old.has;
          is_part = old.is_part;
        }

    -- A turn: the vacant root goes to the part that reached it, and the root that this part had is vacant.
    pub exchange_turn : Exchanging i parts via from before (set owner root part) (set roots part root) next (get_or from next 0)
    exchange_turn =
        record {
          vacant = here.is_root;
          reached = refl;
          near = omega (arith, here.earlier);
          places = record { first = places.first; behind = kept };
          all = length-set owner root part ∙ all;
          is_root = λ k h. is_root' part is_part k (λ _. h);
          owned = λ k h. owned' part is_part k (λ _. h);
          away =
              λ k h.
              after_store (λ k r. k < i → r ≡ next → ⊥) roots part root k (omega (arith, is_part, room))
              (λ _ q. next_off (sym q))
              (λ ne h q. ne (sym (owned k h) ∙ ap (λ r. get_or owner r 0) q ∙ here.has)) h;
          owner_of =
              λ r h.
              after_store (λ r o. r < 32 → (r ≡ next → ⊥) → (o ≡ none → ⊥) → (o < i) × (get_or (set roots part root) o 0 ≡ r))
              owner root part r (omega arith)
              (λ _ _ _. (here.is_part, root_at_lem part is_part))
              (λ off h other some. owner_of' part is_part r h off some
              (λ q. other (sym (owner_of r h off some).1 ∙ ap (λ k. get_or roots k 0) q ∙ its_root))) h;
          by = λ k h. by' part is_part refl k (λ _. h);
          rest = rest' part is_part;
        }

  -- The last turn: the vacant root goes to part i, and no root is vacant.
  pub exchange_end : place ≡ 0 → Exchanged i parts from before (set owner root i) (set roots i root)
  exchange_end q =
      let last : i < i + 1 = omega arith in
      record {
        mirror =
            record {
              all = length-set owner root i ∙ all;
              is_root = λ k h. is_root' i last k (λ ne. omega arith);
              owned = λ k h. owned' i last k (λ ne. omega arith);
              owner_of =
                  λ r h.
                  after_store (λ r o. r < 32 → (o ≡ none → ⊥) → (o < i + 1) × (get_or (set roots i root) o 0 ≡ r)) owner root i r (omega arith)
                  (λ _ _. (last, root_at_lem i last))
                  (λ off h some.
                  let o = owner_of' i last r h off some (λ e. omega (arith, (owner_of r h off some).0)) in
                  (omega arith, o.1)) h;
            };
        by = λ k h. by' i last (ap (λ a. get_or parts a 0) q ∙ places.first) k (λ ne. omega arith);
        rest = rest' i last;
      }
