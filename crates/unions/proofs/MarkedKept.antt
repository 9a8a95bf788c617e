-- The marked edges of a list, kept one by one as the list is gone through: what is known each time before the next edge is looked at.
-- Assumes nothing.
use Prim.Native.Nat.{ℕ, ◌+◌, ◌≤◌, ◌<◌}
use mathlib.Core.Path.{◌≡◌, refl, ap, ◌∙◌}
use mathlib.Core.Bool.{Bool, true, false}
use mathlib.Core.List.{List, [], ◌∷◌}
use mathlib.Core.Logic.{dite}
use native.Mathlib.Decide.{dec_lt}
use native.Mathlib.Omega.{arith}
use lib.ListN.{length, drop, get_or, set}
use Rattle.lists.specs.Lists.{filter}
use Rattle.lists.proofs.NextPlace.{rest_next, rest_none, filter_taken, filter_passed}
use Rattle.graph.specs.Graph.{Graph}
use Rattle.graph.specs.Valid.{Valid}
use Rattle.forest.specs.Labelled.{Joined}
use Rattle.forest.specs.Keeping.{KeptWritten}
use Rattle.forest.proofs.KeptOneByOne.{Taking, taking_none, taking_passed, taking_more, taking_few, taking_all}

-- Where something is left of a list, its next element is at the place.
next_inside : (xs : List ℕ) (j : ℕ) {x : ℕ} {ys : List ℕ} → drop j xs ≡ x ∷ ys → j < length xs
next_inside xs j {x} {ys} q =
    dite (dec_lt j (length xs)) (λ h. h) (λ h. let none = rest_none xs j (omega arith) in let z : ◌≡◌ {A = ℕ} 0 1 = cc in absurd (omega arith))

module _ (xs : List ℕ) (j : ℕ) {x : ℕ} {ys : List ℕ} (q : drop j xs ≡ x ∷ ys) where
  next_is : get_or xs j 0 ≡ x
  next_is = let n = rest_next xs j (next_inside xs j q) in cc

  next_rest : drop (j + 1) xs ≡ ys
  next_rest = let n = rest_next xs j (next_inside xs j q) in cc

-- The same joining, where the edge and the answer are said in another way.
pub joined_as : {g : Graph} {e f : ℕ} {a z : List ℕ} {r t : Bool} → e ≡ f → r ≡ t → Joined g e a z r → Joined g f a z t
joined_as {e = e} {f = f} {r = r} {t = t} p q j = let edge : e ≡ f = p in let answer : r ≡ t = q in rw (edge, answer) at j

-- The edges of the list before i were looked at: of those that pass the test, the first `place`, all were taken.
pub record KeepingMarked (g : Graph) (test : ℕ → Bool) (list label₀ label out₀ out : List ℕ) (r i place : ℕ) : Type 0 where
  pub within : i ≤ length list
  pub place_within : place ≤ length (filter test list)
  pub taking : Taking g (filter test list) place label₀ label out₀ out r
  pub rest : drop place (filter test list) ≡ filter test (drop i list)

pub keeping_none : (g : Graph) (test : ℕ → Bool) (list label out : List ℕ) → KeepingMarked g test list label label out out 0 0 0
keeping_none g test list label out =
    record { within = omega arith; place_within = omega arith; taking = taking_none label out; rest = refl }

module _ {g : Graph} {test : ℕ → Bool} {list label₀ label out₀ out : List ℕ} {r i place : ℕ} (k : KeepingMarked g test list label₀ label out₀ out r i place) where
  -- When all that pass the test are met, they are kept as the definition keeps them.
  pub keeping_met : Valid g → length (filter test list) ≤ place → KeptWritten g (filter test list) label₀ label out₀ out r
  keeping_met valid all = taking_all k.taking valid all k.place_within

  -- When all edges are looked at, they are.
  pub keeping_all : Valid g → length list ≤ i → KeptWritten g (filter test list) label₀ label out₀ out r
  unfolding filter
  keeping_all valid h =
      let none : drop place (filter test list) ≡ [] = k.rest ∙ ap (filter test) (rest_none list i h) in
      let all : length (filter test list) ≤ place =
      dite (dec_lt place (length (filter test list)))
      (λ l. let n = rest_next (filter test list) place l in let z : ◌≡◌ {A = ℕ} 0 1 = cc in absurd (omega arith)) (λ l. omega arith) in
      keeping_met valid all

  pub keeping_few : Valid g → r < g.vertices
  keeping_few valid = taking_few k.taking valid

  module _ (more : i < length list) where
    -- An edge that does not pass the test is passed by.
    pub keeping_passed : test (get_or list i 0) ≡ false → KeepingMarked g test list label₀ label out₀ out r (i + 1) place
    keeping_passed no_mark =
        record {
          within = omega arith;
          place_within = k.place_within;
          taking = k.taking;
          rest = k.rest ∙ filter_passed test (rest_next list i more) no_mark;
        }

    module _ (mark : test (get_or list i 0) ≡ true) where
      next : drop place (filter test list) ≡ get_or list i 0 ∷ filter test (drop (i + 1) list)
      next = k.rest ∙ filter_taken test (rest_next list i more) mark

      pub inside : place < length (filter test list)
      inside = next_inside (filter test list) place next

      edge_is : get_or (filter test list) place 0 ≡ get_or list i 0
      edge_is = next_is (filter test list) place next

      -- One whose ends were joined is not kept,
      pub keeping_joined : {label₂ : List ℕ} → length label₂ ≡ length label → Joined g (get_or list i 0) label label₂ false → KeepingMarked g test list label₀ label₂ out₀ out r (i + 1) (place + 1)
      keeping_joined same j =
          record {
            within = omega arith;
            place_within = omega (arith, inside);
            taking = taking_passed k.taking inside same (rw edge_is j);
            rest = next_rest (filter test list) place next;
          }

      -- and one whose ends were not is.
      pub keeping_more : {label₂ : List ℕ} → length label₂ ≡ length label → Joined g (get_or list i 0) label label₂ true → r < length out
          → KeepingMarked g test list label₀ label₂ out₀ (set out r (get_or list i 0)) (r + 1) (i + 1) (place + 1)
      keeping_more {label₂} same j room =
          let edge_same : get_or (filter test list) place 0 ≡ get_or list i 0 = edge_is in
          let joined : Joined g (get_or (filter test list) place 0) label label₂ true = rw edge_same j in
          record {
            within = omega arith;
            place_within = omega (arith, inside);
            taking = rw edge_same at (taking_more k.taking inside same joined room);
            rest = next_rest (filter test list) place next;
          }
