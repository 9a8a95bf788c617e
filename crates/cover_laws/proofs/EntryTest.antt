-- The test of the entries (33) says yes exactly where they rise and name trees and edges that there are. So bytes that pass it are, read and
-- written again, the same bytes.
-- Assumes nothing.
use Prim.Native.Nat.{ℕ, zero, suc, ◌+◌, ◌-◌, ◌≤◌, ◌<◌}
use mathlib.Core.Path.{◌≡◌, refl, sym, ap, subst, ◌∙◌}
use mathlib.Core.Bool.{Bool, true, ◌&&◌, ◌||◌}
use mathlib.Core.List.{List, map}
use mathlib.Core.Logic.{◌⊎◌, inl, inr}
use native.Mathlib.Decide.{ℕ_discrete}
use native.Mathlib.Omega.{arith}
use lib.Dec.{eqb, ltb}
use lib.ListN.{length}
use borrow.Author.Tests.{ltb-true, eqb-true, lt-ltb, eq-eqb, ne_eqb}
use Rattle.lists.specs.Count.{from, below}
use Rattle.lists.specs.Member.{◌∈◌}
use Rattle.lists.proofs.Every.{both_true, first_true, second_true, one_true, left_true, right_true}
use Rattle.lists.proofs.Member.{in_map, of_map}
use Rattle.lists.proofs.Below.{in_from, of_from, in_below, of_below}
use Rattle.lists.proofs.AllBelow.{all_below, each_below}
use Rattle.lists.proofs.InOrder.{none, next}
use Rattle.rules.specs.CoverBytes.{trees_in, entries_in, entry_tree, entry_edge, cover_length, encode, decode}
use Rattle.rules.specs.CheckCover.{entry_rises, entry_right, entries_right}
use Rattle.rules.proofs.Fields.{Bytes}
use Rattle.cover_laws.proofs.Entries.{Entry}
use Rattle.cover_laws.proofs.RisingEntries.{Before, Rises}
use Rattle.cover_laws.proofs.Reading.{entry_in, entries_read}
use Rattle.cover_laws.proofs.WrittenAgain.{Ordered, encode_decode}

-- To come before is transitive.
before_on : (x y z : Entry) → Before x y → Before y z → Before x z
before_on x y z (inl p) (inl q) = inl (omega arith)
before_on x y z (inl p) (inr q) = inl (omega arith)
before_on x y z (inr p) (inl q) = inl (omega arith)
before_on x y z (inr p) (inr q) = inr (p.0 ∙ q.0, omega arith)

module _ (f : ℕ → Entry) where
  -- Where each comes before its neighbour, each comes before all later ones.
  before_later : (i n : ℕ) → ((k : ℕ) → i ≤ k → k < i + suc n → Before (f k) (f (suc k))) → Before (f i) (f (suc (i + n)))
  before_later i zero h =
      let e : i ≡ i + 0 = omega arith in
      subst (λ k. Before (f i) (f (suc k))) e (h i (omega arith) (omega arith))
  before_later i (suc n) h =
      let e : suc (i + n) ≡ i + suc n = omega arith in
      before_on (f i) (f (suc (i + n))) (f (suc (i + suc n))) (before_later i n (λ k l m. h k l (omega arith)))
      (subst (λ k. Before (f (suc (i + n))) (f (suc k))) e (h (suc (i + n)) (omega arith) (omega arith)))

  -- Neighbours that rise make a run that rises.
  rises_run : (a n : ℕ) → ((k : ℕ) → a ≤ k → suc k < a + n → Before (f k) (f (suc k))) → Rises (map f (from a n))
  unfolding from
  rises_run a zero h = none
  rises_run a (suc n) h = next later (rises_run (suc a) n (λ k l m. h k (omega arith) (omega arith)))
    where
      later : (y : Entry) → y ∈ map f (from (suc a) n) → Before (f a) y
      later y m =
          let r = of_map f (from (suc a) n) m in
          let s = of_from (suc a) n r.1 in
          let e : suc (a + (r.0 - suc a)) ≡ r.0 = omega arith in
          subst (λ z. Before (f a) z) (sym r.2) (subst (λ k. Before (f a) (f k)) e (before_later a (r.0 - suc a) (λ k l m. h k l (omega arith))))

  -- In a run that rises, neighbours rise.
  run_rises : (a n : ℕ) → Rises (map f (from a n)) → (k : ℕ) → a ≤ k → suc k < a + n → Before (f k) (f (suc k))
  unfolding from
  run_rises a zero r k l m = absurd (omega arith)
  run_rises a (suc n) (next b r) k l m = go (ℕ_discrete k a) (λ p. run_rises (suc a) n r k p (omega arith))
    where
      go : Dec (k ≡ a) → (suc a ≤ k → Before (f k) (f (suc k))) → Before (f k) (f (suc k))
      go (yes e) later = subst (λ j. Before (f j) (f (suc k))) (sym e) (b (f (suc k)) (in_map f (in_from (suc a) n (omega arith) (omega arith))))
      go (no e) later = later (omega arith)

-- The test of one entry against another.
comes : Entry → Entry → Bool
comes x y = ltb x.tree y.tree || (eqb x.tree y.tree && ltb x.edge y.edge)

comes_before_lem : (x y : Entry) → comes x y ≡ true → Before x y
unfolding comes
comes_before_lem x y t = go (one_true (ltb x.tree y.tree) (same && lower) t)
  where
    same : Bool
    same = eqb x.tree y.tree

    lower : Bool
    lower = ltb x.edge y.edge

    go : (ltb x.tree y.tree ≡ true) ⊎ ((same && lower) ≡ true) → Before x y
    go (inl p) = inl (ltb-true _ _ p)
    go (inr p) = inr (eqb-true _ _ (first_true same lower p), ltb-true _ _ (second_true same lower p))

before_comes : (x y : Entry) → Before x y → comes x y ≡ true
unfolding comes
before_comes x y (inl p) = left_true _ (lt-ltb _ _ p)
before_comes x y (inr p) = right_true (ltb x.tree y.tree) (both_true (eq-eqb _ _ p.0) (lt-ltb _ _ p.1))

-- An entry that is not the first is tested against the one before it.
rises_comes : (b : List ℕ) (i : ℕ) → entry_rises b (suc i) ≡ comes (entry_in b i) (entry_in b (suc i))
unfolding entry_rises entry_in comes
rises_comes b i =
    let e : suc i - 1 ≡ i = omega arith in
    rw (e, ne_eqb (suc i) 0 (omega arith))

rises_first : (b : List ℕ) → entry_rises b 0 ≡ true
unfolding entry_rises
rises_first b = refl

-- The entries of the bytes rise, and name trees that there are and edges below m.
pub record Named (m : ℕ) (b : List ℕ) : Type 0 where
  pub ordered : Ordered b
  pub edges : (x : Entry) → x ∈ entries_read b → x.edge < m

module _ (m : ℕ) (b : List ℕ) where
  -- What the test asks of entry i, as a statement.
  Asked : ℕ → Type 0
  Asked i = (entry_tree b i < trees_in b) × (entry_edge b i < m) × (entry_rises b i ≡ true)

  right_asked : (i : ℕ) → entry_right m b i ≡ true → Asked i
  unfolding entry_right Asked
  right_asked i t =
      let tree = ltb (entry_tree b i) (trees_in b) in
      let edge = ltb (entry_edge b i) m in
      let u = second_true tree (edge && entry_rises b i) t in
      (ltb-true _ _ (first_true tree (edge && entry_rises b i) t), ltb-true _ _ (first_true edge (entry_rises b i) u), second_true edge (entry_rises b i) u)

  asked_right : (i : ℕ) → Asked i → entry_right m b i ≡ true
  unfolding entry_right Asked
  asked_right i h = both_true (lt-ltb _ _ h.0) (both_true (lt-ltb _ _ h.1) h.2)

  module _ (t : entries_right m b ≡ true) where
    -- What each entry of those that pass is asked holds of it,
    passes : (i : ℕ) → i < entries_in b → Asked i
    unfolding entries_right
    passes i l = right_asked i (each_below (entry_right m b) (entries_in b) t i l)

    rises : (k : ℕ) → suc k < entries_in b → Before (entry_in b k) (entry_in b (suc k))
    unfolding Asked
    rises k l = comes_before_lem (entry_in b k) (entry_in b (suc k)) (sym (rises_comes b k) ∙ (passes (suc k) l).2)

    -- so each names a tree that there is,
    pub passed_tree : (i : ℕ) → i < entries_in b → entry_tree b i < trees_in b
    unfolding Asked
    passed_tree i l = (passes i l).0

    -- and no lower tree than those before it.
    pub passed_order : (i k : ℕ) → i ≤ k → k < entries_in b → entry_tree b i ≤ entry_tree b k
    unfolding entry_in
    passed_order i k h l = go (ℕ_discrete i k)
      where
        no_lower : (x y : Entry) → Before x y → x.tree ≤ y.tree
        no_lower x y (inl p) = omega arith
        no_lower x y (inr p) = omega (arith, p.0)

        go : Dec (i ≡ k) → entry_tree b i ≤ entry_tree b k
        go (yes e) = omega (arith, ap (entry_tree b) e)
        go (no e) =
            let there : suc (i + (k - suc i)) ≡ k = omega arith in
            subst (λ j. entry_tree b i ≤ entry_tree b j) there
            (no_lower (entry_in b i) (entry_in b (suc (i + (k - suc i)))) (before_later (entry_in b) i (k - suc i) (λ j p q. rises j (omega arith))))

    -- Entries that pass the test rise, and name trees and edges that there are.
    pub passed_named : Named m b
    unfolding entries_read entry_in below Asked
    passed_named =
        record {
          ordered =
              record {
                rises = rises_run (entry_in b) 0 (entries_in b) (λ k l h. rises k (omega arith));
                trees = λ x k. let r = read x k in subst (λ y. y < trees_in b) (sym (ap (λ (y : Entry). y.tree) r.2)) (passes r.0 r.1).0;
              };
          edges = λ x k. let r = read x k in subst (λ y. y < m) (sym (ap (λ (y : Entry). y.edge) r.2)) (passes r.0 r.1).1;
        }
      where
        read : (x : Entry) → x ∈ map (entry_in b) (below (entries_in b)) → (i : ℕ) × (i < entries_in b) × (x ≡ entry_in b i)
        read x k = let r = of_map (entry_in b) (below (entries_in b)) k in (r.0, of_below (entries_in b) r.1, r.2)

  -- Entries that rise and name trees and edges that there are pass the test.
  pub named_passes : Named m b → entries_right m b ≡ true
  unfolding entries_right entries_read entry_in below Asked
  named_passes n =
      all_below (entry_right m b) (entries_in b)
      (λ i l. let k = in_map (entry_in b) (in_below (entries_in b) l) in asked_right i (n.ordered.trees (entry_in b i) k, n.edges (entry_in b i) k, rises i l))
    where
      rises : (i : ℕ) → i < entries_in b → entry_rises b i ≡ true
      rises zero l = rises_first b
      rises (suc i) l = rises_comes b i ∙ before_comes (entry_in b i) (entry_in b (suc i)) (run_rises (entry_in b) 0 (entries_in b) n.ordered.rises i (omega arith) (omega arith))

  -- Bytes of the length that they say, whose entries pass the test: read and written again, they are the same bytes.
  pub passed_again : Bytes b → length b ≡ cover_length b → entries_right m b ≡ true → encode (decode b) ≡ b
  passed_again bytes sized t =
      encode_decode b (record { bytes = bytes; sized = sized; ordered = (passed_named t).ordered })
