-- The tests of the crews' number (21) and of the list of their roots (55), as the code makes them, one after the other.
-- Assumes nothing.
use Prim.Native.Nat.{ℕ, ◌*◌, ◌≤◌, ◌<◌}
use mathlib.Core.Path.{◌≡◌, refl, sym, ◌∙◌}
use mathlib.Core.Bool.{true, false, false≢true, true≢false}
use mathlib.Core.List.{List, [], ◌∷◌}
use mathlib.Core.Option.{Option, some, none}
use native.Mathlib.Omega.{arith}
use lib.Dec.{leb, ltb}
use lib.ListN.{length}
use borrow.Author.Tests.{lt-ltb, le-ltb, leb-true, leb-false, eq-eqb, ne_eqb}
use Rattle.lists.specs.Count.{below}
use Rattle.lists.specs.Member.{◌∈◌}
use Rattle.lists.proofs.Below.{of_below, in_below}
use Rattle.lists.proofs.Every.{each_all, one_fails}
use Rattle.lists.proofs.Member.{in_map, of_map}
use Rattle.graph.specs.Bytes.{u16_at}
use Rattle.graph.specs.Fault.{Fault, fault_if, fault_unless, first_fault}
use Rattle.graph.proofs.Faults.{one_fault}
use Rattle.rules.specs.Questions.{yards, roots_by, too_many_roots, crew_fault, van_fault}
use Rattle.admit.specs.declared.crews.Kind.{Kind}
use Rattle.admit.specs.declared.crews.Kind.TheVariants.{Rooted, Unrooted}
use Rattle.admit.specs.declared.refusal.Refusal.TheVariants.{Crews, Vans}
use Rattle.admit.specs.Refusals.{number_of}
use Rattle.admit.specs.Crews.{kind_of, CrewsTested, VansTested}

-- With a list no crews are too many for the vertices.
never_many : (kind : Kind) (k : ℕ) (vans : List ℕ) (n : ℕ) → too_many_roots (kind_of kind) k (some vans) n ≡ false
unfolding too_many_roots
never_many Rooted k vans n = refl
never_many Unrooted k vans n = refl

module _ (kind : Kind) (k n : ℕ) (vans : Option (List ℕ)) where
  -- The test of the crews says no, with 21.
  refused_crews : crew_fault (kind_of kind) k vans n ≡ some (number_of Crews) → CrewsTested kind k n vans false
  refused_crews q = record { right = λ t. absurd (false≢true t); wrong = λ t. q }

  pub no_crews : k < 1 → CrewsTested kind k n vans false
  unfolding crew_fault fault_if
  no_crews h = refused_crews (rw (lt-ltb k 1 h) refl)

  pub many_crews : 32 < k → CrewsTested kind k n vans false
  unfolding crew_fault fault_if
  many_crews h = refused_crews (rw (le-ltb k 1 (omega arith), lt-ltb 32 k h) refl)

  module _ (h : 1 ≤ k) (l : k ≤ 32) where
    -- There are 1 to 32 crews: only the roots may be too many.
    few_crews : crew_fault (kind_of kind) k vans n ≡ fault_if (too_many_roots (kind_of kind) k vans n) (number_of Crews)
    unfolding crew_fault
    few_crews = rw (le-ltb k 1 h, le-ltb 32 k l) refl

    fitting_crews : too_many_roots (kind_of kind) k vans n ≡ false → CrewsTested kind k n vans true
    unfolding fault_if
    fitting_crews fits = record { right = λ t. few_crews ∙ rw fits refl; wrong = λ t. absurd (true≢false t) }

pub listed_crews : (kind : Kind) (k n : ℕ) (vans : List ℕ) → 1 ≤ k → k ≤ 32 → CrewsTested kind k n (some vans) true
listed_crews kind k n vans h l = fitting_crews kind k n (some vans) h l (never_many kind k vans n)

module _ (k n : ℕ) (h : 1 ≤ k) (l : k ≤ 32) where
  pub rooted_crews : CrewsTested Rooted k n none (leb k n)
  unfolding too_many_roots fault_if
  rooted_crews =
      record {
        right = λ t. few_crews Rooted k n none h l ∙ rw (le-ltb n k (leb-true k n t)) refl;
        wrong = λ t. few_crews Rooted k n none h l ∙ rw (lt-ltb n k (leb-false k n t)) refl;
      }

  pub unrooted_crews : (vans : Option (List ℕ)) → CrewsTested Unrooted k n vans true
  unfolding too_many_roots
  unrooted_crews vans = fitting_crews Unrooted k n vans h l refl

-- The list of vans: its length, and each of its vertices.
module _ (k n : ℕ) (vans : List ℕ) where
  refused_vans : van_fault yards k (some vans) n ≡ some (number_of Vans) → VansTested k vans n false
  refused_vans q = record { right = λ t. absurd (false≢true t); wrong = λ t. q }

  pub other_length : (length vans ≡ 2 * k → ⊥) → VansTested k vans n false
  unfolding van_fault fault_unless
  other_length d = refused_vans (rw (ne_eqb (length vans) (2 * k) d) refl)

  module _ (sized : length vans ≡ 2 * k) where
    pub van_outside : (j : ℕ) → j < k → n ≤ u16_at vans (2 * j) → VansTested k vans n false
    unfolding van_fault fault_unless
    van_outside j h o =
        refused_vans (rw (eq-eqb (length vans) (2 * k) sized, one_fails (λ root. ltb root n) (in_map (λ i. u16_at vans (2 * i)) (in_below k h)) (le-ltb (u16_at vans (2 * j)) n o)) refl)

    pub vans_inside : ((j : ℕ) → j < k → u16_at vans (2 * j) < n) → VansTested k vans n true
    unfolding van_fault fault_unless
    vans_inside inside =
        record { right = λ t. rw (eq-eqb (length vans) (2 * k) sized, each_all (λ root. ltb root n) (roots_by k (some vans)) each) refl; wrong = λ t. absurd (true≢false t) }
      where
        each : (root : ℕ) → root ∈ roots_by k (some vans) → ltb root n ≡ true
        each root m = let (j, i, is) = of_map (λ i. u16_at vans (2 * i)) (below k) m in rw is (lt-ltb (u16_at vans (2 * j)) n (inside j (of_below k i)))

-- What is refused of a list: nothing where none is brought, or where the crews have no roots; otherwise what its test finds.
module _ {kind : Kind} (k n : ℕ) where
  pub vans_unread : (vans : Option (List ℕ)) → kind ≡ Unrooted → none ≡ van_fault (kind_of kind) k vans n
  unfolding van_fault
  vans_unread vans unrooted = rw unrooted refl

  pub vans_not_brought : kind ≡ Rooted → none ≡ van_fault (kind_of kind) k none n
  unfolding van_fault
  vans_not_brought rooted = rw rooted refl

  pub vans_tested : (vans : List ℕ) {f : Fault} → kind ≡ Rooted → van_fault yards k (some vans) n ≡ f → f ≡ van_fault (kind_of kind) k (some vans) n
  vans_tested vans rooted q = rw rooted (sym q)

-- The crews are refused by their number, or else by what is refused of the list.
pub number_refused : {f : Fault} {number : ℕ} → f ≡ some number → (rest : Fault) → some number ≡ first_fault (f ∷ rest ∷ [])
unfolding first_fault
number_refused q rest = rw q refl

pub list_decides : {f rest : Fault} → f ≡ none → rest ≡ first_fault (f ∷ rest ∷ [])
unfolding first_fault
list_decides {f} {rest} q = rw q (sym (one_fault rest))
