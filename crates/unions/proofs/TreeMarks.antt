-- Marking the edges of a list that is known by another name, and of one list after another.
-- Assumes nothing.
use Prim.Native.Nat.{ℕ, ◌<◌}
use mathlib.Core.Path.{◌≡◌, refl, sym, ap, ◌∙◌}
use mathlib.Core.Bool.{Bool, true, false, cond, ◌||◌}
use mathlib.Core.List.{List, ◌++◌}
use native.Mathlib.Omega.{arith}
use lib.Dec.{eqb}
use lib.ListN.{length, get_or}
use Rattle.lists.specs.Lists.{member}
use Rattle.lists.specs.Member.{◌∈◌}
use Rattle.lists.proofs.AnyOn.{any_on}
use Rattle.lists.proofs.Places.{at_place}
use Rattle.edges.specs.Marked.{EachBelow, Marked}

pub each_below : {n : ℕ} {xs ys : List ℕ} → xs ≡ ys → ((e : ℕ) → e ∈ ys → e < n) → EachBelow n xs
each_below {n} {xs} {ys} q f = rw q (record { each = λ i h. f _ (at_place 0 ys i h) })

pub marked_named : {xs ys a b : List ℕ} → xs ≡ ys → Marked (λ e. member e xs) a b → Marked (λ e. member e ys) a b
marked_named q m = rw q at m

cond_or : (p q : Bool) (x : ℕ) → cond q 1 (cond p 1 x) ≡ cond (p || q) 1 x
cond_or true true x = refl
cond_or true false x = refl
cond_or false true x = refl
cond_or false false x = refl

-- Marked for one test, and then for another.
marked_or : {f h : ℕ → Bool} {a b c : List ℕ} → Marked f a b → Marked h b c → Marked (λ j. f j || h j) a c
marked_or {f} {h} m n =
    record {
      size = n.size ∙ m.size;
      each = λ j l. n.each j (omega (arith, m.size)) ∙ ap (cond (h j) 1) (m.each j l) ∙ cond_or (f j) (h j) _;
    }

-- The same marks, where the test is said in another way.
marked_same : {f h : ℕ → Bool} {a b : List ℕ} → ((j : ℕ) → j < length a → f j ≡ h j) → Marked f a b → Marked h a b
marked_same {a = a} q m = record { size = m.size; each = λ j l. m.each j l ∙ ap (λ t. cond t 1 (get_or a j 0)) (q j l) }

-- Marked for one list, and then for another.
pub marked_both : (xs ys : List ℕ) {a b c : List ℕ} → Marked (λ e. member e xs) a b → Marked (λ e. member e ys) b c → Marked (λ e. member e (xs ++ ys)) a c
unfolding member
marked_both xs ys m n = marked_same (λ e h. sym (any_on (eqb e) xs ys)) (marked_or m n)
