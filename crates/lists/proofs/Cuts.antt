-- Lists cut at an element in two ways: a list with one element more, and a list cut at two elements.
-- Assumes nothing.
use mathlib.Core.Path.{◌≡◌, refl, sym, ap, ap₂}
use mathlib.Core.List.{List, [], ◌∷◌, ◌++◌, nil≢cons, head-eq_of_cons-eq, tail-eq_of_cons-eq}

-- a list with an element is not empty
pub some_not_none {ℓ} : {A : Type ℓ} (xs : List A) (y : A) (ys : List A) → Path (List A) [] (xs ++ (y ∷ ys)) → ⊥
some_not_none [] y ys q = nil≢cons q
some_not_none (x ∷ xs) y ys q = nil≢cons q

-- A list with one element more, z, cut at y: at the last, or before it.
pub data LastOrBefore {ℓ} {A : Type ℓ} (whole : List A) (z : A) (xs : List A) (y : A) : Type ℓ where
  at_last : xs ≡ whole → y ≡ z → LastOrBefore whole z xs y
  before_last : (rest : List A) → whole ≡ xs ++ (y ∷ rest) → LastOrBefore whole z xs y

pub cut_more {ℓ} : {A : Type ℓ} (whole : List A) (z : A) (xs : List A) (y : A) (ys : List A) → whole ++ (z ∷ []) ≡ xs ++ (y ∷ ys) → LastOrBefore whole z xs y
cut_more [] z [] y ys q = at_last refl (sym (head-eq_of_cons-eq q))
cut_more [] z (x ∷ xs) y ys q = absurd (some_not_none xs y ys (tail-eq_of_cons-eq q))
cut_more (w ∷ whole) z [] y ys q = before_last whole (ap (λ v. v ∷ whole) (head-eq_of_cons-eq q))
cut_more (w ∷ whole) z (x ∷ xs) y ys q = go (head-eq_of_cons-eq q) (cut_more whole z xs y ys (tail-eq_of_cons-eq q))
  where
    go : w ≡ x → LastOrBefore whole z xs y → LastOrBefore (w ∷ whole) z (x ∷ xs) y
    go p (at_last r s) = at_last (ap₂ (λ v l. v ∷ l) (sym p) r) s
    go p (before_last rest r) = before_last rest (ap₂ (λ v l. v ∷ l) p r)

-- A list cut at two elements, y behind xs and w behind vs: they are the same, or one stands before the other.
pub data WhichFirst {ℓ} {A : Type ℓ} (xs : List A) (y : A) (vs : List A) (w : A) : Type ℓ where
  together : y ≡ w → WhichFirst xs y vs w
  first_one : (rest : List A) → vs ≡ xs ++ (y ∷ rest) → WhichFirst xs y vs w
  first_other : (rest : List A) → xs ≡ vs ++ (w ∷ rest) → WhichFirst xs y vs w

pub which_first {ℓ} : {A : Type ℓ} (xs : List A) (y : A) (ys vs : List A) (w : A) (ws : List A) → xs ++ (y ∷ ys) ≡ vs ++ (w ∷ ws) → WhichFirst xs y vs w
which_first [] y ys [] w ws q = together (head-eq_of_cons-eq q)
which_first [] y ys (v ∷ vs) w ws q = first_one vs (ap (λ u. u ∷ vs) (sym (head-eq_of_cons-eq q)))
which_first (x ∷ xs) y ys [] w ws q = first_other xs (ap (λ u. u ∷ xs) (head-eq_of_cons-eq q))
which_first (x ∷ xs) y ys (v ∷ vs) w ws q = go (head-eq_of_cons-eq q) (which_first xs y ys vs w ws (tail-eq_of_cons-eq q))
  where
    go : x ≡ v → WhichFirst xs y vs w → WhichFirst (x ∷ xs) y (v ∷ vs) w
    go p (together r) = together r
    go p (first_one rest r) = first_one rest (ap₂ (λ u l. u ∷ l) (sym p) r)
    go p (first_other rest r) = first_other rest (ap₂ (λ u l. u ∷ l) p r)
