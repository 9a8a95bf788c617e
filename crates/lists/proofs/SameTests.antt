-- Tests that say the same of every element concerned: they let the same elements pass, and some number below a bound passes the one where
-- some number passes the other.
-- Assumes nothing.
use Prim.Native.Nat.{ℕ, zero, suc, ◌<◌}
use mathlib.Core.Path.{◌≡◌, refl}
use mathlib.Core.Bool.{Bool}
use mathlib.Core.List.Memᴰ
use mathlib.Core.List.{List, [], ◌∷◌}
use native.Mathlib.Omega.{arith}
use Rattle.lists.specs.Count.{any_below}
use Rattle.lists.specs.Lists.{filter}
use Rattle.lists.specs.Member.{◌∈◌}

pub filter_same {ℓ} : {A : Type ℓ} (f h : A → Bool) (xs : List A) → ((x : A) → x ∈ xs → f x ≡ h x) → filter f xs ≡ filter h xs
unfolding filter
filter_same f h [] same = refl
filter_same f h (x ∷ xs) same = rw (same x (Memᴰ.head refl), filter_same f h xs (λ y m. same y (Memᴰ.tail m)))

pub any_below_same : (n : ℕ) (f h : ℕ → Bool) → ((k : ℕ) → k < n → f k ≡ h k) → any_below n f ≡ any_below n h
unfolding any_below
any_below_same zero f h same = refl
any_below_same (suc n) f h same = rw (same n (omega arith), any_below_same n f h (λ k l. same k (omega arith)))
