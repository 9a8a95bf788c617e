-- The nearer of two distances is one of them and is as near as each, and an edge's weight is added to a distance that there is.
-- Assumes nothing.
use Prim.Native.Nat.{ℕ, ◌+◌, ◌≤◌, min}
use mathlib.Core.Path.{◌≡◌, refl, ap}
use mathlib.Core.Bool.{Bool, true, false, cond}
use mathlib.Core.Option.{some, none, none-ne-some}
use mathlib.Core.Logic.{◌⊎◌, inl, inr}
use native.Mathlib.Omega.{arith}
use lib.Dec.{leb}
use borrow.Author.Tests.{leb-true, leb-false}
use Rattle.lists.proofs.Member.{either}
use Rattle.rules.specs.Distance.{Distance, nearer, further}

-- There is a distance, of at most that much.
pub record AtMost (x : Distance) (most : ℕ) : Type 0 where
  pub value : ℕ
  pub is : x ≡ some value
  pub low : value ≤ most

-- What a test lets through passed it.
pub cond_some : (b : Bool) (x : Distance) {d : ℕ} → cond b x none ≡ some d → (b ≡ true) × (x ≡ some d)
cond_some true x q = (refl, q)
cond_some false x q = absurd (none-ne-some _ q)

-- The nearer of two distances is one of them.
pub nearer_some : (x y : Distance) {d : ℕ} → nearer x y ≡ some d → (x ≡ some d) ⊎ (y ≡ some d)
unfolding nearer
nearer_some none y q = inr q
nearer_some (some a) none q = inl q
nearer_some (some a) (some b) {d} q = let e : min a b ≡ d = cc in go e (either (leb a b))
  where
    go : min a b ≡ d → (leb a b ≡ true) ⊎ (leb a b ≡ false) → (some a ≡ some d) ⊎ (some b ≡ some d)
    go e (inl t) = inl (ap some (omega (arith, leb-true a b t)))
    go e (inr t) = inr (ap some (omega (arith, leb-false a b t)))

-- The nearer of two distances is as near as the first, and as the second.
pub nearer_left : (x y : Distance) {c : ℕ} → AtMost x c → AtMost (nearer x y) c
unfolding nearer
nearer_left none y h = absurd (none-ne-some _ h.is)
nearer_left (some a) none h = h
nearer_left (some a) (some b) h = let e : a ≡ h.value = cc in record { value = min a b; is = refl; low = omega (arith, h.low) }

pub nearer_right : (x y : Distance) {c : ℕ} → AtMost y c → AtMost (nearer x y) c
unfolding nearer
nearer_right none y h = h
nearer_right (some a) none h = absurd (none-ne-some _ h.is)
nearer_right (some a) (some b) h = let e : b ≡ h.value = cc in record { value = min a b; is = refl; low = omega (arith, h.low) }

-- A distance with a weight added is that of a distance that there is.
pub further_some : (w : ℕ) (x : Distance) {d : ℕ} → further w x ≡ some d → (k : ℕ) × (x ≡ some k) × (d ≡ k + w)
unfolding further
further_some w none q = absurd (none-ne-some _ q)
further_some w (some k) q = (k, refl, cc)

-- With a weight added, the bound grows by the weight.
pub further_most : (w : ℕ) (x : Distance) {c : ℕ} → AtMost x c → AtMost (further w x) (c + w)
unfolding further
further_most w none h = absurd (none-ne-some _ h.is)
further_most w (some k) h = let e : k ≡ h.value = cc in record { value = k + w; is = refl; low = omega (arith, h.low) }
