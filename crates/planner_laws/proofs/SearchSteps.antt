-- The search (document 01, "The best limit"): each step leaves half of what lies between low and high, and keeps low refused and high accepted.
-- However many steps it takes, more of them bring low and high no further apart. Nothing is said of limits that were not tried.
-- Assumes nothing.
use Prim.Native.Nat.{ℕ, zero, suc, ◌+◌, ◌-◌, ◌/◌, ◌^◌, ◌≤◌, ◌<◌}
use mathlib.Core.Path.{◌≡◌, refl, sym, ◌∙◌}
use mathlib.Core.Bool.{Bool, true, false, cond}
use native.Mathlib.Nat.{two-pow-succ}
use native.Mathlib.Omega.{arith}
use lib.Dec.{leb, ltb}
use lib.Pow.{pow_pos}
use borrow.Author.Tests.{ltb-true, ltb-false, le-ltb, lt-ltb, leb-true, leb-false}
use Rattle.rules.specs.Search.{Bounds, narrowed, searched}

-- Low was not accepted, high was, and low is below high.
pub record Between (accepted : ℕ → Bool) (b : Bounds) : Type 0 where
  pub low_refused : accepted b.low ≡ false
  pub high_accepted : accepted b.high ≡ true
  pub low_below : b.low < b.high

-- What lies between the bounds.
abbrev pub width : Bounds → ℕ
width b = b.high - b.low

-- The second bounds lie within the first.
pub record Narrower (b c : Bounds) : Type 0 where
  pub low_rises : b.low ≤ c.low
  pub high_falls : c.high ≤ b.high

same_bounds : (b : Bounds) → Narrower b b
same_bounds b = record { low_rises = omega arith; high_falls = omega arith }

module _ (accepted : ℕ → Bool) where
  abbrev middle : Bounds → ℕ
  middle b = (b.low + b.high) / 2

  -- What holds of both ways of a step holds after it.
  step_cases : (P : Bounds → Type 0) (b : Bounds) → (accepted (middle b) ≡ true → P (record { low = b.low; high = middle b }))
      → (accepted (middle b) ≡ false → P (record { low = middle b; high = b.high })) → P (narrowed accepted b)
  unfolding narrowed
  step_cases P b up down = go (accepted (middle b)) refl
    where
      go : (t : Bool) → accepted (middle b) ≡ t → P (cond t (record { low = b.low; high = middle b }) (record { low = middle b; high = b.high }))
      go true e = up e
      go false e = down e

  -- With more than one between the bounds a step leaves at most half, rounded up.
  pub step_halves : (b : Bounds) (half : ℕ) → 1 < width b → width b ≤ half + half → width (narrowed accepted b) ≤ half
  step_halves b half more most = step_cases (λ c. width c ≤ half) b (λ _. omega arith) (λ _. omega arith)

  -- It moves one of them towards the other.
  step_narrows : (b : Bounds) → 1 < width b → Narrower b (narrowed accepted b)
  step_narrows b more =
      step_cases (Narrower b) b (λ _. record { low_rises = omega arith; high_falls = omega arith }) (λ _. record { low_rises = omega arith; high_falls = omega arith })

  -- It keeps low refused and high accepted.
  pub step_between : {b : Bounds} → 1 < width b → Between accepted b → Between accepted (narrowed accepted b)
  step_between {b} more s =
      step_cases (Between accepted) b
      (λ e. record { low_refused = s.low_refused; high_accepted = e; low_below = omega (arith, s.low_below) })
      (λ e. record { low_refused = e; high_accepted = s.high_accepted; low_below = omega (arith, s.low_below) })

  -- The search stops, or takes a step and goes on.
  pub search_stops : (fuel : ℕ) (b : Bounds) → width b ≤ 1 → searched accepted fuel b ≡ b
  unfolding searched
  search_stops zero b few = refl
  search_stops (suc fuel) b few = rw (le-ltb 1 (width b) few)

  pub search_steps : (fuel : ℕ) (b : Bounds) → 1 < width b → searched accepted (suc fuel) b ≡ searched accepted fuel (narrowed accepted b)
  unfolding searched
  search_steps fuel b more = rw (lt-ltb 1 (width b) more)

  -- What holds of the bounds where the search stops, and where it goes on after a step, holds of them.
  pub one_or_more : (P : Type 0) (b : Bounds) → (width b ≤ 1 → P) → (1 < width b → P) → P
  one_or_more P b few more = go (ltb 1 (width b)) refl
    where
      go : (t : Bool) → ltb 1 (width b) ≡ t → P
      go true e = more (ltb-true 1 (width b) e)
      go false e = few (ltb-false 1 (width b) e)

  -- Low stays refused and high accepted, however many steps are taken.
  pub search_between : (fuel : ℕ) {b : Bounds} → Between accepted b → Between accepted (searched accepted fuel b)
  unfolding searched
  search_between zero s = s
  search_between (suc fuel) {b} s =
      one_or_more (Between accepted (searched accepted (suc fuel) b)) b (λ few. rw (search_stops (suc fuel) b few) s)
      (λ more. rw (search_steps fuel b more) (search_between fuel (step_between more s)))

  -- With steps enough the search ends: at most one lies between the bounds.
  pub search_ends : (fuel : ℕ) (b : Bounds) → width b ≤ 2 ^ fuel → width (searched accepted fuel b) ≤ 1
  unfolding searched
  search_ends zero b most = most
  search_ends (suc fuel) b most =
      one_or_more (width (searched accepted (suc fuel) b) ≤ 1) b (λ few. rw (search_stops (suc fuel) b few) few)
      (λ more. rw (search_steps fuel b more) (search_ends fuel (narrowed accepted b) (step_halves b (2 ^ fuel) more (omega (arith, two-pow-succ fuel)))))

  -- Where at most one lies between them, more steps change nothing.
  pub search_still : (fuel more : ℕ) (b : Bounds) → fuel ≤ more → width (searched accepted fuel b) ≤ 1 → searched accepted more b ≡ searched accepted fuel b
  unfolding searched
  search_still zero more b h few = search_stops more b few
  search_still (suc fuel) zero b h few = absurd (omega arith)
  search_still (suc fuel) (suc more) b h few =
      one_or_more (searched accepted (suc more) b ≡ searched accepted (suc fuel) b) b
      (λ near. search_stops (suc more) b near ∙ sym (search_stops (suc fuel) b near))
      (λ wide. search_steps more b wide
      ∙ search_still fuel more (narrowed accepted b) (omega arith) (rw (search_steps fuel b wide) at few)
      ∙ sym (search_steps fuel b wide))

  -- So any two numbers of steps after which at most one does give the same bounds.
  pub search_once : (fuel other : ℕ) (b : Bounds) → width (searched accepted fuel b) ≤ 1 → width (searched accepted other b) ≤ 1 → searched accepted fuel b ≡ searched accepted other b
  search_once fuel other b near also = go (leb fuel other) refl
    where
      go : (t : Bool) → leb fuel other ≡ t → searched accepted fuel b ≡ searched accepted other b
      go true e = sym (search_still fuel other b (leb-true fuel other e) near)
      go false e = search_still other fuel b (let h = leb-false fuel other e in omega arith) also

  -- The search does not leave its bounds,
  pub search_within : (fuel : ℕ) (b : Bounds) → Narrower b (searched accepted fuel b)
  unfolding searched
  search_within zero b = same_bounds b
  search_within (suc fuel) b =
      one_or_more (Narrower b (searched accepted (suc fuel) b)) b (λ near. rw (search_stops (suc fuel) b near) (same_bounds b))
      (λ wide. let s = step_narrows b wide in
      let n = search_within fuel (narrowed accepted b) in
      rw (search_steps fuel b wide) (record { low_rises = omega (arith, s.low_rises, n.low_rises); high_falls = omega (arith, s.high_falls, n.high_falls) }))

  -- and more steps bring low and high no further apart.
  pub search_narrows : (fuel more : ℕ) (b : Bounds) → fuel ≤ more → Narrower (searched accepted fuel b) (searched accepted more b)
  unfolding searched
  search_narrows zero more b h = search_within more b
  search_narrows (suc fuel) zero b h = absurd (omega arith)
  search_narrows (suc fuel) (suc more) b h =
      one_or_more (Narrower (searched accepted (suc fuel) b) (searched accepted (suc more) b)) b
      (λ near. rw (search_stops (suc fuel) b near, search_stops (suc more) b near) (same_bounds b))
      (λ wide. rw (search_steps fuel b wide, search_steps more b wide) (search_narrows fuel more (narrowed accepted b) (omega arith)))

-- As many steps as the bounds are wide are enough.
pub steps_enough : (n : ℕ) → n ≤ 2 ^ n
steps_enough zero = omega arith
steps_enough (suc n) = omega (arith, two-pow-succ n, steps_enough n, pow_pos n)
