-- The trials that the search makes, stopped after p of them (document 02, A.6): which limits are tried, and how many. Fewer are the first of more.
-- Assumes nothing.
use Prim.Native.Nat.{ℕ, zero, suc, ◌+◌, ◌-◌, ◌/◌, ◌≤◌, ◌<◌}
use mathlib.Core.Path.{◌≡◌, refl, ap}
use mathlib.Core.Bool.{Bool, true, false}
use mathlib.Core.List.{List, [], ◌∷◌}
use native.Mathlib.Omega.{arith}
use lib.ListN.{length, take}
use borrow.Author.Tests.{le-ltb, lt-ltb}
use Rattle.graph.specs.Graph.{Graph}
use Rattle.rules.specs.Cover.{Crews}
use Rattle.rules.specs.Search.{accepts, Bounds, narrowed, searched}
use Rattle.rules.specs.FewTrials.{middles, tried}
use Rattle.planner_laws.proofs.SearchSteps.{width, one_or_more, search_stops, search_steps}
use Rattle.planner_laws.proofs.FirstBounds.{all_weights, first_bounds}

module _ (accepted : ℕ → Bool) where
  -- Where at most one limit lies between the bounds nothing is tried; else the middle, and then as after a step.
  pub middles_stop : (fuel : ℕ) (b : Bounds) → width b ≤ 1 → middles accepted fuel b ≡ []
  unfolding middles
  middles_stop zero b few = refl
  middles_stop (suc fuel) b few = rw (le-ltb 1 (width b) few)

  pub middles_step : (fuel : ℕ) (b : Bounds) → 1 < width b → middles accepted (suc fuel) b ≡ ((b.low + b.high) / 2) ∷ middles accepted fuel (narrowed accepted b)
  unfolding middles
  middles_step fuel b more = rw (lt-ltb 1 (width b) more)

  -- At most as many are tried as may be,
  pub middles_few : (fuel : ℕ) (b : Bounds) → length (middles accepted fuel b) ≤ fuel
  unfolding middles
  middles_few zero b = omega arith
  middles_few (suc fuel) b =
      one_or_more accepted (length (middles accepted (suc fuel) b) ≤ suc fuel) b
      (λ near. rw (middles_stop (suc fuel) b near) (omega arith))
      (λ wide. rw (middles_step fuel b wide) (let few = middles_few fuel (narrowed accepted b) in omega arith))

  -- and so many where more than one limit still lies between the bounds.
  pub middles_all : (fuel : ℕ) (b : Bounds) → 1 < width (searched accepted fuel b) → length (middles accepted fuel b) ≡ fuel
  unfolding middles searched
  middles_all zero b wide = refl
  middles_all (suc fuel) b wide =
      one_or_more accepted (length (middles accepted (suc fuel) b) ≡ suc fuel) b
      (λ near. absurd (let apart = rw (search_stops accepted (suc fuel) b near) at wide in omega arith))
      (λ more. rw (middles_step fuel b more) (ap suc (middles_all fuel (narrowed accepted b) (rw (search_steps accepted fuel b more) at wide))))

  -- Fewer trials are the first of more.
  pub middles_first : (fuel more : ℕ) (b : Bounds) → fuel ≤ more → middles accepted fuel b ≡ take fuel (middles accepted more b)
  unfolding middles
  middles_first zero more b h = refl
  middles_first (suc fuel) zero b h = absurd (omega arith)
  middles_first (suc fuel) (suc more) b h =
      one_or_more accepted (middles accepted (suc fuel) b ≡ take (suc fuel) (middles accepted (suc more) b)) b
      (λ near. rw (middles_stop (suc fuel) b near, middles_stop (suc more) b near) refl)
      (λ wide. rw (middles_step fuel b wide, middles_step more b wide) (ap (λ (l : List ℕ). ((b.low + b.high) / 2) ∷ l) (middles_first fuel more (narrowed accepted b) (omega arith))))

module _ (g : Graph) (crews : Crews) where
  -- One trial is made where limit 0 is accepted; else those of 0 and of the sum, and the others.
  pub tried_zero : (p : ℕ) → accepts g crews 0 ≡ true → tried g crews p ≡ 0 ∷ []
  unfolding tried
  tried_zero p t = rw t refl

  pub tried_more : (p : ℕ) → accepts g crews 0 ≡ false → tried g crews p ≡ 0 ∷ all_weights g ∷ middles (accepts g crews) (p - 2) (first_bounds g)
  unfolding tried
  tried_more p t = rw t refl

  -- What holds where it is accepted and where it is not holds.
  pub zero_or_not : (P : Type 0) → (accepts g crews 0 ≡ true → P) → (accepts g crews 0 ≡ false → P) → P
  zero_or_not P yes_zero not_zero = go (accepts g crews 0) refl
    where
      go : (t : Bool) → accepts g crews 0 ≡ t → P
      go true e = yes_zero e
      go false e = not_zero e

  -- At most p trials are made.
  pub trials_most : (p : ℕ) → 2 ≤ p → length (tried g crews p) ≤ p
  trials_most p h =
      zero_or_not (length (tried g crews p) ≤ p) (λ t. rw (tried_zero p t) (omega arith))
      (λ t. rw (tried_more p t) (let few = middles_few (accepts g crews) (p - 2) (first_bounds g) in omega arith))

  -- They are the first p of any more.
  pub tried_first : (p q : ℕ) → 2 ≤ p → p ≤ q → tried g crews p ≡ take p (tried g crews q)
  tried_first zero q h l = absurd (omega arith)
  tried_first (suc zero) q h l = absurd (omega arith)
  tried_first (suc (suc p)) q h l =
      zero_or_not (tried g crews (suc (suc p)) ≡ take (suc (suc p)) (tried g crews q))
      (λ t. rw (tried_zero (suc (suc p)) t, tried_zero q t) refl)
      (λ t. let z : suc (suc p) - 2 ≡ p = omega arith in
      rw (tried_more (suc (suc p)) t, tried_more q t, z)
      (ap (λ (l : List ℕ). 0 ∷ all_weights g ∷ l) (middles_first (accepts g crews) p (q - 2) (first_bounds g) (omega arith))))
