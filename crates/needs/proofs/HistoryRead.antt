-- What the components need, merge by merge: the sum so far is that of the merges passed.
-- Assumes nothing.
use Prim.Native.Nat.{ℕ, ◌+◌, ◌-◌, ◌*◌, ◌/◌, ◌≤◌, ◌<◌}
use mathlib.Core.Path.{◌≡◌, refl, sym, ap, ◌∙◌}
use mathlib.Core.Bool.{Bool, true, false, cond}
use mathlib.Core.List.{List}
use native.Mathlib.Nat.{mul_comm, div-zero, div-le_self, div-div-eq-div-mul}
use native.Mathlib.Omega.{arith}
use lib.ListN.{get_or}
use lib.Dec.{ltb}
use borrow.Author.Tests.{lt-ltb, le-ltb}
use Rattle.lists.specs.Count.{from, below}
use Rattle.lists.specs.Lists.{sum_of}
use Rattle.lists.proofs.Below.{of_below}
use Rattle.lists.proofs.Bounds.{sum_most}
use Rattle.lists.proofs.Runs.{length_below}
use Rattle.needs.specs.History.{value_at, needed_by, ReadAsked}
use Rattle.needs.proofs.SumsBelow.{sum_below_more}

-- What one merge's tree needs: nothing where it is taken up, nothing at the limit 0, and otherwise one for each 2 B, where halving may come last.
module _ (weight until light limit : ℕ) where
  pub more_gone : until ≤ light → 0 ≡ cond (ltb light until) (weight / (2 * limit)) 0
  more_gone h = rw (le-ltb light until h)

  pub more_at_zero : limit ≡ 0 → 0 ≡ cond (ltb light until) (weight / (2 * limit)) 0
  more_at_zero q = go (ltb light until)
    where
      nothing : weight / (2 * limit) ≡ 0
      nothing = rw q (div-zero weight)

      go : (b : Bool) → 0 ≡ cond b (weight / (2 * limit)) 0
      go true = sym nothing
      go false = refl

  pub more_there : light < until → weight / limit / 2 ≡ cond (ltb light until) (weight / (2 * limit)) 0
  more_there h = rw (lt-ltb light until h) (div-div-eq-div-mul weight limit 2 ∙ ap (λ k. weight / k) (mul_comm limit 2))

  more_most : cond (ltb light until) (weight / (2 * limit)) 0 ≤ weight
  more_most = go (ltb light until)
    where
      go : (b : Bool) → cond b (weight / (2 * limit)) 0 ≤ weight
      go true = div-le_self weight (2 * limit)
      go false = omega arith

-- The value that is summed.
abbrev pub value : List ℕ → List ℕ → ℕ → ℕ → ℕ → ℕ
value total until light limit = value_at (λ w. w / (2 * limit)) (λ i. get_or total i 0) (λ i. get_or until i 0) light

-- The merges before i were summed, beside the number of components.
pub record Reading (n : ℕ) (total until : List ℕ) (light limit i sum : ℕ) : Type 0 where
  pub so_far : sum ≡ n - light + sum_of (value total until light limit) (below i)
  pub passed : i ≤ light + 1

module _ {n light : ℕ} {total until : List ℕ} (asked : ReadAsked n total until light) (limit : ℕ) where
  pub reading_none : Reading n total until light limit 0 (n - light)
  unfolding below from sum_of
  reading_none = record { so_far = omega arith; passed = omega arith }

  value_most : (i : ℕ) → i ≤ light → value total until light limit i ≤ 256000000
  value_most i h = omega (arith, more_most (get_or total i 0) (get_or until i 0) light limit, asked.small i h)

  module _ {i sum : ℕ} (r : Reading n total until light limit i sum) where
    module _ (h : i ≤ light) where
      pub reading_fits : sum + value total until light limit i ≤ 256 + 257 * 256000000
      reading_fits =
          omega (
            arith,
            r.so_far,
            value_most i h,
            sum_most (value total until light limit) 256000000 (below i) (λ k m. let l = of_below i m in value_most k (omega arith)),
            length_below i,
            asked.vertices_most,
            asked.light_few,
          )

      pub reading_more : Reading n total until light limit (i + 1) (sum + value total until light limit i)
      reading_more = record { so_far = omega (arith, r.so_far, sum_below_more i (value total until light limit)); passed = omega arith }

    pub reading_all : light < i → sum ≡ needed_by n total until light limit
    reading_all h =
        let all : i ≡ light + 1 = omega (arith, r.passed) in
        r.so_far ∙ ap (λ k. n - light + sum_of (value total until light limit) (below k)) all
