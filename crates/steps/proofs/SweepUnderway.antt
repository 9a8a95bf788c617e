-- The pass over the steps, under way: what is left at each vertex is below the threshold, so that no sum wraps, and the pass over the steps that are
-- left gives the answer.
-- Assumes nothing.
use Prim.Native.Nat.{ℕ, ◌+◌, ◌^◌, ◌≤◌, ◌<◌}
use mathlib.Core.Path.{◌≡◌, refl, sym, ap, ◌∙◌}
use mathlib.Core.Bool.{Bool, false}
use mathlib.Core.List.{List, []}
use native.Mathlib.Omega.{arith}
use lib.ListN.{length, drop, get_or, set, replicate, length-set, length-replicate}
use lib.Seq.{drop-length}
use Rattle.lists.proofs.AfterStore.{after_store}
use Rattle.lists.proofs.TakeDrop.{drop_more}
use Rattle.lists.proofs.Zeros.{zeros_at}
use Rattle.edges.specs.Around.{arc_weight}
use Rattle.steps.specs.Steps.{step_weight}
use Rattle.steps.specs.Touched.{Sweep, sweep_step, sweep, parts_touched}

-- What is left at each of 256 vertices is below H.
pub record Light (H : ℕ) (left : List ℕ) : Type 0 where
  pub size : length left ≡ 256
  pub each : (u : ℕ) → get_or left u 0 < H

pub light_first : {H : ℕ} → 0 < H → Light H (replicate 256 0)
light_first h = record { size = length-replicate {A = ℕ} 256 0; each = λ u. omega (arith, zeros_at 256 u) }

module _ {H : ℕ} {left : List ℕ} (l : Light H left) where
  pub light_stored : {v w : ℕ} → v < 256 → w < H → Light H (set left v w)
  light_stored {v} {w} inside h =
      record {
        size = length-set left v w ∙ l.size;
        each = λ u. after_store (λ _ x. x < H) left v w u (omega (arith, l.size)) h (λ _. l.each u);
      }

  pub left_small : H < 4294967296 → (u : ℕ) → get_or left u 0 < 4294967296
  left_small h u = omega (arith, l.each u)

-- A step's weight has no more than 32 bits.
pub weight_small : (step : ℕ) → step < 2 ^ 64 → step_weight step < 4294967296
unfolding arc_weight
weight_small step h = omega arith

-- From the state s before step i on, the pass gives the answer.
pub record Gives (H : ℕ) (test : ℕ → Bool) (steps : List ℕ) (i : ℕ) (s : Sweep) : Type 0 where
  pub within : i ≤ length steps
  pub answer : (sweep H test (drop i steps) s).parts ≡ parts_touched H test steps

pub gives_first : (H : ℕ) (test : ℕ → Bool) (steps : List ℕ)
    → Gives H test steps 0 (record { left = replicate 256 0; touched = replicate 256 false; parts = [] })
unfolding parts_touched
gives_first H test steps = record { within = omega arith; answer = refl }

module _ {H : ℕ} {test : ℕ → Bool} {steps : List ℕ} {i : ℕ} {s : Sweep} (g : Gives H test steps i s) where
  -- So it does from the state after the step.
  pub gives_more : i < length steps → {t : Sweep} → sweep_step H test (get_or steps i 0) s ≡ t → Gives H test steps (i + 1) t
  unfolding sweep
  gives_more more q =
      record {
        within = omega arith;
        answer =
            ap (λ (x : Sweep). (sweep H test (drop (i + 1) steps) x).parts) (sym q)
            ∙ ap (λ (xs : List ℕ). (sweep H test xs s).parts) (sym (drop_more 0 steps i more))
            ∙ g.answer;
      }

  -- When all steps are passed, the answer is there.
  pub gives_all : length steps ≤ i → s.parts ≡ parts_touched H test steps
  unfolding sweep
  gives_all h =
      let q : i ≡ length steps = omega (arith, g.within) in
      let nothing : drop i steps ≡ [] = ap (λ k. drop k steps) q ∙ drop-length steps in
      rw nothing at g.answer
