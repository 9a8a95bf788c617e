-- What the loop of the search keeps: it ends where the search that it began would end, after as many trials; and what is known then.
-- Assumes nothing.
use Prim.Native.Nat.{ℕ, suc, ◌+◌, ◌-◌, ◌/◌, ◌≤◌, ◌<◌}
use mathlib.Core.Path.{◌≡◌, refl, sym, ap, ◌∙◌}
use mathlib.Core.Bool.{true, false}
use mathlib.Core.List.{[]}
use mathlib.Core.Logic.{◌⊎◌, inl, inr}
use native.Mathlib.Omega.{arith}
use lib.ListN.{length}
use lib.Dec.{ltb}
use Rattle.graph.specs.Graph.{Graph}
use Rattle.rules.specs.Cover.{Crews}
use Rattle.rules.specs.Search.{accepts, narrowed, searched}
use Rattle.rules.specs.FewTrials.{middles}
use Rattle.planner_laws.proofs.SearchSteps.{search_stops, search_steps}
use Rattle.planner_laws.proofs.FirstBounds.{all_weights}
use Rattle.planner_laws.proofs.TrialsMade.{middles_stop, middles_step}
use Rattle.planner_laws.proofs.FewTrials.{standing_zero, standing_more, known_zero, known_more}
use Rattle.search.specs.declared.limit.Standing.{Standing}
use Rattle.search.specs.Searching.{between, stands, SearchEnded, found_after}

-- Low and high, and how many trials are left: the search from here ends where the whole search does, and the trials made and to come are its trials.
pub record SearchUnderway (g : Graph) (crews : Crews) (sum budget low high left : ℕ) : Type 0 where
  pub in_order : low ≤ high
  pub most : high ≤ sum
  pub left_most : left ≤ budget
  pub same : searched (accepts g crews) left (between low high) ≡ searched (accepts g crews) budget (between 0 sum)
  pub made : budget - left + length (middles (accepts g crews) left (between low high)) ≡ length (middles (accepts g crews) budget (between 0 sum))

pub search_begins : (g : Graph) (crews : Crews) (sum budget : ℕ) → SearchUnderway g crews sum budget 0 sum budget
search_begins g crews sum budget = record { in_order = omega arith; most = omega arith; left_most = omega arith; same = refl; made = omega arith }

module _ {g : Graph} {crews : Crews} {sum budget low high left : ℕ} (u : SearchUnderway g crews sum budget low high left) where
  abbrev middle : ℕ
  middle = (low + high) / 2

  -- One trial more.
  module _ (some : 0 < left) (more : 1 < high - low) where
    one : left ≡ suc (left - 1)
    one = omega arith

    stepped : searched (accepts g crews) (left - 1) (narrowed (accepts g crews) (between low high)) ≡ searched (accepts g crews) budget (between 0 sum)
    stepped =
        sym (search_steps (accepts g crews) (left - 1) (between low high) more)
        ∙ ap (λ n. searched (accepts g crews) n (between low high)) (sym one)
        ∙ u.same

    counted : budget - (left - 1) + length (middles (accepts g crews) (left - 1) (narrowed (accepts g crews) (between low high)))
        ≡ length (middles (accepts g crews) budget (between 0 sum))
    counted =
        let step = ap length (middles_step (accepts g crews) (left - 1) (between low high) more) in
        let now = ap (λ n. length (middles (accepts g crews) n (between low high))) one in
        omega (arith, u.made, u.left_most, some, step, now)

    -- The middle is accepted, and becomes high;
    pub high_moves : accepts g crews middle ≡ true → SearchUnderway g crews sum budget low middle (left - 1)
    unfolding narrowed
    high_moves t =
        record { in_order = omega arith; most = omega (arith, u.most); left_most = omega (arith, u.left_most); same = rw t at stepped; made = rw t at counted }

    -- or it is not, and becomes low.
    pub low_moves : accepts g crews middle ≡ false → SearchUnderway g crews sum budget middle high (left - 1)
    unfolding narrowed
    low_moves t =
        record { in_order = omega arith; most = u.most; left_most = omega (arith, u.left_most); same = rw t at stepped; made = rw t at counted }

  -- The search ends where nothing is left to try.
  ended : searched (accepts g crews) left (between low high) ≡ between low high → middles (accepts g crews) left (between low high) ≡ []
      → SearchEnded g crews sum budget (stands (between low high) (budget - left))
  ended still none =
      let turns : budget - left ≡ length (middles (accepts g crews) budget (between 0 sum)) = omega (arith, u.made, ap length none) in
      record {
        is = ap (λ b. stands b (budget - left)) (sym still ∙ u.same) ∙ ap (stands (searched (accepts g crews) budget (between 0 sum))) turns;
        in_order = u.in_order;
        most = u.most;
        turns_most = omega arith;
      }

  -- That is where low and high are neighbours, or no trial is left.
  pub ends : {Near Spent : Type 0} → (Near → high - low ≤ 1) → (Spent → left ≡ 0) → Near ⊎ Spent → SearchEnded g crews sum budget (stands (between low high) (budget - left))
  unfolding searched middles
  ends near spent (inl n) = ended (search_stops (accepts g crews) left (between low high) (near n)) (middles_stop (accepts g crews) left (between low high) (near n))
  ends near spent (inr s) = let none = spent s in ended (rw none refl) (rw none refl)

module _ (g : Graph) (crews : Crews) (p : ℕ) where
  -- What is found where limit 0 is accepted,
  pub found_zero : accepts g crews 0 ≡ true → record { high = 0; known = record { trials = 1; floor = 0; spent = false } } ≡ found_after g crews p
  found_zero t = rw (standing_zero g crews p t, known_zero g crews p t) refl

  -- and otherwise, where the search ends that begins with the sum of all weights.
  pub found_more : accepts g crews 0 ≡ false → {sum : ℕ} → sum ≡ all_weights g → {end : Standing} → SearchEnded g crews sum (p - 2) end
      → record { high = end.high; known = record { trials = end.turns + 2; floor = end.low + 1; spent = ltb 1 (end.high - end.low) } } ≡ found_after g crews p
  found_more t {sum} q {end} ends =
      let is = ends.is in
      let two : length (middles (accepts g crews) (p - 2) (between 0 (all_weights g))) + 2 ≡ suc (suc (length (middles (accepts g crews) (p - 2) (between 0 (all_weights g))))) = omega arith in
      rw (is, q, two, standing_more g crews p t, known_more g crews p t) refl
