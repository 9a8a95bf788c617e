-- The search stopped after p trials (document 02, A.6): with more of them the floor never falls and high never rises; nobody's cover is below the floor;
-- high is accepted; and where the trials are not spent high is the best limit, as it is after 33.
-- Assumes nothing.
use Prim.Native.Nat.{ℕ, suc, ◌+◌, ◌-◌, ◌*◌, ◌^◌, ◌≤◌}
use mathlib.Core.Path.{◌≡◌, refl, sym, ap, ◌∙◌}
use mathlib.Core.Bool.{Bool, true, false, cond, true≢false, false≢true}
use mathlib.Core.List.{List}
use mathlib.Core.Logic.{◌↔◌}
use native.Mathlib.Omega.{arith}
use lib.ListN.{length}
use lib.Dec.{ltb}
use borrow.Author.Tests.{ltb-true, ltb-false, le-ltb}
use Rattle.graph.specs.Graph.{Graph}
use Rattle.graph.specs.Valid.{Valid}
use Rattle.rules.specs.Cover.{Tree, heaviest, Crews, IsCover}
use Rattle.rules.specs.RootedTrial.{Choices}
use Rattle.rules.specs.Search.{accepts, Bounds, searched, no_cover_exists, best_limit, best, trial}
use Rattle.rules.specs.Reply.{no_cover}
use Rattle.rules.specs.FewTrials.{middles, standing, known, before_trials, within}
use Rattle.rules.specs.Questions.{most_limit, most_trials}
use Rattle.rules.specs.Fit.{GoodFor}
use Rattle.planner_laws.proofs.SearchSteps.{width, Between, search_between, search_within, search_narrows, search_ends, search_once, steps_enough}
use Rattle.planner_laws.proofs.TrialBounds.{trial_trees, CoverWithin, TrialBounds}
use Rattle.planner_laws.proofs.FirstBounds.{all_weights, first_bounds, sum_bounded, sum_accepted}
use Rattle.planner_laws.proofs.TrialsMade.{middles_all, tried_zero, tried_more, zero_or_not}

module _ (g : Graph) (crews : Crews) where
  -- Where the search stands after p trials, if limit 0 is not accepted.
  abbrev pub after : ℕ → Bounds
  after p = searched (accepts g crews) (p - 2) (first_bounds g)

  -- Limit 0 is accepted, and is all that is tried; or the search goes on.
  pub standing_zero : (p : ℕ) → accepts g crews 0 ≡ true → standing g crews p ≡ record { low = 0; high = 0 }
  unfolding standing
  standing_zero p t = rw t refl

  pub standing_more : (p : ℕ) → accepts g crews 0 ≡ false → standing g crews p ≡ after p
  unfolding standing
  standing_more p t = rw t refl

  pub known_zero : (p : ℕ) → accepts g crews 0 ≡ true → known g crews p ≡ record { trials = 1; floor = 0; spent = false }
  unfolding known
  known_zero p t = rw (tried_zero g crews p t, standing_zero p t, t) refl

  pub known_more : (p : ℕ) → accepts g crews 0 ≡ false
      → known g crews p ≡ record { trials = suc (suc (length (middles (accepts g crews) (p - 2) (first_bounds g)))); floor = (after p).low + 1; spent = ltb 1 (width (after p)) }
  unfolding known
  known_more p t = rw (tried_more g crews p t, standing_more p t, t) refl

  -- Where the trials are spent all p were made.
  pub spent_all : (p : ℕ) → 2 ≤ p → (known g crews p).spent ≡ true → (known g crews p).trials ≡ p
  spent_all p h =
      zero_or_not g crews ((known g crews p).spent ≡ true → (known g crews p).trials ≡ p) (λ t. rw (known_zero p t) (λ s. absurd (false≢true s)))
      (λ t. rw (known_more p t) (λ s. omega (arith, middles_all (accepts g crews) (p - 2) (first_bounds g) (ltb-true 1 (width (after p)) s))))

  -- "With more trials the floor never falls and high never rises."
  pub floor_never_falls : (p q : ℕ) → p ≤ q → (known g crews p).floor ≤ (known g crews q).floor
  floor_never_falls p q h =
      zero_or_not g crews ((known g crews p).floor ≤ (known g crews q).floor) (λ t. rw (known_zero p t, known_zero q t) (omega arith))
      (λ t. rw (known_more p t, known_more q t) (omega (arith, (search_narrows (accepts g crews) (p - 2) (q - 2) (first_bounds g) (omega arith)).low_rises)))

  pub high_never_rises : (p q : ℕ) → p ≤ q → (standing g crews q).high ≤ (standing g crews p).high
  high_never_rises p q h =
      zero_or_not g crews ((standing g crews q).high ≤ (standing g crews p).high) (λ t. rw (standing_zero p t, standing_zero q t) (omega arith))
      (λ t. rw (standing_more p t, standing_more q t) (search_narrows (accepts g crews) (p - 2) (q - 2) (first_bounds g) (omega arith)).high_falls)

  -- High is at most the sum of all weights, where it begins.
  high_most : (p : ℕ) → (standing g crews p).high ≤ all_weights g
  high_most p =
      zero_or_not g crews ((standing g crews p).high ≤ all_weights g) (λ t. rw (standing_zero p t) (omega arith))
      (λ t. rw (standing_more p t) (search_within (accepts g crews) (p - 2) (first_bounds g)).high_falls)

  -- With trials enough nothing is spent.
  enough_unspent : (p : ℕ) → all_weights g ≤ 2 ^ (p - 2) → (known g crews p).spent ≡ false
  enough_unspent p enough =
      zero_or_not g crews ((known g crews p).spent ≡ false) (λ t. rw (known_zero p t) refl)
      (λ t. rw (known_more p t) (le-ltb 1 (width (after p)) (search_ends (accepts g crews) (p - 2) (first_bounds g) (omega arith))))

  -- Where the trials are not spent high is the best limit: document 01's search, which stops for no number of trials, ends there too.
  pub unspent_best : (p : ℕ) → (known g crews p).spent ≡ false → (standing g crews p).high ≡ best_limit g crews
  unfolding best_limit
  unspent_best p =
      zero_or_not g crews ((known g crews p).spent ≡ false → (standing g crews p).high ≡ best_limit g crews) (λ t. rw (standing_zero p t, t) (λ s. refl))
      (λ t. rw (known_more p t, standing_more p t, t)
      (λ s. ap (λ (b : Bounds). b.high) (search_once (accepts g crews) (p - 2) (all_weights g) (first_bounds g) (ltb-false 1 (width (after p)) s)
      (search_ends (accepts g crews) (all_weights g) (first_bounds g) (omega (arith, steps_enough (all_weights g)))))))

  -- So such a reply is the best limit's own.
  pub unspent_same : (p : ℕ) (c : Choices) → (within g crews p c).known.spent ≡ false → (within g crews p c).reply ≡ best g crews c
  unfolding within best
  unspent_same p c = go (no_cover_exists g crews)
    where
      go : (t : Bool) → (cond t (before_trials no_cover) (record { reply = trial g crews (standing g crews p).high c; known = known g crews p })).known.spent ≡ false
          → (cond t (before_trials no_cover) (record { reply = trial g crews (standing g crews p).high c; known = known g crews p })).reply ≡ cond t no_cover (trial g crews (best_limit g crews) c)
      go true s = refl
      go false s = ap (λ limit. trial g crews limit c) (unspent_best p s)

-- In a valid graph high is within document 01's range, and 33 trials are never spent: the sum of all weights is below 2 to the 31st.
module _ {g : Graph} (valid : Valid g) (crews : Crews) where
  pub high_bounded : (p : ℕ) → (standing g crews p).high ≤ most_limit
  high_bounded p = omega (arith, high_most g crews p, sum_bounded valid)

  pub valid_unspent : (known g crews most_trials).spent ≡ false
  valid_unspent = enough_unspent g crews most_trials (omega (arith, sum_bounded valid))

module _ {g : Graph} {crews : Crews} (bounds : TrialBounds g crews) {some_trees : List Tree} (some_cover : IsCover g crews some_trees) (p : ℕ) where
  -- Where 0 is not accepted: low is not, high is, and low is below high.
  stands_between : accepts g crews 0 ≡ false → Between (accepts g crews) (after g crews p)
  stands_between t =
      let apart : 0 ≡ all_weights g → ⊥ = λ q. true≢false (sym (sum_accepted bounds some_cover) ∙ ap (accepts g crews) (sym q) ∙ t) in
      search_between (accepts g crews) (p - 2) (record { low_refused = t; high_accepted = sum_accepted bounds some_cover; low_below = omega arith })

  -- "Nobody's cover has a heaviest tree below the floor."
  pub floor_least : (others : List Tree) → IsCover g crews others → (known g crews p).floor ≤ heaviest g others
  floor_least others cover =
      zero_or_not g crews ((known g crews p).floor ≤ heaviest g others) (λ t. rw (known_zero g crews p t) (omega arith))
      (λ t. rw (known_more g crews p t) (omega (arith, bounds.refused_below (after g crews p).low (stands_between t).low_refused others cover)))

  -- High is accepted.
  pub high_accepted : accepts g crews (standing g crews p).high ≡ true
  high_accepted =
      zero_or_not g crews (accepts g crews (standing g crews p).high ≡ true) (λ t. rw (standing_zero g crews p t) t)
      (λ t. rw (standing_more g crews p t) (stands_between t).high_accepted)

  -- The floor is at most high, and is high exactly where the trials are not spent.
  pub floor_below : (known g crews p).floor ≤ (standing g crews p).high
  floor_below =
      zero_or_not g crews ((known g crews p).floor ≤ (standing g crews p).high) (λ t. rw (known_zero g crews p t, standing_zero g crews p t) (omega arith))
      (λ t. rw (known_more g crews p t, standing_more g crews p t) (omega (arith, (stands_between t).low_below)))

  pub unspent_floor : ((known g crews p).spent ≡ false) ↔ ((known g crews p).floor ≡ (standing g crews p).high)
  unspent_floor =
      zero_or_not g crews (((known g crews p).spent ≡ false) ↔ ((known g crews p).floor ≡ (standing g crews p).high))
      (λ t. rw (known_zero g crews p t, standing_zero g crews p t) (λ s. refl, λ q. refl))
      (λ t. rw (known_more g crews p t, standing_more g crews p t) (
        λ s. omega (arith, ltb-false 1 (width (after g crews p)) s, (stands_between t).low_below),
        λ q. le-ltb 1 (width (after g crews p)) (omega arith),
      ))

  -- With good choices the trial's trees at high are a cover, of heaviest at most 4 high - 2 (and 0 where high is 0),
  module _ (c : Choices) (good : GoodFor g crews (standing g crews p).high c) where
    pub high_cover : CoverWithin g crews (standing g crews p).high (trial_trees g crews (standing g crews p).high c)
    high_cover = bounds.accepted_covers (standing g crews p).high c high_accepted good

    -- and where the trials are not spent at most 4h - 2, where h is any cover's heaviest (and 0 where h is 0).
    module _ (s : (known g crews p).spent ≡ false) (others : List Tree) (cover : IsCover g crews others) where
      pub unspent_least : (standing g crews p).high ≤ heaviest g others
      unspent_least = omega (arith, floor_least others cover, unspent_floor.0 s)

      pub unspent_factor : heaviest g (trial_trees g crews (standing g crews p).high c) ≤ 4 * heaviest g others - 2
      unspent_factor = omega (arith, high_cover.light, unspent_least)
