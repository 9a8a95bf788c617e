-- The best-limit question with a number of trials p (document 02, A.6): "It makes those of 01's search, in that order, and stops after p."
-- Assumes nothing.
use Rattle.std.specs.Prelude.{ℕ, zero, suc, ◌+◌, ◌-◌, ◌/◌, Bool, false, cond, List, [], ◌∷◌, length, ltb}
use Rattle.graph.specs.Graph.{Graph}
use Rattle.rules.specs.Walk.{total_weight}
use Rattle.rules.specs.Cover.{Crews}
use Rattle.rules.specs.Order.{ordered}
use Rattle.rules.specs.Reply.{Reply, no_cover}
use Rattle.rules.specs.RootedTrial.{Choices}
use Rattle.rules.specs.Search.{accepts, trial, no_cover_exists, Bounds, narrowed, searched}

-- The limits that the search tries between the bounds, in order: "while high - low > 1", and at most so many.
unfoldable pub middles : (ℕ → Bool) → ℕ → Bounds → List ℕ
middles accepted zero b = []
middles accepted (suc trials) b =
    let further = ((b.low + b.high) / 2) ∷ middles accepted trials (narrowed accepted b) in
    cond (ltb 1 (b.high - b.low)) further []

-- All limits tried: "0; if accepted, that is the answer. Otherwise .. the sum of all weights", and then the halving. The sum counts, though it
-- need not be run: it is accepted wherever a cover exists.
unfoldable pub tried : Graph → Crews → ℕ → List ℕ
tried g crews p =
    let sum = total_weight g (ordered g) in
    let others = sum ∷ middles (accepts g crews) (p - 2) (record { low = 0; high = sum }) in
    0 ∷ cond (accepts g crews 0) [] others

-- Where the search stands after them. "If limit 0 was accepted, high, low and the floor are 0."
unfoldable pub standing : Graph → Crews → ℕ → Bounds
standing g crews p =
    let sum = total_weight g (ordered g) in
    let halved = searched (accepts g crews) (p - 2) (record { low = 0; high = sum }) in
    cond (accepts g crews 0) (record { low = 0; high = 0 }) halved

-- What is known besides a reply: "the trials made, a floor, and spent".
pub record Known : Type 0 where
  pub trials : ℕ
  pub floor : ℕ
  pub spent : Bool

-- "Spent exactly when high - low is still above 1." The floor is 0 "if limit 0 was accepted"; "otherwise the floor is low + 1".
unfoldable pub known : Graph → Crews → ℕ → Known
known g crews p =
    let b = standing g crews p in
    record { trials = length (tried g crews p); floor = cond (accepts g crews 0) 0 (b.low + 1); spent = ltb 1 (b.high - b.low) }

-- What is told: a reply, and what is known besides it.
pub record Told : Type 0 where
  pub reply : Reply
  pub known : Known

-- A reply before any trial of the search.
unfoldable pub untried : Known
untried = record { trials = 0; floor = 0; spent = false }

abbrev pub before_trials : Reply → Told
before_trials reply = record { reply = reply; known = untried }

-- The question: "It returns high, its cover and heaviest weight", which is the trial at high. ""No cover" is still found before any trial."
unfoldable pub within : Graph → Crews → ℕ → Choices → Told
within g crews p c =
    let found : Told = record { reply = trial g crews (standing g crews p).high c; known = known g crews p } in
    cond (no_cover_exists g crews) (before_trials no_cover) found
