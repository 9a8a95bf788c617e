-- Acceptance, "no cover", and the best limit (document 01, "The best limit").
-- Assumes nothing.
use Rattle.std.specs.Prelude.{ℕ, zero, suc, ◌+◌, ◌-◌, ◌/◌, Bool, true, false, cond, not, ◌&&◌, length, leb, ltb}
use Rattle.std.proofs.Math.Option.{Option, some, none}
use Rattle.graph.specs.Graph.{Graph}
use Rattle.rules.specs.Walk.{total_weight}
use Rattle.rules.specs.Cover.{Crews, rooted, unrooted}
use Rattle.rules.specs.Order.{ordered}
use Rattle.rules.specs.Labels.{apart, together, merge_all}
use Rattle.rules.specs.Forest.{unjoined, lowest}
use Rattle.rules.specs.Reply.{Reply, no_cover}
use Rattle.rules.specs.RootedTrial.{Choices, unjoined_at, is_assignable, rooted_trial}
use Rattle.rules.specs.UnrootedTrial.{needed, unrooted_trial}

-- There is no such vertex.
unfoldable pub no_vertex : Option ℕ → Bool
no_vertex none = true
no_vertex (some v) = false

-- The limit is accepted. No free choice bears on it.
unfoldable pub accepts : Graph → Crews → ℕ → Bool
accepts g (rooted roots) limit = no_vertex (unjoined_at g roots limit) && is_assignable g roots limit
accepts g (unrooted k) limit = leb (needed g limit) k

-- The trial by either kind of crews.
unfoldable pub trial : Graph → Crews → ℕ → Choices → Reply
trial g (rooted roots) limit c = rooted_trial g roots limit c
trial g (unrooted k) limit c = unrooted_trial g k limit

-- "No cover of the kind exists at all (a stop joined to no yard by any line; more components than k)."
unfoldable pub no_cover_exists : Graph → Crews → Bool
no_cover_exists g (rooted roots) = not (no_vertex (unjoined g roots (merge_all g (together roots) (ordered g))))
no_cover_exists g (unrooted k) = ltb k (length (lowest g (merge_all g apart (ordered g))))

-- Where the search stands: low was not accepted, high was.
pub record Bounds : Type 0 where
  pub low : ℕ
  pub high : ℕ

-- "Try floor((low + high) / 2), which becomes high if accepted and low if not."
unfoldable pub narrowed : (ℕ → Bool) → Bounds → Bounds
narrowed accepted b =
    let middle = (b.low + b.high) / 2 in
    cond (accepted middle) (record { low = b.low; high = middle }) (record { low = middle; high = b.high })

-- "While high - low > 1", and for at most that many trials.
unfoldable pub searched : (ℕ → Bool) → ℕ → Bounds → Bounds
searched accepted zero b = b
searched accepted (suc trials) b =
    let further = searched accepted trials (narrowed accepted b) in
    cond (ltb 1 (b.high - b.low)) further b

-- The limit where the search ends: 0 where that is accepted, else between 0 and the sum of all weights.
-- As many trials as that sum are more than enough, since each narrows the bounds. The sum itself is not tried here: it is accepted wherever a
-- cover exists (`sum_accepted` in planner_laws/proofs/FirstBounds.antt).
unfoldable pub best_limit : Graph → Crews → ℕ
best_limit g crews =
    let sum = total_weight g (ordered g) in
    let found = (searched (accepts g crews) sum (record { low = 0; high = sum })).high in
    cond (accepts g crews 0) 0 found

-- The best-limit question: the trial at that limit.
unfoldable pub best : Graph → Crews → Choices → Reply
best g crews c =
    let answer = trial g crews (best_limit g crews) c in
    cond (no_cover_exists g crews) no_cover answer
