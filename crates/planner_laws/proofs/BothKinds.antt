-- For either kind of crews that fit a valid graph: a refused limit is below every cover's heaviest, and at an accepted limit B the trial's
-- trees are a cover of heaviest at most 4B - 2.
-- Assumes nothing.
use Rattle.graph.specs.Graph.{Graph}
use Rattle.graph.specs.Valid.{Valid}
use Rattle.rules.specs.Cover.{Crews, rooted, unrooted}
use Rattle.rules.specs.Fit.{CrewsFit}
use Rattle.split_laws.proofs.Whole.{valid_ends}
use Rattle.planner_laws.proofs.RootedStop.{stop_too_low}
use Rattle.planner_laws.proofs.RootedParts.{parts_too_low}
use Rattle.planner_laws.proofs.RootedAssigned.{AcceptedAt}
use Rattle.planner_laws.proofs.RootedCover.{accepted_covers, accepted_heaviest}
use Rattle.planner_laws.proofs.UnrootedTooLow.{needs_too_low}
use Rattle.planner_laws.proofs.UnrootedCover.{accepted_covers_unrooted}
use Rattle.planner_laws.proofs.TrialBounds.{TrialBounds, rooted_bounds, unrooted_bounds}

pub trial_bounds : {g : Graph} → Valid g → (crews : Crews) → CrewsFit g crews → TrialBounds g crews
trial_bounds {g} valid (rooted roots) (some, inside) =
    rooted_bounds
    (record {
      stop_too_low = λ limit v. stop_too_low g roots limit;
      parts_too_low = λ limit marks. parts_too_low g roots limit marks valid;
      accepted_covers =
          λ limit c joined assigned good.
          let at : AcceptedAt g roots limit c =
          record { valid = valid; some_root = some; roots_inside = inside; all_joined_lem = joined; assignable = assigned; good = good } in
          record { cover = accepted_covers at; light = accepted_heaviest at };
    })
trial_bounds {g} valid (unrooted k) some =
    unrooted_bounds
    (record {
      needs_too_low = λ limit. needs_too_low (valid_ends valid) k limit;
      accepted_covers = λ limit few. let (cover, light) = accepted_covers_unrooted valid k limit few in record { cover = cover; light = light };
    })
