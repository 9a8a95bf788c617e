-- `place` meets its contract: what the search finds is what the exchange, or the marking, asks.
-- Assumes nothing.
use Prim.Native.Nat.{◌+◌, ◌≤◌}
use mathlib.Core.Path.{refl}
use mathlib.Core.Bool.{true≢false, false≢true}
use native.Mathlib.Omega.{arith}
use native.Mathlib.Nat.{mul-le-mul_right}
use lib.ListN.{get_or-replicate}
use Rattle.lists.proofs.Put.{only_first_length}
use Rattle.lists.proofs.OnlyFirst.{only_first_of_more}
use Rattle.matching.specs.Input.{allowed_at}
use Rattle.matching.specs.State.{none}
use Rattle.matching.proofs.Outcome.{exchanged_may, closed_part, closed_deficient}
use Rattle.matching.proofs.place.Goals as goal

pub find-requires : goal.find-requires
find-requires c =
    let next : c.args.i + 1 ≤ c.args.p = omega arith in
    record {
      places = (refl, refl);
      roots = refl;
      few = c.requires.few;
      enough = omega (arith, c.requires.enough, mul-le-mul_right c.args.y next);
      owner_below = λ r h some. (c.requires.mirror.owner_of r h some).0;
      fresh = λ r h. get_or-replicate 32 r none 0 h;
    }

pub exchange-requires : goal.exchange-requires
exchange-requires c =
    let reached = c.in-Ok.ensures.finding in
    record {
      is_root = reached.is_root;
      free = reached.free;
      near = reached.near;
      places = reached.places;
      mirror = c.requires.mirror;
      few = omega (arith, c.requires);
      fits = omega (arith, c.requires);
    }

pub mark-requires : goal.mark-requires
mark-requires c =
    let closed = c.in-Err.ensures.finding in
    record { fits = c.requires.fits; few = closed.few; below = closed_part closed c.requires.part }

pub returns-in-Ok : goal.returns-in-Ok
returns-in-Ok c =
    record {
      mirror = λ _. c.exchange.ensures.mirror;
      owner_kept = λ e. absurd (true≢false e);
      may = λ _. exchanged_may c.args.y (allowed_at c.args.allowed.now c.args.y) c.exchange.ensures c.in-Ok.ensures.finding.edges c.requires.may;
      set = λ e. absurd (true≢false e);
      rest = only_first_of_more c.exchange.ensures.rest c.args.p (omega (arith, c.requires));
    }

pub returns-in-Err : goal.returns-in-Err
returns-in-Err c =
    record {
      mirror = λ e. absurd (false≢true e);
      owner_kept = λ _. refl;
      may = λ e. absurd (false≢true e);
      set =
          λ _.
          closed_deficient c.in-Err.ensures.finding c.requires.mirror c.mark.ensures c.requires.few c.requires.part c.requires.parts
          (omega (arith, c.requires.fits, only_first_length c.mark.ensures.rest));
      rest = c.mark.ensures.rest;
    }
