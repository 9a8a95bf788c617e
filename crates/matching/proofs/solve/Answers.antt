-- `solve` meets its contract. The loop's invariant: the parts before i have roots, all apart and allowed.
-- Assumes nothing.
use mathlib.Core.Path.{◌≡◌, ◌∙◌, refl}
use native.Mathlib.Omega.{arith}
use lib.ListN.{length, get_or-replicate}
use Rattle.lists.proofs.Put.{only_first_length}
use Rattle.lists.proofs.OnlyFirst.{only_first_none, only_first_on}
use Rattle.matching.specs.Input.{allowed_at}
use Rattle.matching.specs.State.{none}
use Rattle.matching.proofs.Accepted.{Accepted, accepted}
use Rattle.matching.proofs.Outcome.{mirror_assignment}
use Rattle.matching.proofs.Promised.{differ}
use Rattle.matching.proofs.solve.Goals as goal

pub loop-i-init : goal.loop-i-init
loop-i-init c =
    record {
      mirror =
          record {
            all = refl;
            is_root = λ k h. absurd (omega arith);
            owned = λ k h. absurd (omega arith);
            owner_of = λ r h some. absurd (some (get_or-replicate 32 r none 0 h));
          };
      may = λ k h. absurd (omega arith);
      rest = only_first_none _ _;
      size = refl;
    }

pub place-requires : goal.place-requires
place-requires c =
    let input : Accepted c.args.p c.args.y c.args.allowed.now (length c.args.out.now) = accepted _ _ _ _ c.requires in
    record {
      part = c.loop-i-test.true;
      parts = input.parts;
      few = input.few;
      enough = input.size;
      fits = omega (arith, input, c.loop-i.invariant);
      mirror = c.loop-i.invariant.mirror;
      may = c.loop-i.invariant.may;
    }

pub returns-then-not-place : goal.returns-then-not-place
returns-then-not-place c =
    record {
      answered = λ e. differ cc;
      assigned = λ e. absurd (differ cc);
      set = λ _. c.place.ensures.set c.if-not-place.true;
      rest = only_first_on c.loop-i.invariant.rest c.place.ensures.rest;
    }

pub loop-i-preserved : goal.loop-i-preserved
loop-i-preserved c =
    record {
      mirror = c.place.ensures.mirror c.if-not-place.false;
      may = c.place.ensures.may c.if-not-place.false;
      rest = only_first_on c.loop-i.invariant.rest c.place.ensures.rest;
      size = only_first_length c.place.ensures.rest ∙ c.loop-i.invariant.size;
    }

pub returns : goal.returns
returns c =
    let input : Accepted c.args.p c.args.y c.args.allowed.now (length c.args.out.now) = accepted _ _ _ _ c.requires in
    let all : c.loop-i.i ≡ c.args.p = omega arith in
    record {
      answered = λ e. differ cc;
      assigned =
          λ _.
          mirror_assignment (allowed_at c.args.allowed.now c.args.y) (rw all at c.loop-i.invariant.mirror) (rw all at c.loop-i.invariant.may)
          (omega (arith, input, c.loop-i.invariant));
      set = λ e. absurd (differ cc);
      rest = c.loop-i.invariant.rest;
    }
