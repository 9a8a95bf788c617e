-- `asking::ask::answer_within` meets its contract: no cover, or the trial at the limit that was found. Assumes nothing.
use mathlib.Core.Path.{sym, ap, ◌∙◌}
use native.Mathlib.Omega.{arith}
use Rattle.rules.specs.Cover.{Crews}
use Rattle.planner_laws.proofs.FewTrials.{high_bounded}
use Rattle.prepare.specs.Crews.{the_crews}
use Rattle.search.specs.declared.limit.Found.{Found}
use Rattle.answers.proofs.AllReady.{forest_ready, crews_ready, order_ready}
use Rattle.asking.proofs.CrewsKnown.{walkable, choices_for}
use Rattle.asking.proofs.Answering.{none_answered, found_answered}
use Rattle.asking.proofs.ask.answer_within.Goals as goal

pub no_cover-requires : goal.no_cover-requires
no_cover-requires c = forest_ready c.args.prepared.crews (crews_ready c.requires.answer)

pub returns-then-no_cover : goal.returns-then-no_cover
returns-then-no_cover c = none_answered c.args.trials (sym c.no_cover.ensures ∙ c.if-no_cover.true) _ (choices_for c.args.prepared.crews (crews_ready c.requires.answer) _)

pub find_limit-found-requires : goal.find_limit-found-requires
find_limit-found-requires c =
    record {
      prepared = record { ready = crews_ready c.requires.answer; some_cover = sym c.no_cover.ensures ∙ c.if-no_cover.false };
      in_order = order_ready c.requires.answer;
      walkable = walkable c.requires.answer;
      some_trials = c.requires.some_trials;
    }

pub answer_at-reply-requires : goal.answer_at-reply-requires
answer_at-reply-requires c =
    let crews : Crews = the_crews c.args.prepared.crews in
    record {
      answer = c.requires.answer;
      limit_most = omega (arith, ap (λ (f : Found). f.high) c.find_limit-found.ensures, high_bounded (crews_ready c.requires.answer).valid crews c.args.trials);
    }

pub returns : goal.returns
returns c = found_answered c.args.trials c.find_limit-found.result (sym c.no_cover.ensures ∙ c.if-no_cover.false) c.find_limit-found.ensures c.answer_at-reply.ensures
