-- The questions test by test, in the order of document 01: what each test makes of what is refused; and what the replies mean.
-- Assumes nothing.
use Prim.Native.Nat.{ℕ, ◌≤◌, ◌<◌}
use mathlib.Core.Path.{◌≡◌, refl, sym, ◌∙◌, subst}
use mathlib.Core.Bool.{true, ◌||◌, true≢false}
use mathlib.Core.List.Memᴰ
use mathlib.Core.List.{List, [], ◌∷◌, ◌++◌}
use mathlib.Core.Option.{some, none, some-ne-none}
use lib.ListN.{length}
use lib.Dec.{leb, ltb}
use borrow.Author.Tests.{leb-true, leb-false, lt-ltb, le-ltb, ltb-false}
use native.Mathlib.Omega.{arith}
use Rattle.lists.proofs.Every.{first_false}
use Rattle.graph.specs.Fault.{Fault, fault_if, first_fault, refused_or}
use Rattle.graph.proofs.Faults.{quiet_if, quiet_each}
use Rattle.rules.specs.Reply as rules
use Rattle.rules.specs.RootedTrial.{no_choices}
use Rattle.rules.specs.Search.{trial, best_limit}
use Rattle.rules.specs.FewTrials as few
use Rattle.rules.specs.FewTrials.{untried, before_trials, within}
use Rattle.rules.specs.Questions.{most_limit, least_room, most_trials, Question, graph_in, crews_in, limit_fault, room_fault, trials_fault, question_fault, trial_fault, ask_trial, best_fault, ask_best, within_fault, ask_within, written, buffer_after}
use Rattle.rules.specs.Fit.{GoodFor}
use Rattle.rules.proofs.Admitted.{Admitted, admitted}
use Rattle.planner_laws.proofs.BothKinds.{trial_bounds}
use Rattle.planner_laws.proofs.FewTrials.{unspent_best, unspent_same, valid_unspent}
use Rattle.planner_laws.proofs.Replies.{trial_means, best_means, within_means}
use Rattle.admit.specs.declared.refusal.Refusal.{Refusal}
use Rattle.admit.specs.declared.refusal.Refusal.TheVariants.{Room}
use Rattle.admit.specs.Refusals.{number_of}
use Rattle.replies.specs.declared.Reply.TheVariants.{Refused}
use Rattle.replies.specs.declared.Told.{Told}
use Rattle.replies.specs.Replies.{Replied, alone, Tells}
use Rattle.asking.specs.declared.ask.Asked.{Asked}
use Rattle.asking.specs.declared.ask.Asked.TheVariants.{At, Within}
use Rattle.asking.specs.Asking.{AskedFits, Answered, CrewsAsked}
use Rattle.planner.specs.Promise.{Refuses, BestPromise, WithinPromise, limit_fault_of, trials_fault_of, fault_of, TrialTold, AskPromise, LimitTested, TrialsTested, refused_or_told, QuestionPromise}

-- THE TESTS

-- The test of the limit, where one is given.
pub limit_tested : (limit : ℕ) → LimitTested (At limit) (leb limit most_limit)
unfolding limit_fault fault_if
limit_tested limit =
    record {
      right = λ t. rw (le-ltb most_limit limit (leb-true limit most_limit t)) refl;
      wrong = λ t. rw (lt-ltb most_limit limit (leb-false limit most_limit t)) refl;
    }

pub limit_none : (p : ℕ) → LimitTested (Within p) true
limit_none p = record { right = λ t. refl; wrong = λ t. absurd (true≢false t) }

-- The test of the number of trials, where one is given: it is at least 2, and then at most 33.
pub trials_few : (p : ℕ) → p < 2 → TrialsTested (Within p) (leb 2 p)
unfolding trials_fault fault_if
trials_few p h = record { right = λ t. absurd (omega (arith, leb-true 2 p t)); wrong = λ t. rw (lt-ltb p 2 h) refl }

pub trials_some : (p : ℕ) → 2 ≤ p → TrialsTested (Within p) (leb p most_trials)
unfolding trials_fault fault_if
trials_some p h =
    record {
      right = λ t. rw (le-ltb p 2 h, le-ltb most_trials p (leb-true p most_trials t)) refl;
      wrong = λ t. rw (le-ltb p 2 h, lt-ltb most_trials p (leb-false p most_trials t)) refl;
    }

pub trials_none : (limit : ℕ) → TrialsTested (At limit) true
trials_none limit = record { right = λ t. refl; wrong = λ t. absurd (true≢false t) }

-- A limit that is not refused is within document 01's range, and trials that are not are at least 2.
asked_fits : (asked : Asked) → limit_fault_of asked ≡ none → trials_fault_of asked ≡ none → AskedFits asked
unfolding limit_fault trials_fault
asked_fits (At limit) e t = ltb-false most_limit limit (quiet_if (ltb most_limit limit) _ e)
asked_fits (Within p) e t = ltb-false p 2 (first_false (ltb p 2) _ (quiet_if (ltb p 2 || ltb most_trials p) _ t))

-- A last test that refuses nothing changes nothing.
none_last : (fs : List Fault) → first_fault (fs ++ (none ∷ [])) ≡ first_fault fs
unfolding first_fault
none_last [] = refl
none_last (some n ∷ fs) = refl
none_last (none ∷ fs) = none_last fs

module _ (asked : Asked) (q : Question) (room : ℕ) where
  -- What is refused, in one order for both questions.
  faults : List Fault
  faults = question_fault q ∷ limit_fault_of asked ∷ room_fault room ∷ trials_fault_of asked ∷ []

in_order : (asked : Asked) (q : Question) (room : ℕ) → first_fault (faults asked q room) ≡ fault_of asked q room
unfolding faults trial_fault within_fault first_fault
in_order (At limit) q room = none_last (question_fault q ∷ limit_fault limit ∷ room_fault room ∷ [])
in_order (Within p) q room = go (question_fault q) (room_fault room) (trials_fault p)
  where
    go : (f r t : Fault) → first_fault (f ∷ none ∷ r ∷ t ∷ []) ≡ first_fault (f ∷ r ∷ t ∷ [])
    go (some n) r t = refl
    go none r t = refl

module _ (asked : Asked) (q : Question) (room : ℕ) where
  -- What every question brings, 11 to 21,
  pub question_refused : {n : ℕ} → some n ≡ question_fault q → some n ≡ fault_of asked q room
  unfolding faults first_fault
  question_refused e = rw (sym e) at (in_order asked q room)

  module _ (e : none ≡ question_fault q) where
    -- the limit, 22,
    pub limit_refused : {n : ℕ} → limit_fault_of asked ≡ some n → some n ≡ fault_of asked q room
    unfolding faults first_fault
    limit_refused l = rw (sym e, l) at (in_order asked q room)

    module _ (l : limit_fault_of asked ≡ none) where
      -- the buffer, 23,
      pub room_refused : room < least_room → some (number_of Room) ≡ fault_of asked q room
      unfolding faults first_fault room_fault fault_if
      room_refused h = rw (sym e, l, lt-ltb room least_room h) at (in_order asked q room)

      module _ (h : least_room ≤ room) where
        -- the trials, 56;
        pub trials_refused : {n : ℕ} → trials_fault_of asked ≡ some n → some n ≡ fault_of asked q room
        unfolding faults first_fault room_fault fault_if
        trials_refused t = rw (sym e, l, le-ltb room least_room h, t) at (in_order asked q room)

        -- and otherwise nothing is.
        pub nothing_refused : trials_fault_of asked ≡ none → none ≡ fault_of asked q room
        unfolding faults first_fault room_fault fault_if
        nothing_refused t = rw (sym e, l, le-ltb room least_room h, t) at (in_order asked q room)

  -- Where nothing is refused, none of the tests refuses.
  module _ (e : fault_of asked q room ≡ none) where
    quiet : first_fault (faults asked q room) ≡ none
    quiet = in_order asked q room ∙ e

    question_quiet : Admitted q
    unfolding faults
    question_quiet = admitted q (quiet_each (faults asked q room) quiet (Memᴰ.head refl))

    asked_quiet : AskedFits asked
    unfolding faults
    asked_quiet =
        asked_fits asked (quiet_each (faults asked q room) quiet (Memᴰ.tail (Memᴰ.head refl)))
        (quiet_each (faults asked q room) quiet (Memᴰ.tail (Memᴰ.tail (Memᴰ.tail (Memᴰ.head refl)))))

    room_quiet : least_room ≤ room
    unfolding faults room_fault
    room_quiet = ltb-false room least_room (quiet_if (ltb room least_room) _ (quiet_each (faults asked q room) quiet (Memᴰ.tail (Memᴰ.tail (Memᴰ.head refl)))))

-- So the question can be asked.
pub can_ask : (asked : Asked) (q : Question) (room : ℕ) → none ≡ fault_of asked q room → CrewsAsked (graph_in q) (crews_in q) asked room
can_ask asked q room e =
    let a = question_quiet asked q room (sym e) in
    record { valid = a.valid; few = a.few; fit = a.fit; asked_fits = asked_quiet asked q room (sym e); room_most = room_quiet asked q room (sym e) }

module _ (asked : Asked) (q : Question) where
  -- A question that is refused: the reply says its number, and the buffer is as it came.
  pub refusal_given : (f : Refusal) {before : List ℕ} → some (number_of f) ≡ fault_of asked q (length before) → QuestionPromise asked q before before (alone (Refused f))
  unfolding refused_or untried buffer_after written
  refusal_given f e =
      record {
        choices = no_choices;
        rule = rw (sym e) (record { replied = record { same = refl; buffer = refl }; known = refl });
        good = λ quiet. absurd (some-ne-none (number_of f) (e ∙ quiet));
      }

  -- A question that is not: it is answered.
  pub answer_given : {before after : List ℕ} {t : Told} → none ≡ fault_of asked q (length before) → Answered asked (graph_in q) (crews_in q) before after t → QuestionPromise asked q before after t
  unfolding refused_or
  answer_given e a = record { choices = a.choices; rule = rw (sym e) a.tells; good = λ quiet. a.good }

-- WHAT THE REPLIES MEAN

-- A refused question's reply.
refused_so : {fault : Fault} (answer : few.Told) {before after : List ℕ} {t : Told} → Tells (refused_or_told fault answer) before after t → Refuses fault before after t.reply
unfolding refused_or buffer_after written
refused_so {fault} answer p =
    record { number = λ n q. let is : fault ≡ some n = q in (rw is at p).replied.same; untouched = λ n q. let is : fault ≡ some n = q in (rw is at p).replied.buffer }

-- A trial's reply, refused or not: nothing is known besides it.
told_before : (fault : Fault) (answer : rules.Reply) → refused_or_told fault (before_trials answer) ≡ before_trials (refused_or rules.refused fault answer)
unfolding refused_or
told_before (some n) answer = refl
told_before none answer = refl

trial_promised : {q : Question} {limit : ℕ} {before after : List ℕ} {t : Told} → QuestionPromise (At limit) q before after t → TrialTold q limit before after t
unfolding ask_trial
trial_promised {q} {limit} {before} {after} {t} p =
    let answer = trial (graph_in q) (crews_in q) limit p.choices in
    let tells : Tells (before_trials (ask_trial q limit (length before) p.choices)) before after t = subst (λ told. Tells told before after t) (told_before (trial_fault q limit (length before)) answer) p.rule in
    record {
      promise = record {
        refuses = refused_so (before_trials answer) p.rule;
        choices = p.choices;
        rule = tells.replied;
        good = p.good;
        means = λ e. let a = question_quiet (At limit) q (length before) e in trial_means (crews_in q) a.fit (trial_bounds a.valid (crews_in q) a.fit) limit p.choices (p.good e);
      };
      known = tells.known;
    }

within_promised : {q : Question} {n : ℕ} {before after : List ℕ} {t : Told} → QuestionPromise (Within n) q before after t → WithinPromise q n before after t
unfolding ask_within
within_promised {q} {n} {before} p =
    record {
      refuses = refused_so (within (graph_in q) (crews_in q) n p.choices) p.rule;
      choices = p.choices;
      rule = p.rule;
      good = p.good;
      means = λ e. let a = question_quiet (Within n) q (length before) e in within_means a.valid (crews_in q) a.fit (trial_bounds a.valid (crews_in q) a.fit) n p.choices (p.good e);
      unspent = λ e s. unspent_same (graph_in q) (crews_in q) n p.choices s;
    }

-- Either question.
pub ask_promised : (asked : Asked) {q : Question} {before after : List ℕ} {t : Told} → QuestionPromise asked q before after t → AskPromise asked q before after t
ask_promised (At limit) p = trial_promised p
ask_promised (Within n) p = within_promised p

-- THE BEST LIMIT

-- As many trials as may be asked for are not refused.
same_fault : (q : Question) (room : ℕ) → within_fault q most_trials room ≡ best_fault q room
unfolding within_fault best_fault trials_fault fault_if
same_fault q room = none_last (question_fault q ∷ room_fault room ∷ [])

-- The best-limit question is the question with so many trials.
pub best_promised : {q : Question} {before after : List ℕ} {t : Told} → WithinPromise q most_trials before after t → BestPromise q before after t.reply
unfolding ask_within ask_best refused_or
best_promised {q} {before} {after} {t} p =
    record {
      refuses = subst (λ f. Refuses f before after t.reply) (same_fault q (length before)) p.refuses;
      choices = p.choices;
      rule = subst (λ reply. Replied reply before after t.reply) (same (within_fault q most_trials (length before)) refl) p.rule.replied;
      good = good;
      means = λ e. let a = admitted_so e in best_means a.valid (crews_in q) a.fit (trial_bounds a.valid (crews_in q) a.fit) p.choices (good e);
    }
  where
    quiet : best_fault q (length before) ≡ none → within_fault q most_trials (length before) ≡ none
    quiet e = same_fault q (length before) ∙ e

    admitted_so : best_fault q (length before) ≡ none → Admitted q
    admitted_so e = question_quiet (Within most_trials) q (length before) (quiet e)

    good : best_fault q (length before) ≡ none → GoodFor (graph_in q) (crews_in q) (best_limit (graph_in q) (crews_in q)) p.choices
    good e =
        subst (λ limit. GoodFor (graph_in q) (crews_in q) limit p.choices)
        (unspent_best (graph_in q) (crews_in q) most_trials (valid_unspent (admitted_so e).valid (crews_in q))) (p.good (quiet e))

    same : (f : Fault) → within_fault q most_trials (length before) ≡ f → (ask_within q most_trials (length before) p.choices).reply ≡ ask_best q (length before) p.choices
    same (some n) e = rw (e, sym (same_fault q (length before)) ∙ e) refl
    same none e = rw (e, sym (same_fault q (length before)) ∙ e) (p.unspent e ((p.means e).enough refl))
