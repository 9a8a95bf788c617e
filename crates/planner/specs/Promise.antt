-- What the questions promise on every input, refused ones too: a trial at a limit, the best limit (demands 1, 2 and 3), and the best limit's question
-- with a number of trials (document 02, A.6).
-- Assumes nothing.
use Rattle.std.specs.Prelude.{ℕ, ◌≡◌, Bool, true, false, List, [], length}
use Rattle.std.proofs.Math.Option.{some, none}
use Rattle.graph.specs.Fault.{Fault, refused_or}
use Rattle.rules.specs.Reply as rules
use Rattle.rules.specs.RootedTrial.{Choices}
use Rattle.rules.specs.Search.{trial, best_limit, best}
use Rattle.rules.specs.FewTrials as few
use Rattle.rules.specs.FewTrials.{standing, untried, before_trials, within}
use Rattle.rules.specs.Questions.{Question, graph_in, crews_in, limit_fault, trials_fault, trial_fault, ask_trial, best_fault, ask_best, within_fault, ask_within}
use Rattle.rules.specs.Fit.{GoodFor}
use Rattle.planner_laws.specs.Meaning.{TrialMeans, BestMeans, WithinMeans}
use Rattle.admit.specs.declared.refusal.Refusal.TheVariants.{Limit, Trials}
use Rattle.admit.specs.Refusals.{number_of}
use Rattle.replies.specs.declared.Reply.{Reply}
use Rattle.replies.specs.declared.Told.{Told}
use Rattle.replies.specs.Replies.{said, says, Replied, known_of, Tells}
use Rattle.asking.specs.declared.ask.Asked.{Asked}
use Rattle.asking.specs.declared.ask.Asked.TheVariants.{At, Within}
use Rattle.asking.specs.Asking.{limit_of, tell_to}

-- "A refused question returns its number alone; no lent byte changes."
pub record Refuses (fault : Fault) (before after : List ℕ) (r : Reply) : Type 0 where
  pub number : (n : ℕ) → fault ≡ some n → says r ≡ said n []
  pub untouched : (n : ℕ) → fault ≡ some n → after ≡ before

-- The trial at limit B. Refused exactly where document 01 says so, with its number. Otherwise the reply and the buffer are what the rules make of
-- free choices that are good, and the reply means what it says: a cover by these crews within four times B, or that every cover by them is above B.
-- Where B is 0 it is a cover exactly where weightless edges join every vertex to a root, or into at most k components (`at_zero` of `TrialMeans`).
pub record TrialPromise (q : Question) (limit : ℕ) (before after : List ℕ) (r : Reply) : Type 0 where
  pub refuses : Refuses (trial_fault q limit (length before)) before after r
  pub choices : Choices
  pub rule : Replied (ask_trial q limit (length before) choices) before after r
  pub good : trial_fault q limit (length before) ≡ none → GoodFor (graph_in q) (crews_in q) limit choices
  pub means : trial_fault q limit (length before) ≡ none → TrialMeans (graph_in q) (crews_in q) limit (trial (graph_in q) (crews_in q) limit choices)

-- The best limit. Refused exactly where document 01 says so. Otherwise "no cover" exactly where none exists; or the limit where the search ends, with
-- the cover of the trial there, whose heaviest is at most four times that of every cover by the same crews, while no cover's heaviest is below that limit.
-- The limit is 0 exactly where weightless edges join every vertex to a root, or into at most k components (`at_zero` of `BestMeans`).
pub record BestPromise (q : Question) (before after : List ℕ) (r : Reply) : Type 0 where
  pub refuses : Refuses (best_fault q (length before)) before after r
  pub choices : Choices
  pub rule : Replied (ask_best q (length before) choices) before after r
  pub good : best_fault q (length before) ≡ none → GoodFor (graph_in q) (crews_in q) (best_limit (graph_in q) (crews_in q)) choices
  pub means : best_fault q (length before) ≡ none → BestMeans (graph_in q) (crews_in q) (best (graph_in q) (crews_in q) choices)

-- The best limit's question with p trials (document 02, A.6). Refused exactly where the documents say so. Otherwise "no cover" exactly where none
-- exists; or the cover of the trial at high, with the trials made, a floor and whether they are spent, all as the rules have it: nobody's heaviest is below
-- the floor, ours is at most four times high. A reply that is not spent is the best limit's own, and 33 trials are never spent (`enough` of `WithinMeans`).
pub record WithinPromise (q : Question) (p : ℕ) (before after : List ℕ) (t : Told) : Type 0 where
  pub refuses : Refuses (within_fault q p (length before)) before after t.reply
  pub choices : Choices
  pub rule : Tells (ask_within q p (length before) choices) before after t
  pub good : within_fault q p (length before) ≡ none → GoodFor (graph_in q) (crews_in q) (standing (graph_in q) (crews_in q) p).high choices
  pub means : within_fault q p (length before) ≡ none → WithinMeans (graph_in q) (crews_in q) p (within (graph_in q) (crews_in q) p choices)
  pub unspent : within_fault q p (length before) ≡ none → (within (graph_in q) (crews_in q) p choices).known.spent ≡ false
      → (within (graph_in q) (crews_in q) p choices).reply ≡ best (graph_in q) (crews_in q) choices

-- BOTH QUESTIONS AS ONE

-- 22, where a limit is given.
abbrev pub limit_fault_of : Asked → Fault
limit_fault_of (At limit) = limit_fault limit
limit_fault_of (Within p) = none

-- 56, where a number of trials is given.
abbrev pub trials_fault_of : Asked → Fault
trials_fault_of (At limit) = none
trials_fault_of (Within p) = trials_fault p

-- What is refused.
abbrev pub fault_of : Asked → Question → ℕ → Fault
fault_of (At limit) q room = trial_fault q limit room
fault_of (Within p) q room = within_fault q p room

-- A trial makes no search: besides its reply nothing is known.
pub record TrialTold (q : Question) (limit : ℕ) (before after : List ℕ) (t : Told) : Type 0 where
  pub promise : TrialPromise q limit before after t.reply
  pub known : known_of t.known ≡ untried

-- What is promised.
abbrev pub AskPromise : Asked → Question → List ℕ → List ℕ → Told → Type 0
AskPromise (At limit) q before after t = TrialTold q limit before after t
AskPromise (Within p) q before after t = WithinPromise q p before after t

-- r says whether the limit is not refused.
pub record LimitTested (asked : Asked) (r : Bool) : Type 0 where
  pub right : r ≡ true → limit_fault_of asked ≡ none
  pub wrong : r ≡ false → limit_fault_of asked ≡ some (number_of Limit)

-- r says whether the number of trials is not refused.
pub record TrialsTested (asked : Asked) (r : Bool) : Type 0 where
  pub right : r ≡ true → trials_fault_of asked ≡ none
  pub wrong : r ≡ false → trials_fault_of asked ≡ some (number_of Trials)

-- A refusal, or the answer.
abbrev pub refused_or_told : Fault → few.Told → few.Told
refused_or_told fault answer = refused_or (λ n. before_trials (rules.refused n)) fault answer

-- The question is refused or answered as the rules have it, by good choices.
pub record QuestionPromise (asked : Asked) (q : Question) (before after : List ℕ) (t : Told) : Type 0 where
  pub choices : Choices
  pub rule : Tells (refused_or_told (fault_of asked q (length before)) (tell_to asked (graph_in q) (crews_in q) choices)) before after t
  pub good : fault_of asked q (length before) ≡ none → GoodFor (graph_in q) (crews_in q) (limit_of asked (graph_in q) (crews_in q)) choices
