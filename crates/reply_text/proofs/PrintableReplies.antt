-- Which replies can be printed: refusals by document 01's numbers, and replies that mean what the rules say of them.
-- Assumes nothing.
use Prim.Native.Nat.{ℕ, ◌≤◌}
use mathlib.Core.Path.{◌≡◌, refl, subst}
use mathlib.Core.List.Memᴰ
use mathlib.Core.List.{List}
use mathlib.Core.Option.{some, none}
use native.Mathlib.Omega.{arith}
use Rattle.graph.specs.Graph.{Graph}
use Rattle.graph.specs.Fault.{Fault, refused_or}
use Rattle.graph.proofs.Faults.{quiet_each}
use Rattle.rules.specs.Cover.{Tree, IsCover}
use Rattle.rules.specs.Reply.{Reply, refused, covered}
use Rattle.rules.specs.RootedTrial.{Choices}
use Rattle.rules.specs.Search.{trial, best}
use Rattle.rules.specs.FewTrials.{Known, before_trials, within}
use Rattle.rules.specs.Questions.{Question, graph_in, crews_in, limit_fault, room_fault, trials_fault, trial_fault, ask_trial, best_fault, ask_best, within_fault, ask_within}
use Rattle.rules.proofs.Admitted.{Admitted, admitted}
use Rattle.rules.proofs.FaultNumbers.{Numbered, if_numbered, first_none, first_next, question_numbered}
use Rattle.planner_laws.specs.Meaning.{TrialSays, TrialMeans, BestSays, BestMeans, WithinSays, WithinMeans}
use Rattle.reply_text.specs.Replies.{CoverOf, Printable}

-- The numbers of what is refused of each question.
trial_numbered : (q : Question) (limit room : ℕ) → Numbered (trial_fault q limit room)
unfolding trial_fault limit_fault room_fault
trial_numbered q limit room =
    first_next _ _ (question_numbered q) (first_next _ _ (if_numbered _ _ (omega arith)) (first_next _ _ (if_numbered _ _ (omega arith)) first_none))

best_numbered : (q : Question) (room : ℕ) → Numbered (best_fault q room)
unfolding best_fault room_fault
best_numbered q room = first_next _ _ (question_numbered q) (first_next _ _ (if_numbered _ _ (omega arith)) first_none)

within_numbered : (q : Question) (p room : ℕ) → Numbered (within_fault q p room)
unfolding within_fault room_fault trials_fault
within_numbered q p room =
    first_next _ _ (question_numbered q) (first_next _ _ (if_numbered _ _ (omega arith)) (first_next _ _ (if_numbered _ _ (omega arith)) first_none))

-- A refusal can be printed.
pub refusal_printable : (g : Graph) (k : ℕ) → 11 ≤ k → Printable g (refused k)
refusal_printable g k h =
    record {
      refusal = λ n q. let e : k ≡ n = cc in omega arith;
      cover = λ limit heaviest trees q. let z : ◌≡◌ {A = ℕ} 0 1 = cc in absurd (omega arith);
    }

-- So can an answer that means what the rules say: it is no refusal, and what it accepts is a cover.
module _ {q : Question} (a : Admitted q) (ruled : Reply) where
  of_cover : {trees : List Tree} → IsCover (graph_in q) (crews_in q) trees → CoverOf (graph_in q) trees
  of_cover cover = record { valid = a.valid; crews = crews_in q; few = a.few; cover = cover }

  says_printable : (Says : Reply → Type 0) → ((n : ℕ) → Says (refused n) → ⊥)
      → ((l h : ℕ) (trees : List Tree) → Says (covered l h trees) → IsCover (graph_in q) (crews_in q) trees) → Says ruled → Printable (graph_in q) ruled
  says_printable Says answers covers says =
      record { refusal = λ n e. absurd (answers n (subst Says e says)); cover = λ l h trees e. of_cover (covers l h trees (subst Says e says)) }

  trial_printable : (limit : ℕ) → TrialMeans (graph_in q) (crews_in q) limit ruled → Printable (graph_in q) ruled
  trial_printable limit means = says_printable (TrialSays (graph_in q) (crews_in q) limit) (λ n s. s) (λ l h trees s. s.carries.cover) means.says

  best_printable : BestMeans (graph_in q) (crews_in q) ruled → Printable (graph_in q) ruled
  best_printable means = says_printable (BestSays (graph_in q) (crews_in q)) (λ n s. s) (λ l h trees s. s.carries.cover) means.says

  within_printable : (k : Known) → WithinSays (graph_in q) (crews_in q) ruled k → Printable (graph_in q) ruled
  within_printable k says = says_printable (λ r. WithinSays (graph_in q) (crews_in q) r k) (λ n s. s) (λ l h trees s. s.carries.cover) says

-- So can the answers of the questions, refused or not.
ask_printable : (g : Graph) (f : Fault) (answer : Reply) → Numbered f → (f ≡ none → Printable g answer) → Printable g (refused_or refused f answer)
unfolding refused_or
ask_printable g (some k) answer h else = refusal_printable g k (h k refl)
ask_printable g none answer h else = else refl

module _ (q : Question) (room : ℕ) (c : Choices) where
  pub ask_trial_printable : (limit : ℕ) → (trial_fault q limit room ≡ none → TrialMeans (graph_in q) (crews_in q) limit (trial (graph_in q) (crews_in q) limit c))
      → Printable (graph_in q) (ask_trial q limit room c)
  unfolding ask_trial trial_fault
  ask_trial_printable limit means =
      ask_printable (graph_in q) (trial_fault q limit room) (trial (graph_in q) (crews_in q) limit c) (trial_numbered q limit room)
      (λ e. trial_printable (admitted q (quiet_each _ e (Memᴰ.head refl))) (trial (graph_in q) (crews_in q) limit c) limit (means e))

  pub ask_best_printable : (best_fault q room ≡ none → BestMeans (graph_in q) (crews_in q) (best (graph_in q) (crews_in q) c)) → Printable (graph_in q) (ask_best q room c)
  unfolding ask_best best_fault
  ask_best_printable means =
      ask_printable (graph_in q) (best_fault q room) (best (graph_in q) (crews_in q) c) (best_numbered q room)
      (λ e. best_printable (admitted q (quiet_each _ e (Memᴰ.head refl))) (best (graph_in q) (crews_in q) c) (means e))

  pub ask_within_printable : (p : ℕ) → (within_fault q p room ≡ none → WithinMeans (graph_in q) (crews_in q) p (within (graph_in q) (crews_in q) p c))
      → Printable (graph_in q) (ask_within q p room c).reply
  unfolding ask_within within_fault refused_or
  ask_within_printable p means =
      let told = within (graph_in q) (crews_in q) p c in
      subst (Printable (graph_in q)) (same (within_fault q p room))
      (ask_printable (graph_in q) (within_fault q p room) told.reply (within_numbered q p room)
      (λ e. within_printable (admitted q (quiet_each _ e (Memᴰ.head refl))) told.reply told.known (means e).says))
    where
      same : (f : Fault) → refused_or refused f (within (graph_in q) (crews_in q) p c).reply ≡ (refused_or (λ n. before_trials (refused n)) f (within (graph_in q) (crews_in q) p c)).reply
      same (some n) = refl
      same none = refl
