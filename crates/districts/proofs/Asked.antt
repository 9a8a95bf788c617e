-- The replies of the planner can be printed.
-- Assumes nothing.
use Prim.Native.Nat.{ℕ, ◌≤◌}
use mathlib.Core.List.{List}
use lib.ListN.{length}
use Rattle.graph.specs.Graph.{Graph}
use Rattle.rules.specs.Questions.{Question, graph_in, ask_trial, ask_within}
use Rattle.replies.specs.declared.Reply.{Reply}
use Rattle.replies.specs.declared.Told.{Told}
use Rattle.asking.specs.declared.ask.Asked.{Asked}
use Rattle.asking.specs.declared.ask.Asked.TheVariants.{At, Within}
use Rattle.planner.specs.Promise.{TrialPromise, WithinPromise, AskPromise}
use Rattle.reply_text.specs.Replies.{TextAsked}
use Rattle.reply_text.proofs.PrintableReplies.{ask_trial_printable, ask_within_printable}

module _ {q : Question} {before after : List ℕ} {r : Reply} {room : ℕ} where
  trial_asked : {limit : ℕ} → TrialPromise q limit before after r → 65536 ≤ room → TextAsked (graph_in q) r after room
  trial_asked {limit} p enough =
      record {
        ruled = ask_trial q limit (length before) p.choices;
        earlier = before;
        replied = p.rule;
        printable = ask_trial_printable q (length before) p.choices limit p.means;
        enough = enough;
      }

module _ {q : Question} {before after : List ℕ} {t : Told} {room : ℕ} where
  within_asked : {n : ℕ} → WithinPromise q n before after t → 65536 ≤ room → TextAsked (graph_in q) t.reply after room
  within_asked {n} p enough =
      record {
        ruled = (ask_within q n (length before) p.choices).reply;
        earlier = before;
        replied = p.rule.replied;
        printable = ask_within_printable q (length before) p.choices n p.means;
        enough = enough;
      }

pub ask_asked : (asked : Asked) (q : Question) (before : List ℕ) {after : List ℕ} (t : Told) {room : ℕ} → AskPromise asked q before after t → 65536 ≤ room → TextAsked (graph_in q) t.reply after room
ask_asked (At limit) q before t p enough = trial_asked p.promise enough
ask_asked (Within n) q before t p enough = within_asked p enough

-- More room does no harm.
pub wide_asked : {g : Graph} {buf : List ℕ} {reply : Reply} {room more : ℕ} → TextAsked g reply buf room → 65536 ≤ more → TextAsked g reply buf more
wide_asked a enough = record { ruled = a.ruled; earlier = a.earlier; replied = a.replied; printable = a.printable; enough = enough }
