-- Document 01's number and values of each reply, and what a reply and the buffer say together.
-- Assumes nothing.
use Rattle.std.specs.Prelude.{ℕ, ◌≡◌, Bool, false, cond, List, [], ◌∷◌, length}
use Rattle.graph.specs.Graph.{Graph}
use Rattle.rules.specs.Cover as cover
use Rattle.rules.specs.Reply as rules
use Rattle.rules.specs.FewTrials as few
use Rattle.rules.specs.RootedTrial.{Choices}
use Rattle.rules.specs.Search.{trial}
use Rattle.rules.specs.Questions.{buffer_after}
use Rattle.rules.specs.Fit.{GoodFor}
use Rattle.admit.specs.Refusals.{number_of}
use Rattle.replies.specs.declared.Reply.{Reply}
use Rattle.replies.specs.declared.Known.{Known}
use Rattle.replies.specs.declared.Told.{Told}
use Rattle.replies.specs.declared.Reply.TheVariants.{Refused, Cover, Stop, Parts, Needs, NoCover}

-- The number of a case and its values. A refusal says its own number, from 11 on, and no value; the other cases are numbered from 0:
-- cover limit heaviest t; too low stop v; too low parts T yards D; too low needs C; no cover.
pub record Said : Type 0 where
  pub number : ℕ
  pub values : List ℕ

abbrev pub said : ℕ → List ℕ → Said
said number values = record { number = number; values = values }

-- What the rules' reply says, besides the trees that are written.
abbrev pub said_of : rules.Reply → Said
said_of (rules.refused number) = said number []
said_of (rules.covered limit heaviest trees) = said 0 (limit ∷ heaviest ∷ length trees ∷ [])
said_of (rules.too_low_stop v) = said 1 (v ∷ [])
said_of (rules.too_low_parts T D parts) = said 2 (T ∷ D ∷ [])
said_of (rules.too_low_needs C) = said 3 (C ∷ [])
said_of rules.no_cover = said 4 []

-- What the program's reply says.
abbrev pub says : Reply → Said
says (Refused f) = said (number_of f) []
says (Cover limit heaviest t) = said 0 (limit ∷ heaviest ∷ t ∷ [])
says (Stop v) = said 1 (v ∷ [])
says (Parts T D) = said 2 (T ∷ D ∷ [])
says (Needs C) = said 3 (C ∷ [])
says NoCover = said 4 []

-- The reply says what the rules' reply does, and the buffer is what that reply makes of it: "the cover, or the T parts, fill the buffer's first
-- bytes; the rest is untouched".
pub record Replied (reply : rules.Reply) (before after : List ℕ) (r : Reply) : Type 0 where
  pub same : says r ≡ said_of reply
  pub buffer : after ≡ buffer_after reply before

-- 1 for true, 0 for false.
abbrev pub bit_of : Bool → ℕ
bit_of is = cond is 1 0

-- What is known, as the rules have it.
abbrev pub known_of : Known → few.Known
known_of k = record { trials = k.trials; floor = k.floor; spent = k.spent }

-- A reply before any trial: nothing is known besides it.
abbrev pub alone : Reply → Told
alone reply = record { reply = reply; known = record { trials = 0; floor = 0; spent = false } }

-- The reply and the buffer are what the rules make of them, and what is known besides is what they say.
pub record Tells (told : few.Told) (before after : List ℕ) (t : Told) : Type 0 where
  pub replied : Replied told.reply before after t.reply
  pub known : known_of t.known ≡ told.known

-- The answer of a trial at a limit, by free choices of which holds what document 01 says.
pub record Answers (g : Graph) (crews : cover.Crews) (limit : ℕ) (before after : List ℕ) (r : Reply) : Type 0 where
  pub choices : Choices
  pub good : GoodFor g crews limit choices
  pub replied : Replied (trial g crews limit choices) before after r
