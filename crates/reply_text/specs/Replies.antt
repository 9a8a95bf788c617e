-- The text of a program's reply: what its writing asks and promises.
-- Assumes nothing.
use Rattle.std.specs.Prelude.{ℕ, ◌≤◌, ◌≡◌, List, [], ◌∷◌, ◌++◌}
use Rattle.lists.specs.Put.{PutTo}
use Rattle.graph.specs.Graph.{Graph}
use Rattle.graph.specs.Valid.{Valid}
use Rattle.rules.specs.Cover.{Tree, Crews, IsCover}
use Rattle.rules.specs.CoverBytes.{decode}
use Rattle.rules.specs.Fit.{crew_count}
use Rattle.rules.specs.Reply as rules
use Rattle.replies.specs.declared.Reply.{Reply}
use Rattle.replies.specs.Replies.{Replied}
use Rattle.reply_text.specs.Lines.{line}
use Rattle.reply_text.specs.Text.{tree_lines, text_of}

-- The trees are a cover of the graph, by at most 32 crews.
pub record CoverOf (g : Graph) (trees : List Tree) : Type 0 where
  pub valid : Valid g
  pub crews : Crews
  pub few : crew_count crews ≤ 32
  pub cover : IsCover g crews trees

-- What holds of every reply that the rules give to a question: a refusal's number is one of document 01's, which begin at 11, and what is
-- accepted is a cover.
pub record Printable (g : Graph) (ruled : rules.Reply) : Type 0 where
  pub refusal : (number : ℕ) → ruled ≡ rules.refused number → 11 ≤ number
  pub cover : (limit heaviest : ℕ) (trees : List Tree) → ruled ≡ rules.covered limit heaviest trees → CoverOf g trees

-- The reply is that of the rules, the buffer holds what that reply writes, and there is room for any text.
pub record TextAsked (g : Graph) (reply : Reply) (buf : List ℕ) (room : ℕ) : Type 0 where
  pub ruled : rules.Reply
  pub earlier : List ℕ
  pub replied : Replied ruled earlier buf reply
  pub printable : Printable g ruled
  pub enough : 65536 ≤ room

-- Whichever reply of the rules it is: its text was written, r bytes, and all others are as they came.
pub record TextWritten (g : Graph) (reply : Reply) (buf before after : List ℕ) (r : ℕ) : Type 0 where
  pub text : (ruled : rules.Reply) (earlier : List ℕ) → Replied ruled earlier buf reply → Printable g ruled → PutTo 0 (text_of g ruled) before after r

-- The text of a cover, from its bytes.
unfoldable pub cover_text : Graph → ℕ → ℕ → ℕ → List ℕ → List ℕ
cover_text g limit heaviest t c = line "cover" (limit ∷ heaviest ∷ t ∷ []) ++ tree_lines g (decode c)

-- A refusal was written, whatever the graph is.
pub record RefusalWritten (number : ℕ) (before after : List ℕ) (r : ℕ) : Type 0 where
  pub text : (g : Graph) → PutTo 0 (text_of g (rules.refused number)) before after r
