-- What the check of a filed cover promises on every input.
-- Assumes nothing.
use Rattle.std.specs.Prelude.{ℕ, ◌≡◌, ◌↔◌, List, [], ◌∷◌, Result, Ok, Err}
use Rattle.graph.specs.Graph.{Graph}
use Rattle.graph.specs.Fault.{Fault, fault_unless, first_fault, refused_or}
use Rattle.rules.specs.Cover as cover
use Rattle.rules.specs.CoverBytes.{decode}
use Rattle.rules.specs.CheckCover.{trees_right, vertices_covered}
use Rattle.rules.specs.Reply as reply
use Rattle.rules.specs.Questions.{Question, ask_check}
use Rattle.rules.specs.Filed.{Filed}
use Rattle.admit.specs.declared.refusal.Refusal.{Refusal}
use Rattle.admit.specs.Refusals.{number_of}

-- Document 01's value or number of each answer.
abbrev pub says : Result ℕ Refusal → reply.Verdict
says (Ok h) = reply.yes h
says (Err f) = reply.number (number_of f)

-- The number of a verdict, 0 where it is yes.
abbrev pub number_or0 : reply.Verdict → ℕ
number_or0 (reply.yes heaviest) = 0
number_or0 (reply.number number) = number

-- The number where there is one, and otherwise yes with the weight of the heaviest tree.
abbrev pub answer : Graph → List ℕ → Fault → reply.Verdict
answer g c fault = refused_or reply.number fault (reply.yes (cover.heaviest g (decode c)))

-- The last two numbers.
unfoldable pub trees_fault : Graph → List ℕ → Fault
trees_fault g c =
    let trees = decode c in
    first_fault (fault_unless (trees_right g trees) 34 ∷ fault_unless (vertices_covered g trees) 35 ∷ [])

-- The answer is that of document 01's rules, and it is yes exactly where the bytes are those of a cover by the crews, with its heaviest weight.
pub record CheckPromise (q : Question) (c : List ℕ) (r : Result ℕ Refusal) : Type 0 where
  pub rule : says r ≡ ask_check q c
  pub exactly : (h : ℕ) → (r ≡ Ok h) ↔ Filed q c h
