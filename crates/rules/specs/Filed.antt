-- What the check of a filed cover is to find out (demand 2: "yes exactly to covers").
-- Assumes nothing.
use Rattle.std.specs.Prelude.{ℕ, ◌≡◌, List}
use Rattle.std.proofs.Math.Option.{none}
use Rattle.rules.specs.Cover.{Tree, IsCover, heaviest}
use Rattle.rules.specs.CoverBytes.{encode}
use Rattle.rules.specs.Questions.{Question, graph_in, crews_in, question_fault}

-- Nothing is refused of the question, and the bytes are those of a cover by its crews whose heaviest tree weighs h.
pub record Filed (q : Question) (b : List ℕ) (h : ℕ) : Type 0 where
  pub admitted : question_fault q ≡ none
  pub trees : List Tree
  pub cover : IsCover (graph_in q) (crews_in q) trees
  pub bytes : b ≡ encode trees
  pub weighs : h ≡ heaviest (graph_in q) trees
