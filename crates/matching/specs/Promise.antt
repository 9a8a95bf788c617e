-- What `assign` promises, on every input.
-- Assumes nothing.
use Rattle.std.specs.Prelude.{ℕ, ◌≡◌, true, false, cond, List, length, take}
use Rattle.lists.specs.Count.{below}
use Rattle.lists.specs.Put.{OnlyFirst}
use Rattle.matching.specs.declared.Answer.{Answer}
use Rattle.matching.specs.declared.Answer.TheVariants.{Refused, Assigned, Deficient}
use Rattle.matching.specs.Assignment.{IsAssignment, IsDeficient}
use Rattle.matching.specs.Assignable.{assignable}
use Rattle.matching.specs.Input.{allowed_at, refused_of}

-- A case of the answer: its number, and what it says.
pub record Case : Type 1 where
  pub number : ℕ
  pub says : Type 0

-- The number and the meaning of each case, where `before` and `after` are the lent buffer as it came and as it is left.
-- An input has one case, since what one says excludes the others.
abbrev pub case_of : (p y : ℕ) (bytes before after : List ℕ) → Answer → Case
case_of p y bytes before after Refused =
    record {
      number = 24;
      says = record { invalid : refused_of p y bytes (length before) ≡ true; unchanged : after ≡ before };
    }
case_of p y bytes before after Assigned =
    record {
      number = 0;
      says =
          record {
            valid : refused_of p y bytes (length before) ≡ false;
            assignment : IsAssignment p y (allowed_at bytes y) (take p after);
          };
    }
case_of p y bytes before after Deficient =
    record {
      number = 1;
      says =
          record {
            valid : refused_of p y bytes (length before) ≡ false;
            set : IsDeficient p y (allowed_at bytes y) (take p after);
            none : (roots : List ℕ) → IsAssignment p y (allowed_at bytes y) roots → ⊥;
          };
    }

-- Which case it is: refused on an input that is, else by whether an assignment exists.
unfoldable pub answer_of : (p y : ℕ) (bytes : List ℕ) (buffer : ℕ) → Answer
answer_of p y bytes buffer =
    cond (refused_of p y bytes buffer) Refused (cond (assignable (allowed_at bytes y) (below p) (below y)) Assigned Deficient)

-- The promise of `assign`. Free is the choice among assignments, and among deficient sets: the first p bytes after, of
-- which `means` says what holds.
pub record Assigns (p y : ℕ) (bytes before : List ℕ) (answer : Answer) (after : List ℕ) : Type 0 where
  -- the answer is the rules'
  pub reply : answer ≡ answer_of p y bytes (length before)
  -- and what its case says holds
  pub means : (case : Answer) → answer ≡ case → (case_of p y bytes before after case).says
  -- the buffer past its first p bytes is as it came
  pub rest : OnlyFirst p before after
