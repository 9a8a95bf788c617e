-- What an assignment of parts to roots is, and what a deficient set of parts is (document 01, step 5).
-- Parts are numbered below p and roots ("yards") below y; `allowed i j` says that part i may go to root j.
-- Assumes nothing.
use Rattle.std.specs.Prelude.{ℕ, ◌<◌, ◌≡◌, Bool, true, ◌&&◌, List, length, get_or, eqb}
use Rattle.lists.specs.Count.{count, any_below}

-- An "assignment": the root of each part, allowed to it, and no root for two parts.
pub record IsAssignment (p y : ℕ) (allowed : ℕ → ℕ → Bool) (roots : List ℕ) : Type 0 where
  pub each : length roots ≡ p
  pub is_root : (i : ℕ) → i < p → get_or roots i 0 < y
  pub may : (i : ℕ) → i < p → allowed i (get_or roots i 0) ≡ true
  pub apart : (i j : ℕ) → i < p → j < p → get_or roots i 0 ≡ get_or roots j 0 → i ≡ j

-- The part is in the set: its mark is 1.
abbrev pub marked : List ℕ → ℕ → Bool
marked marks i = eqb (get_or marks i 0) 1

-- How many parts the set has (document 01: T).
abbrev pub marked_parts : ℕ → List ℕ → ℕ
marked_parts p marks = count p (marked marks)

-- How many roots are allowed to some part of the set (document 01: D).
abbrev pub allowed_roots : ℕ → ℕ → (ℕ → ℕ → Bool) → List ℕ → ℕ
allowed_roots p y allowed marks = count y (λ j. any_below p (λ i. marked marks i && allowed i j))

-- A "set that has fewer allowed yards than parts": 1 for each part of it, 0 for the others.
pub record IsDeficient (p y : ℕ) (allowed : ℕ → ℕ → Bool) (marks : List ℕ) : Type 0 where
  pub each : length marks ≡ p
  pub mark : (i : ℕ) → i < p → get_or marks i 0 < 2
  pub fewer : allowed_roots p y allowed marks < marked_parts p marks
