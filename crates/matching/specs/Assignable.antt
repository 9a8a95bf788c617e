-- Whether an assignment exists, as a test that tries the roots part by part.
-- Assumes nothing.
use Rattle.std.specs.Prelude.{ℕ, Bool, true, ◌&&◌, List, [], ◌∷◌}
use Rattle.lists.specs.Lists.{any, without}

-- Each of the parts can have a root of its own among the free ones: some root is allowed to the first, and without it
-- the others can.
unfoldable pub assignable : (ℕ → ℕ → Bool) → List ℕ → List ℕ → Bool
assignable allowed [] free = true
assignable allowed (i ∷ parts) free = any (λ j. let rest = assignable allowed parts (without j free) in allowed i j && rest) free
