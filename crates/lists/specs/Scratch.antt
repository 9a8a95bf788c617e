-- An array that is lent as scratch: what it holds in the end is nobody's business.
-- Assumes nothing.
use Rattle.std.specs.Prelude.{◌≡◌, List, length}

-- As long as before, holding anything.
abbrev pub Scratch : {A : Type 0} → List A → List A → Type 0
Scratch before after = length after ≡ length before
