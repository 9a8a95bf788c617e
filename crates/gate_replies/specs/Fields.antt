-- Numbers in several bytes, lowest byte first.
-- Assumes nothing.
use Rattle.std.specs.Prelude.{ℕ, zero, suc, ◌/◌, ◌%◌, List, [], ◌∷◌, map}
use Rattle.lists.specs.Lists.{flat}

-- A number in so many bytes.
unfoldable pub field : ℕ → ℕ → List ℕ
field zero x = []
field (suc width) x = x % 256 ∷ field width (x / 256)

-- Numbers in as many bytes each, one behind the other.
unfoldable pub fields : ℕ → List ℕ → List ℕ
fields width xs = flat (map (field width) xs)
