-- Marked vertices: a byte for each, 1 where the vertex is marked.
-- Assumes nothing.
use Rattle.std.specs.Prelude.{ℕ, ◌<◌, ◌≡◌, List, get_or}

-- Each of the n vertices is marked, whatever bytes lie beyond. A vertex past the last byte is not marked.
abbrev pub AllMarked : List ℕ → ℕ → Type 0
AllMarked marks n = (v : ℕ) → v < n → get_or marks v 0 ≡ 1
