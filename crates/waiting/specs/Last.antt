-- The last edge of a path and the vertex before it, in one number.
-- Assumes nothing.
use Rattle.std.specs.Prelude.{ℕ, ◌+◌, ◌*◌, ◌/◌, ◌%◌}

-- The number of an edge and the vertex before it, in one number.
unfoldable pub last_of : ℕ → ℕ → ℕ
last_of edge vertex = edge + 65536 * vertex

unfoldable pub last_edge : ℕ → ℕ
last_edge x = x % 65536

unfoldable pub vertex_before : ℕ → ℕ
vertex_before x = x / 65536
