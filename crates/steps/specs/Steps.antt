-- The trees of a forest as a list of steps, each child behind all that hangs below it.
-- Assumes nothing.
use Rattle.std.specs.Prelude.{ℕ, ◌+◌, ◌*◌}
use Rattle.edges.specs.Around.{arc_edge, arc_head, arc_weight}

-- A step: a child, the vertex above it, and the weight of the edge between them. It is packed as an arc is, with the child in the edge's place and
-- the vertex above in the head's.
unfoldable pub step_of : ℕ → ℕ → ℕ → ℕ
step_of child above weight = child + 65536 * (above + 65536 * weight)

-- Its child,
abbrev pub step_child : ℕ → ℕ
step_child step = arc_edge step

-- the vertex above it,
abbrev pub step_above : ℕ → ℕ
step_above step = arc_head step

-- and the weight between them.
abbrev pub step_weight : ℕ → ℕ
step_weight step = arc_weight step
