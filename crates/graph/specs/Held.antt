-- What the struct of a graph's bytes knows besides: that its view shows them, and that the counts are small.
-- Assumes nothing.
use Rattle.std.specs.Prelude.{◌^◌, ◌<◌}
use Rattle.graph.specs.View.{Views}
use Rattle.graph.specs.declared.Graph.TheInside.{Inside}

-- The view shows its own bytes, and each of its counts is a field of two bytes.
pub record Held (s : Inside) : Type 0 where
  pub shown : Views s.sheet s.sheet.bytes.now
  pub vertices_small : s.sheet.vertices < 2 ^ 16
  pub edges_small : s.sheet.edges < 2 ^ 16
