-- A vertex that a tree covers is within the tree's weight of the tree's start.
-- Assumes nothing.
use Prim.Native.Nat.{ℕ}
use Rattle.graph.specs.Graph.{Graph}
use Rattle.graph.specs.Valid.{Valid}
use Rattle.rules.specs.Walk.{Linked}
use Rattle.rules.specs.Cover.{Tree, IsTree, Covers, tree_weight}
use Rattle.rules.proofs.Joined.{joined_covers}
use Rattle.distance_laws.proofs.Nearer.{AtMost}
use Rattle.distance_laws.proofs.Bounding.{looser}
use Rattle.distance_laws.proofs.Least.{distance_to, distance_most}
use Rattle.distance_laws.proofs.Within.{LightLink, linked_light}

module _ {g : Graph} {t : Tree} (tree : IsTree g t) where
  -- A tree's edges link its start to what it covers.
  pub covered_linked : {v : ℕ} → Covers g t v → Linked g t.edges t.start v
  covered_linked c = joined_covers tree.joined c

  -- A walk along the tree's edges leads from its start to whatever it covers, and weighs at most the tree.
  pub covered_light : {v : ℕ} → Covers g t v → LightLink g t.edges t.start v
  covered_light c = linked_light (covered_linked c)

  -- The distance from a tree's start to whatever it covers is at most the tree's weight.
  pub covered_near : Valid g → {v : ℕ} → Covers g t v → AtMost (distance_to g t.start v) (tree_weight g t)
  unfolding tree_weight
  covered_near valid c = let w = covered_light c in looser (distance_most valid tree.start_inside w.leads) w.light
