-- `closed_walk::walk::walk_checked` meets its contract: 51, then 52, then the walk. Assumes nothing.
use Prim.Native.Nat.{◌<◌}
use native.Mathlib.Omega.{arith}
use Rattle.rules.specs.CoverBytes.{trees_in}
use Rattle.closed_walk.proofs.Promised.{no_such_tree, little_room, tree_asked, tree_answered}
use Rattle.closed_walk.proofs.walk.walk_checked.Goals as goal

pub returns-then-trees_in-tree : goal.returns-then-trees_in-tree
returns-then-trees_in-tree c = no_such_tree _ _ _ _ (omega (arith, c.trees_in.ensures.is))

pub returns-then-buf-lt-LEAST_WALK_ROOM : goal.returns-then-buf-lt-LEAST_WALK_ROOM
returns-then-buf-lt-LEAST_WALK_ROOM c = little_room _ _ _ _ (omega (arith, c.trees_in.ensures.is)) (omega arith)

pub walk_tree-requires : goal.walk_tree-requires
walk_tree-requires c =
    let there : c.args.tree < trees_in c.args.c.now = omega (arith, c.trees_in.ensures.is) in
    tree_asked _ _ _ c.args.buf.now there (omega arith) c.requires

pub returns : goal.returns
returns c =
    let there : c.args.tree < trees_in c.args.c.now = omega (arith, c.trees_in.ensures.is) in
    tree_answered _ _ _ _ there (omega arith) c.walk_tree.ensures
