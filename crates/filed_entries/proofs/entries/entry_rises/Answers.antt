-- `filed_entries::entries::entry_rises` meets its contract. Assumes nothing.
use mathlib.Core.Path.{sym, ap₂, ◌∙◌}
use native.Mathlib.Omega.{arith}
use lib.Dec.{ltb}
use Rattle.filed_entries.proofs.EntryTests.{first_rises, tree_rises, tree_falls, edge_decides}
use Rattle.filed_entries.proofs.entries.entry_rises.Goals as goal

pub returns-then-i-eq0 : goal.returns-then-i-eq0
returns-then-i-eq0 c = sym (first_rises c.args.c.now c.args.i c.if-i-eq0.true)

pub returns-then-before-tree : goal.returns-then-before-tree
returns-then-before-tree c = sym (tree_rises c.args.c.now c.args.i (omega arith))

pub returns-then-before-tree-2 : goal.returns-then-before-tree-2
returns-then-before-tree-2 c = sym (tree_falls c.args.c.now c.args.i (omega arith) (omega arith) (omega arith))

pub returns : goal.returns
returns c = ap₂ ltb c.entry_edge.ensures.is c.requires.1 ∙ sym (edge_decides c.args.c.now c.args.i (omega arith) (omega arith))
