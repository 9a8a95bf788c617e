-- `filed_entries::entries::entry_right` meets its contract. Assumes nothing.
use mathlib.Core.Path.{sym, ◌∙◌}
use native.Mathlib.Omega.{arith}
use Rattle.filed_entries.proofs.EntryTests.{no_tree_lem, no_edge, rise_decides}
use Rattle.filed_entries.proofs.entries.entry_right.Goals as goal

pub returns-then-trees_in-tree : goal.returns-then-trees_in-tree
returns-then-trees_in-tree c = sym (no_tree_lem c.args.c.now c.args.i c.args.m (omega arith))

pub returns-then-m-edge : goal.returns-then-m-edge
returns-then-m-edge c = sym (no_edge c.args.c.now c.args.i c.args.m (omega arith) (omega arith))

pub returns : goal.returns
returns c = c.entry_rises.ensures ∙ sym (rise_decides c.args.c.now c.args.i c.args.m (omega arith) (omega arith))
