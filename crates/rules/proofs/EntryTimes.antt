-- How often an edge stands in trees is the sum of how often it stands in each.
-- Assumes nothing.
use Prim.Native.Nat.{ℕ}
use mathlib.Core.Path.{◌≡◌}
use mathlib.Core.List.{List}
use Rattle.lists.specs.Lists.{sum_of, times}
use Rattle.lists.proofs.Times.{times_flat}
use Rattle.rules.specs.Cover.{Tree}
use Rattle.rules.specs.CoverBytes.{entry_edges}

pub entry_times : (e : ℕ) (trees : List Tree) → times e (entry_edges trees) ≡ sum_of (λ (t : Tree). times e t.edges) trees
unfolding entry_edges
entry_times e trees = times_flat e (λ (t : Tree). t.edges) trees
