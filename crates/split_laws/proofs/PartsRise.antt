-- The edges of a part were sorted by number, so that they rise where none stands there twice.
-- Assumes nothing.
use Prim.Native.Nat.{ℕ, ◌≤◌}
use mathlib.Core.Path.{◌≡◌, refl}
use mathlib.Core.List.{List}
use native.Mathlib.Omega.{arith}
use Rattle.lists.specs.Lists.{times}
use Rattle.lists.specs.Member.{◌∈◌}
use Rattle.lists.specs.InOrder.{Rising}
use Rattle.lists.specs.Sort.{rise}
use Rattle.lists.proofs.Sorting.{rise_rising}
use Rattle.lists.proofs.Times.{times_rise, times_once}
use Rattle.graph.specs.Graph.{Graph}
use Rattle.rules.specs.Cover.{Tree}
use Rattle.rules.specs.Grow.{Rooted}
use Rattle.rules.specs.Split.{part_at, split}
use Rattle.split_laws.proofs.Along.{along_edges}
use Rattle.split_laws.proofs.Rules.{Rules, split_holds}

-- The tree's edges were sorted.
abbrev Sorted : Tree → Type 0
Sorted t = (edges : List ℕ) × (t.edges ≡ rise edges)

-- The edges of a sorted list in which each stands at most once rise.
pub sorted_rising : (edges : List ℕ) → ((e : ℕ) → times e (rise edges) ≤ 1) → Rising (rise edges)
sorted_rising edges once = rise_rising (times_once edges (λ e. omega (arith, once e, times_rise e edges)))

part_sorted : (v : ℕ) (edges : List ℕ) → Sorted (part_at v edges)
unfolding part_at
part_sorted v edges = (edges, refl)

module _ (g : Graph) (H : ℕ) where
  sorted_rules : Rules g H (λ u e child. Unit {0}) Sorted (λ v bunch. Unit {0})
  sorted_rules = record {
    empty = λ v. tt;
    alone = λ {v} {e} {child} {below} _ _ _. part_sorted v _;
    full = λ {v} {e} {child} {bunch} {below} _ _ _ _ _. part_sorted v _;
    more = λ _ _ _ _. tt;
  }

  -- A part in which no edge stands twice has rising edges.
  pub part_rising : (t : Rooted) {p : Tree} → p ∈ (split g H t).parts → ((e : ℕ) → times e p.edges ≤ 1) → Rising p.edges
  unfolding split
  part_rising t {p} m once =
      let (edges, q) = (split_holds sorted_rules (along_edges (λ _. Unit {0}) t.root t.branches (λ _ _. tt)) tt).of_parts p m in
      rw q (sorted_rising edges (rw q at once))
