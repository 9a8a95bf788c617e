-- `split::split_forest` meets its contract: the first n of 256 zeros are no marks, and a stack of n places.
-- Assumes nothing.
use Prim.Native.Nat.{ℕ}
use mathlib.Core.Path.{◌≡◌, refl, sym}
use mathlib.Core.List.{List}
use lib.ListN.{take, replicate}
use Rattle.split.specs.ForestSplit.{Lent, Splittable, Unwalked, ForestSplit}
use Rattle.split.proofs.NoMarks.{zeros_count, zeros_front}
use Rattle.split.proofs.split_forest.Goals as goal

-- The zeros are no marks, and a stack with a place for each vertex.
no-marks : {n : ℕ} {bounds arcs roots : List ℕ} {a : Lent} → Splittable n bounds arcs roots a
    → Unwalked bounds arcs roots (take n (replicate 256 0)) (take n (replicate 256 0)) a
no-marks {n} s =
    let q = zeros_count n s.around.few in
    record {
      splittable = rw q s;
      marks_length = refl;
      none_marked = λ v l. zeros_front 256 n v;
    }

-- What is promised of as many vertices is promised of n.
split-of : {m n : ℕ} {bounds arcs roots : List ℕ} {H : ℕ} {a z : Lent} {r : ℕ} → m ≡ n → ForestSplit m bounds arcs roots H a z r → ForestSplit n bounds arcs roots H a z r
split-of {m} {n} same x = let q : m ≡ n = same in rw q at x

pub slice_bounds-split_roots-end : goal.slice_bounds-split_roots-end
slice_bounds-split_roots-end c = sym (zeros_count c.args.n c.requires.around.few)

pub slice_bounds-split_roots-end-2 : goal.slice_bounds-split_roots-end-2
slice_bounds-split_roots-end-2 c = sym (zeros_count c.args.n c.requires.around.few)

pub split_roots-requires : goal.split_roots-requires
split_roots-requires c = no-marks c.requires

pub returns : goal.returns
returns c = split-of (zeros_count c.args.n c.requires.around.few) c.split_roots.ensures.split
