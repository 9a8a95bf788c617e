-- A sum over what is left of a list: that of the next element, and the sum behind it.
-- Assumes nothing.
use Prim.Native.Nat.{ℕ, ◌+◌, ◌<◌}
use mathlib.Core.Path.{◌≡◌}
use mathlib.Core.List.{List}
use lib.ListN.{length, drop, get_or}
use Rattle.lists.specs.Lists.{sum_of}
use Rattle.lists.proofs.NextPlace.{rest_next}

pub sum_next : (f : ℕ → ℕ) (xs : List ℕ) (i : ℕ) → i < length xs → sum_of f (drop i xs) ≡ f (get_or xs i 0) + sum_of f (drop (i + 1) xs)
unfolding sum_of
sum_next f xs i h = rw (rest_next xs i h)
