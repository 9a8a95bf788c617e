-- Whether bytes are as they came, one by one.
-- Assumes nothing.
use Prim.Native.Nat.{ℕ}
use mathlib.Core.Path.{◌≡◌, refl, ap}
use mathlib.Core.Bool.{◌&&◌}
use mathlib.Core.List.{List, [], ◌∷◌}
use lib.Dec.{eqb}
use Rattle.std.specs.List.{list_all}
use Rattle.gate_replies.specs.Full.{untouched}

pub all_untouched : (xs : List ℕ) → list_all (λ x. eqb x 165) xs ≡ untouched xs
unfolding untouched
all_untouched [] = refl
all_untouched (x ∷ xs) = ap (λ t. eqb x 165 && t) (all_untouched xs)
