-- Some element of two lists passes a test where one of the first does, or one of the second.
-- Assumes nothing.
use mathlib.Core.Path.{◌≡◌, refl, sym, ap, ◌∙◌}
use mathlib.Core.Bool.{Bool, ◌||◌, or_assoc}
use mathlib.Core.List.{List, [], ◌∷◌, ◌++◌}
use Rattle.lists.specs.Lists.{any}

module _ {A : Type 0} (f : A → Bool) where
  pub any_on : (xs ys : List A) → any f (xs ++ ys) ≡ any f xs || any f ys
  unfolding any
  any_on [] ys = refl
  any_on (x ∷ xs) ys = ap (λ t. f x || t) (any_on xs ys) ∙ sym (or_assoc (f x) (any f xs) (any f ys))
