-- A list put into an array at a place, with everything else as it came: what every function that writes to a lent array promises.
-- Assumes nothing.
use Rattle.std.specs.Prelude.{ℕ, ◌+◌, ◌≤◌, ◌≡◌, List, ◌++◌, length, take, drop}

module _ {A : Type 0} where
  -- The array has what stood before the place, then the list, then what stood behind the list.
  pub record Put (at : ℕ) (xs before after : List A) : Type 0 where
    pub room : at + length xs ≤ length before
    pub is : after ≡ take at before ++ (xs ++ drop (at + length xs) before)

  -- The same, where r is the place behind the list. Put at the front, r is how many elements were written.
  pub record PutTo (at : ℕ) (xs before after : List A) (r : ℕ) : Type 0 where
    pub put : Put at xs before after
    pub behind : r ≡ at + length xs

  -- Whatever the first n elements are now, all others are as they came.
  pub record OnlyFirst (n : ℕ) (before after : List A) : Type 0 where
    pub put : Put 0 (take n after) before after
