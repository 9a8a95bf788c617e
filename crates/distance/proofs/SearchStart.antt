-- The start of a search.
-- Assumes nothing.
use Prim.Native.Nat.{ℕ, ◌<◌}
use mathlib.Core.Path.{◌≡◌, ap, ◌∙◌}
use mathlib.Core.List.{List, ◌++◌}
use native.Mathlib.Omega.{arith}
use lib.ListN.{length, get_or, set, take, drop, replicate, length-append, length-replicate, get_or-append, get_or-replicate}
use lib.Seq.{get_or-set_same, get_or-set_other, length-take-le}
use Rattle.lists.proofs.OnlyFirst.{only_first_store, only_front}
use Rattle.distance.specs.Shortest.{unreached}
use Rattle.distance.specs.Start.{Startable, Started}

-- The first n vertices are not reached, then the root is.
module _ {n root : ℕ} {dist : List ℕ} (s : Startable n root dist) {first : List ℕ} (is : first ≡ replicate (length (take n dist)) unreached) where
  count : length (take n dist) ≡ n
  count = length-take-le n dist s.dist_room

  size : length first ≡ n
  size = ap length is ∙ length-replicate (length (take n dist)) unreached ∙ count

  far : (x : ℕ) → x < n → get_or (first ++ drop n dist) x 0 ≡ unreached
  far x h =
      get_or-append first (drop n dist) 0 x (omega (arith, size))
      ∙ ap (λ (l : List ℕ). get_or l x 0) is
      ∙ get_or-replicate (length (take n dist)) x unreached 0 (omega (arith, count))

  pub started : Started n root dist (set (first ++ drop n dist) root 0)
  started =
      record {
        root_zero = get_or-set_same (first ++ drop n dist) root 0 0 (omega (arith, length-append first (drop n dist), size, s.root_inside));
        others = λ x h away. get_or-set_other (first ++ drop n dist) root x 0 0 away ∙ far x h;
        rest = only_first_store (only_front n first dist size s.dist_room) root 0 s.root_inside;
      }
