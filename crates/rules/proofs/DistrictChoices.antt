-- The choices made in the starred rows are such as document 01 allows: the set of two parts at limit 3 and the assignment at limit 4.
-- The other rooted rows have no part, so that there is nothing to choose.
-- Assumes nothing.
use Prim.Native.Nat.{ℕ, zero, suc, ◌<◌}
use mathlib.Core.Path.{◌≡◌, refl}
use mathlib.Core.Bool.{true, true≢false, false≢true}
use mathlib.Core.List.Memᴰ
use mathlib.Core.List.{[], ◌∷◌}
use native.Mathlib.Omega.{arith}
use lib.ListN.{get_or}
use lib.Dec.{lit<}
use Rattle.lists.specs.InOrder.{none, next}
use Rattle.graph.specs.Bytes.{graph_of}
use Rattle.rules.specs.Walk.{stay}
use Rattle.rules.specs.ClosedWalk.{stops_from}
use Rattle.rules.specs.Distance.{IsShortestPath}
use Rattle.rules.specs.RootedTrial.{GoodChoices, part_of, rooted_parts, may_go}
use Rattle.rules.specs.Districts.{N, answer, set, assigned}

-- Limit 3: both parts are in the set, and one root is within 3 of either.
pub set_is_good : GoodChoices (graph_of N []) (0 ∷ 1 ∷ []) 3 (set (1 ∷ 1 ∷ []))
unfolding answer N set
set_is_good =
    record {
      assigned = λ t. absurd (false≢true t);
      shortest = λ t. absurd (false≢true t);
      deficient = λ t. record { each = refl; mark = mark; fewer = lit< tt };
    }
  where
    mark : (i : ℕ) → i < 2 → get_or (1 ∷ 1 ∷ []) i 0 < 2
    mark zero h = lit< tt
    mark (suc zero) h = lit< tt
    mark (suc (suc i)) h = omega arith

-- Limit 4: the one part starts at root 0, so that the path to it has no edge.
pub assignment_is_good : GoodChoices (graph_of N []) (0 ∷ 1 ∷ []) 4 (assigned (0 ∷ []))
unfolding answer N assigned stops_from
assignment_is_good =
    record {
      assigned = λ t. record { each = refl; is_root = is_root; may = may; apart = λ i j p q e. omega arith };
      shortest = λ t. shortest;
      deficient = λ t. absurd (true≢false t);
    }
  where
    is_root : (i : ℕ) → i < 1 → get_or (0 ∷ []) i 0 < 2
    is_root zero h = lit< tt
    is_root (suc i) h = omega arith

    may : (i : ℕ) → i < 1 → may_go (graph_of N []) (0 ∷ 1 ∷ []) 4 i (get_or (0 ∷ []) i 0) ≡ true
    may zero h = refl
    may (suc i) h = absurd (omega arith)

    shortest : (i : ℕ) → i < 1 → IsShortestPath (graph_of N []) (get_or (0 ∷ 1 ∷ []) (get_or (0 ∷ []) i 0) 0) (part_of (rooted_parts (graph_of N []) (0 ∷ 1 ∷ []) 4) i) (get_or [] i [])
    shortest zero h =
        record {
          inside = λ e m. absurd (Memᴰ.not-nil m);
          end = 0;
          in_part_lem = Memᴰ.head refl;
          leads = stay refl;
          once = next (λ v m. absurd (Memᴰ.not-nil m)) none;
          shortest = λ v other m w. omega arith;
        }
    shortest (suc i) h = absurd (omega arith)
