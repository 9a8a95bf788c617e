-- A segment as code takes it: the elements between the two bounds that were read.
-- Assumes nothing.
use Prim.Native.Nat.{ℕ, ◌+◌, ◌-◌, ◌≤◌}
use mathlib.Core.Path.{◌≡◌, sym, ap₂, ◌∙◌}
use mathlib.Core.List.{List}
use native.Mathlib.Omega.{arith}
use lib.ListN.{length, take, drop, get_or}
use lib.Seq.{slice}
use Rattle.lists.specs.Segments.{segment}
use Rattle.lists.proofs.SegmentSizes.{slice_taken}

pub segment_taken : {A : Type 0} (bounds : List ℕ) (xs : List A) (i : ℕ) {a b : ℕ} → a ≡ get_or bounds i 0 → b ≡ get_or bounds (i + 1) 0
    → get_or bounds i 0 ≤ get_or bounds (i + 1) 0 → get_or bounds (i + 1) 0 ≤ length xs → take (b - a) (drop a xs) ≡ segment bounds xs i
unfolding segment
segment_taken bounds xs i {a} {b} p q forward inside =
    sym (slice_taken a b xs (omega (arith, p, q, forward)) (omega (arith, q, inside))) ∙ ap₂ (λ x y. slice x y xs) p q
