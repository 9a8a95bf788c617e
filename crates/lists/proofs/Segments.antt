-- Segments by bounds: one more bound adds one more segment and keeps the others.
-- Assumes nothing.
use Prim.Native.Nat.{ℕ, ◌+◌, ◌≤◌, ◌<◌}
use mathlib.Core.Path.{◌≡◌}
use mathlib.Core.List.{List}
use mathlib.Core.Logic.{dite}
use native.Mathlib.Decide.{ℕ_discrete}
use native.Mathlib.Omega.{arith}
use lib.ListN.{length, take, get_or, set}
use lib.Seq.{slice, get_or-set_same, get_or-set_other}
use Rattle.lists.proofs.Slices.{slice_same}
use Rattle.lists.specs.Segments.{segment, Bounded}

module _ {bounds : List ℕ} {k used : ℕ} (b : Bounded bounds k used) (last : ℕ) where
  -- the bound of a number that was there is as it was
  bound_kept : (i : ℕ) → i ≤ k → get_or (set bounds (k + 1) last) i 0 ≡ get_or bounds i 0
  bound_kept i h = get_or-set_other bounds (k + 1) i last 0 (omega arith)

  -- a segment that was there is as it was
  pub segment_kept : {A : Type 0} (xs ys : List A) → take used ys ≡ take used xs → (i : ℕ) → i < k
      → segment (set bounds (k + 1) last) ys i ≡ segment bounds xs i
  unfolding segment
  segment_kept xs ys q i h =
      rw (bound_kept i (omega arith), bound_kept (i + 1) (omega arith))
      (slice_same (get_or bounds i 0) (get_or bounds (i + 1) 0) used ys xs (b.within (i + 1) (omega arith)) q)

  module _ (room : k + 1 < length bounds) where
    -- the new segment
    pub segment_new : {A : Type 0} (ys : List A) → segment (set bounds (k + 1) last) ys k ≡ slice used last ys
    unfolding segment
    segment_new ys = rw (bound_kept k (omega arith), get_or-set_same bounds (k + 1) last 0 room, b.last)

    -- the bounds are those of one segment more
    pub bounded_more : used ≤ last → Bounded (set bounds (k + 1) last) (k + 1) last
    bounded_more h =
        record {
          last = get_or-set_same bounds (k + 1) last 0 room;
          within =
              λ i l.
              dite (ℕ_discrete i (k + 1))
              (λ e. rw e (omega (arith, get_or-set_same bounds (k + 1) last 0 room)))
              (λ e. omega (arith, bound_kept i (omega arith), b.within i (omega arith)));
          rising =
              λ i l.
              dite (ℕ_discrete i k)
              (λ e. rw e (omega (arith, bound_kept k (omega arith), b.last, get_or-set_same bounds (k + 1) last 0 room)))
              (λ e. omega (arith, bound_kept i (omega arith), bound_kept (i + 1) (omega arith), b.rising i (omega arith)));
        }
