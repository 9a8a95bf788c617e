-- A field that begins past the last byte is 0.
-- Assumes nothing.
use Prim.Native.Nat.{ℕ, ◌+◌, ◌≤◌}
use mathlib.Core.Path.{◌≡◌}
use mathlib.Core.List.{List}
use native.Mathlib.Omega.{arith}
use lib.ListN.{length, get_or, get_or-eq_default}
use Rattle.graph.specs.Bytes.{u16_at, u32_at}

module _ (b : List ℕ) where
  pub byte_past : (at : ℕ) → length b ≤ at → get_or b at 0 ≡ 0
  byte_past at h = get_or-eq_default b 0 h

  pub u16_past : (at : ℕ) → length b ≤ at → u16_at b at ≡ 0
  unfolding u16_at
  u16_past at h = omega (arith, byte_past at h, byte_past (at + 1) (omega arith))

  pub u32_past : (at : ℕ) → length b ≤ at → u32_at b at ≡ 0
  unfolding u32_at
  u32_past at h = omega (arith, u16_past at h, u16_past (at + 2) (omega arith))
