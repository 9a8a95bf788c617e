-- `near::vertices::first_bits` meets its contract: nothing is shifted out, and what is left fits 32 bits. Assumes nothing.
use Prim.Native.Nat.{◌*◌, ◌-◌, ◌%◌, ◌^◌, ◌≤◌}
use mathlib.Core.Path.{◌≡◌, ap, ◌∙◌}
use native.Mathlib.Nat.{one-mul, pow-le-pow_right}
use native.Mathlib.Omega.{arith}
use lib.Pow.{pow_pos, shl_exact}
use Rattle.near.proofs.vertices.first_bits.Goals as goal

pub overflow_sub-result : goal.overflow_sub-result
overflow_sub-result c =
    let power_is : 1 * 2 ^ c.args.r % 2 ^ 64 ≡ 2 ^ c.args.r = shl_exact 1 c.args.r 64 (omega arith) (omega (arith, c.requires)) ∙ one-mul _ in
    omega (arith, power_is, pow_pos c.args.r)

pub overflow_cast-result : goal.overflow_cast-result
overflow_cast-result c =
    let power_is : 1 * 2 ^ c.args.r % 2 ^ 64 ≡ 2 ^ c.args.r = shl_exact 1 c.args.r 64 (omega arith) (omega (arith, c.requires)) ∙ one-mul _ in
    let most : 2 ^ c.args.r ≤ 2 ^ 32 = pow-le-pow_right (omega arith) c.requires in
    omega (arith, power_is, most, pow_pos c.args.r)

pub returns : goal.returns
returns c =
    let power_is : 1 * 2 ^ c.args.r % 2 ^ 64 ≡ 2 ^ c.args.r = shl_exact 1 c.args.r 64 (omega arith) (omega (arith, c.requires)) ∙ one-mul _ in
    ap (λ p. p - 1) power_is
