-- `refused` meets its contract: the tests are those of the definition, in its order.
-- Assumes nothing.
use Prim.Native.Nat.{ℕ, ◌≤◌, ◌*◌}
use mathlib.Core.Path.{◌≡◌, refl, sym, ap, ◌∙◌}
use mathlib.Core.Bool.{not, ◌||◌}
use mathlib.Core.List.{List, [], ◌∷◌}
use native.Mathlib.Nat.{mul-le-mul}
use native.Mathlib.Omega.{arith}
use lib.Dec.{ltb, eqb}
use lib.ListN.{length}
use borrow.Author.Tests.{lt-ltb, le-ltb, eq-eqb, ne_eqb}
use Rattle.std.specs.List.{list_any}
use Rattle.std.proofs.lemmas.Iterator.{YieldsList-from_slice}
use Rattle.std.proofs.lemmas.Iterator.Search.{any_from_yields_List}
use Rattle.std.proofs.Common.{rules, tests}
use Rattle.lists.specs.Lists.{any}
use Rattle.matching.specs.Input.{above_one, refused_of}
use Rattle.matching.proofs.input.refused.Goals as goal
use Rattle.matching.proofs.input.refused.Goals.{After-any}

-- With p and y in range, what is left to test.
in-range : (p y : ℕ) (bytes : List ℕ) (room : ℕ) → p ≤ 255 → 1 ≤ y → y ≤ 32 → refused_of p y bytes room ≡ (not (eqb (length bytes) (p * y)) || any above_one bytes || ltb room p)
unfolding refused_of
in-range p y bytes room a b d = rw (le-ltb 255 p a, le-ltb y 1 b, le-ltb 32 y d)

-- Some byte is above 1, as the iterator tests it.
any_alike : (bytes : List ℕ) → any above_one bytes ≡ list_any above_one bytes
unfolding any
any_alike [] = refl
any_alike (b ∷ bytes) = ap (λ t. above_one b || t) (any_alike bytes)

above : (c : After-any) → c.any.result ≡ any above_one c.args.bytes.now
above c =
    any_from_yields_List above_one _ _ c.any.result c.any.ensures.ran (YieldsList-from_slice c.args.bytes.now (cc)) (λ x b q k. search (rules, tests))
    ∙ sym (any_alike c.args.bytes.now)

pub returns-then-p-gt255 : goal.returns-then-p-gt255
unfolding refused_of
returns-then-p-gt255 c = rw (lt-ltb 255 _ c.if-p-gt255.true)

pub returns-then-y-lt1 : goal.returns-then-y-lt1
unfolding refused_of
returns-then-y-lt1 c = rw (le-ltb 255 _ c.if-p-gt255.false, lt-ltb _ 1 c.if-y-lt1.true)

pub returns-then-y-gt32 : goal.returns-then-y-gt32
unfolding refused_of
returns-then-y-gt32 c = rw (le-ltb 255 _ c.if-p-gt255.false, le-ltb _ 1 c.if-y-lt1.false, lt-ltb 32 _ c.if-y-gt32.true)

pub overflow_mul-p : goal.overflow_mul-p
overflow_mul-p c = omega (arith, mul-le-mul c.if-p-gt255.false c.if-y-gt32.false)

pub returns-then-bytes-p : goal.returns-then-bytes-p
returns-then-bytes-p c =
    rw (in-range c.args.p c.args.y c.args.bytes.now c.args.room c.if-p-gt255.false c.if-y-lt1.false c.if-y-gt32.false, ne_eqb _ _ c.if-bytes-p.true)

pub returns-then-any : goal.returns-then-any
returns-then-any c =
    rw (in-range c.args.p c.args.y c.args.bytes.now c.args.room c.if-p-gt255.false c.if-y-lt1.false c.if-y-gt32.false, eq-eqb _ _ c.if-bytes-p.false, sym (above (goal.at.returns-then-any c).After-any) ∙ c.if-any.true)

pub returns : goal.returns
returns c =
    rw (in-range c.args.p c.args.y c.args.bytes.now c.args.room c.if-p-gt255.false c.if-y-lt1.false c.if-y-gt32.false, eq-eqb _ _ c.if-bytes-p.false, sym (above (goal.at.returns c).After-any) ∙ c.if-any.false)
