-- `needs::history::note_merge` meets its contract. Assumes nothing.
use mathlib.Core.Path.{◌≡◌, refl, ap₂}
use native.Mathlib.Omega.{arith}
use lib.ListN.{get_or, set, length-set}
use Prim.Native.Nat.{◌+◌}
use Rattle.needs.proofs.history.note_merge.Goals as goal

pub overflow_add-total : goal.overflow_add-total
overflow_add-total c =
    let one_is : c.wide-one.result ≡ get_or c.args.made.now c.args.a 0 = c.wide-one.ensures.is in
    let other_is : c.wide-other.result ≡ get_or c.args.made.now c.args.c 0 = c.wide-other.ensures.is in
    let sums_are : get_or c.args.total.now c.wide-one.result 0 + get_or c.args.total.now c.wide-other.result 0
    ≡ get_or c.args.total.now (get_or c.args.made.now c.args.a 0) 0 + get_or c.args.total.now (get_or c.args.made.now c.args.c 0) 0 = ap₂ (λ x y. get_or c.args.total.now x 0 + get_or c.args.total.now y 0) one_is other_is in
    omega (arith, one_is, other_is, sums_are, c.requires.fits)

pub overflow_add-total-2 : goal.overflow_add-total-2
overflow_add-total-2 c =
    let one_is : c.wide-one.result ≡ get_or c.args.made.now c.args.a 0 = c.wide-one.ensures.is in
    let other_is : c.wide-other.result ≡ get_or c.args.made.now c.args.c 0 = c.wide-other.ensures.is in
    let sums_are : get_or c.args.total.now c.wide-one.result 0 + get_or c.args.total.now c.wide-other.result 0
    ≡ get_or c.args.total.now (get_or c.args.made.now c.args.a 0) 0 + get_or c.args.total.now (get_or c.args.made.now c.args.c 0) 0 = ap₂ (λ x y. get_or c.args.total.now x 0 + get_or c.args.total.now y 0) one_is other_is in
    omega (arith, one_is, other_is, sums_are, c.requires.fits)

pub bounds-until-other : goal.bounds-until-other
bounds-until-other c =
    let other_is : c.wide-other.result ≡ get_or c.args.made.now c.args.c 0 = c.wide-other.ensures.is in
    omega (arith, other_is, length-set c.args.until.now c.wide-one.result c.args.number, c.requires.other_before, c.requires.until_room)

pub returns : goal.returns
returns c =
    let one_is : c.wide-one.result ≡ get_or c.args.made.now c.args.a 0 = c.wide-one.ensures.is in
    let other_is : c.wide-other.result ≡ get_or c.args.made.now c.args.c 0 = c.wide-other.ensures.is in
    record {
      made_is = refl;
      total_is =
          ap₂ (λ x y. set c.args.total.now c.args.number (c.args.weight + (get_or c.args.total.now x 0 + get_or c.args.total.now y 0))) one_is other_is;
      until_is = ap₂ (λ x y. set (set (set c.args.until.now x c.args.number) y c.args.number) c.args.number 256) one_is other_is;
    }
