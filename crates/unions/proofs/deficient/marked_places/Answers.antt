-- `unions::deficient::marked_places` meets its contract. The loop's invariant: the places of the marked parts before i are written.
-- Assumes nothing.
use Prim.Native.Nat.{ℕ, ◌+◌}
use mathlib.Core.Path.{◌≡◌, sym, ap, ◌∙◌}
use mathlib.Core.Bool.{Bool}
use mathlib.Core.List.{List, ◌∷◌, map}
use native.Mathlib.Omega.{arith}
use lib.ListN.{length, get_or, length-map}
use Rattle.lists.specs.Count.{below}
use Rattle.lists.specs.Lists.{filter}
use Rattle.lists.proofs.Chosen.{chosen_count}
use Rattle.lists.proofs.NextPlace.{below_from, numbers_all, numbers_next, numbers_none, filter_taken, filter_passed}
use Rattle.lists.proofs.Put.{put_count}
use Rattle.lists.proofs.PutOneByOne.{so_far_same, so_far_more, so_far_all}
use Rattle.matching.specs.Assignment.{marked}
use Rattle.unions.proofs.deficient.marked_places.Goals as goal
use Rattle.unions.proofs.deficient.marked_places.Goals.{then-is_marked, else-is_marked}

pub loop-i-preserved : goal.loop-i-preserved
loop-i-preserved c =
    let test : ℕ → Bool = marked c.args.marks.now in
    let places : List ℕ = c.args.places.now in
    let here : below_from (length places) c.loop-i.i ≡ c.loop-i.i ∷ below_from (length places) (c.loop-i.i + 1) = numbers_next (length places) c.loop-i.i c.loop-i-test.true in
    let at : ℕ → ℕ = λ i. get_or places i 0 in
    elim c.if-is_marked.branch [
      | then-is_marked w ↦
          let more = filter_taken test here (sym c.is_marked.ensures ∙ w.if-is_marked.true) in
          rw (w.out-is, w.r-is) (record { few = omega arith; within = omega arith; putting = so_far_more c.loop-i.invariant.putting (ap (map at) more) (omega arith) })
      | else-is_marked w ↦
          let same = filter_passed test here (sym c.is_marked.ensures ∙ w.if-is_marked.false) in
          rw (w.out-is, w.r-is) (record { few = omega arith; within = omega arith; putting = so_far_same c.loop-i.invariant.putting (ap (map at) same) })
    ]

pub returns : goal.returns
unfolding filter
returns c =
    let places : List ℕ = c.args.places.now in
    let at : ℕ → ℕ = λ i. get_or places i 0 in
    let test : ℕ → Bool = marked c.args.marks.now in
    let p = length places in
    let none = ap (λ x. map at (filter test x)) (numbers_none p c.loop-i.i c.loop-i-test.false) in
    let all = rw (← numbers_all p) at (so_far_all c.loop-i.invariant.putting none) in
    record {
      places_are = all;
      count = put_count all ∙ length-map (filter test (below p)) at ∙ chosen_count test p;
    }
