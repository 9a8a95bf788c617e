-- `admit::vans::put_roots` meets its contract. The loop's invariant: the roots before j are written.
-- Assumes nothing.
use Prim.Native.Nat.{◌+◌}
use mathlib.Core.Path.{◌≡◌, sym, ap, ◌∙◌}
use mathlib.Core.List.{◌∷◌}
use native.Mathlib.Omega.{arith}
use lib.ListN.{get_or, drop}
use Rattle.lists.proofs.NextPlace.{rest_next, rest_none}
use Rattle.lists.proofs.PutOneByOne.{so_far_none, so_far_more, so_far_all}
use Rattle.rules.specs.Questions.{roots_by}
use Rattle.rules.proofs.CrewsRight.{roots_count}
use Rattle.admit.specs.Brought.{lent}
use Rattle.admit.proofs.Roots.{root_is}
use borrow.Author.Rules.{rules}
use Rattle.admit.proofs.vans.put_roots.Goals as goal

pub loop-j-init : goal.loop-j-init
loop-j-init c = record { room = search rules; putting = so_far_none _ 0 (omega arith) }

pub loop-j-preserved : goal.loop-j-preserved
loop-j-preserved c =
    let roots = roots_by c.args.k (lent c.args.vans) in
    let root : get_or roots c.loop-j.j 0 ≡ c.root_at.result = root_is c.args.k (lent c.args.vans) c.loop-j.j (omega arith) ∙ sym c.root_at.ensures.is in
    let next = rest_next roots c.loop-j.j (omega (arith, roots_count c.args.k (lent c.args.vans))) in
    let more = so_far_more c.loop-j.invariant.putting (next ∙ ap (λ x. x ∷ drop (c.loop-j.j + 1) roots) root) (omega arith) in
    record { room = omega (arith, more.same, c.loop-j.invariant.putting.same); putting = more }

pub returns : goal.returns
returns c =
    let vans = lent c.args.vans in
    let roots = roots_by c.args.k vans in
    let none_left = rest_none roots c.loop-j.j (omega (arith, roots_count c.args.k vans)) in
    let all : c.loop-j.j ≡ c.args.k = omega arith in
    rw all at (so_far_all c.loop-j.invariant.putting none_left)
