-- `asking::ask::ask_crews` meets its contract: the roots are those of the list of vans, or 0 to k - 1, or there are none. Assumes nothing.
use Prim.Native.Nat.{◌≤◌}
use mathlib.Core.Path.{◌≡◌, sym, ap, ap₂, ◌∙◌}
use native.Mathlib.Omega.{arith}
use lib.ListN.{length, take}
use Rattle.lists.proofs.Put.{put_count, put_taken}
use Rattle.rules.specs.Cover.{unrooted}
use Rattle.rules.specs.Questions.{Question, roots_by}
use Rattle.admit.specs.Brought.{lent}
use Rattle.asking.proofs.Answering.{few_crews, rooted_asked, unrooted_asked, rooted_crews, unrooted_crews, answered_as}
use Rattle.asking.proofs.ask.ask_crews.Goals as goal

pub put_roots-requires : goal.put_roots-requires
put_roots-requires c =
    let few : c.args.question.now.k ≤ 32 = few_crews c.args.question.now c.requires in
    record { few = omega (arith, few, c.k-k.ensures); fits = omega (arith, few, c.k-k.ensures) }

pub slice_bounds-ask_rooted-end : goal.slice_bounds-ask_rooted-end
slice_bounds-ask_rooted-end c =
    let roots_are : take c.k-k.result c.put_roots.new.out ≡ roots_by c.k-k.result (lent c.vans.result) = put_taken c.put_roots.ensures in
    put_count c.put_roots.ensures ∙ sym (ap length roots_are)

pub ask_rooted-requires : goal.ask_rooted-requires
ask_rooted-requires c =
    let q : Question = c.args.question.now in
    let roots_are : take c.k-k.result c.put_roots.new.out ≡ roots_by c.k-k.result (lent c.vans.result) = put_taken c.put_roots.ensures in
    rw c.graph-g.ensures (rooted_asked c.requires (rooted_crews q c.kind.ensures c.in-Rooted.is (roots_are ∙ ap₂ roots_by c.k-k.ensures c.vans.ensures)))

pub ask_unrooted-requires : goal.ask_unrooted-requires
ask_unrooted-requires c =
    let q : Question = c.args.question.now in
    rw (c.graph-g.ensures, c.k-k.ensures) (unrooted_asked c.requires (unrooted_crews q c.kind.ensures c.in-Unrooted.is))

pub returns-in-Rooted : goal.returns-in-Rooted
returns-in-Rooted c =
    let q : Question = c.args.question.now in
    let roots_are : take c.k-k.result c.put_roots.new.out ≡ roots_by c.k-k.result (lent c.vans.result) = put_taken c.put_roots.ensures in
    answered_as c.graph-g.ensures (rooted_crews q c.kind.ensures c.in-Rooted.is (roots_are ∙ ap₂ roots_by c.k-k.ensures c.vans.ensures)) c.ask_rooted.ensures

pub returns-in-Unrooted : goal.returns-in-Unrooted
returns-in-Unrooted c =
    let q : Question = c.args.question.now in
    answered_as c.graph-g.ensures (unrooted_crews q c.kind.ensures c.in-Unrooted.is ∙ ap unrooted (sym c.k-k.ensures)) c.ask_unrooted.ensures
