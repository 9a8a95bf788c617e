-- `planner_c::said::question_of` meets its contract: each bit says whether its list is brought. Assumes nothing.
use Prim.Native.Nat.{◌/◌, ◌%◌}
use lib.Dec.{eqb}
use Rattle.planner_c.proofs.Values.{lent_brought}
use Rattle.planner_c.proofs.said.question_of.Goals as goal

pub returns : goal.returns
returns c =
    rw (
      c.with_lists.ensures,
      c.new-plain.ensures,
      c.kind_of.ensures,
      c.then_some-surfaces.ensures,
      c.then_some-starts.ensures,
      lent_brought (eqb (c.args.brought % 2) 1) c.args.classes,
      lent_brought (eqb (c.args.brought / 2 % 2) 1) c.args.vans,
    )
