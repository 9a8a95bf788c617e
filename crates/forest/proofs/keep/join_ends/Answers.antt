-- `forest::keep::join_ends` meets its contract: equal labels are joined already, and others are merged. Assumes nothing.
use Prim.Native.Nat.{ℕ, ◌<◌}
use mathlib.Core.Path.{◌≡◌}
use native.Mathlib.Omega.{arith}
use Rattle.graph.specs.Graph.{Graph, one_end, other_end}
use Rattle.graph.specs.Valid.{Valid}
use Rattle.graph.proofs.Ranges.{one_end_below, other_end_below}
use Rattle.forest.proofs.KeptOneByOne.{joined_already, joined_now}
use Rattle.forest.proofs.keep.join_ends.Goals as goal

ends_below : {g : Graph} {u v : ℕ} (e : ℕ) → Valid g → u ≡ one_end g e → v ≡ other_end g e → (u < g.vertices) × (v < g.vertices)
ends_below e valid one other = omega (arith, one_end_below valid e, other_end_below valid e)

pub bounds-label-u : goal.bounds-label-u
bounds-label-u c = omega (arith, ends_below c.args.e c.requires.valid c.one_end-u.ensures.is c.other_end-v.ensures.is)

pub bounds-label-v : goal.bounds-label-v
bounds-label-v c = omega (arith, ends_below c.args.e c.requires.valid c.one_end-u.ensures.is c.other_end-v.ensures.is)

pub returns-then-label-u : goal.returns-then-label-u
returns-then-label-u c = joined_already c.requires.valid c.args.e c.one_end-u.ensures.is c.other_end-v.ensures.is c.args.label.now c.if-label-u.true

pub merge_labels-requires : goal.merge_labels-requires
merge_labels-requires c = omega (arith, ends_below c.args.e c.requires.valid c.one_end-u.ensures.is c.other_end-v.ensures.is)

pub returns : goal.returns
returns c =
    joined_now c.requires.valid c.args.e c.one_end-u.ensures.is c.other_end-v.ensures.is c.args.label.now c.if-label-u.false
    c.vertex_count-n.ensures.is c.merge_labels.ensures
