-- `rooted_decide::few_assigned` meets its contract: the parts' words are made into rows of bytes, which decide. Assumes nothing.
use Prim.Native.Nat.{ℕ, ◌*◌, ◌≤◌}
use mathlib.Core.Path.{sym}
use mathlib.Core.List.{List}
use native.Mathlib.Nat.{mul-le-mul_right}
use native.Mathlib.Omega.{arith}
use lib.ListN.{length, replicate, length-replicate}
use lib.Seq.{length-take-le}
use Rattle.graph.specs.Graph.{Graph}
use Rattle.rooted_parts.specs.Near.{PartsNear}
use Rattle.rooted_parts.proofs.RowsNear.{taken, assign_asked, rows_assigned}
use Rattle.rooted_decide.specs.Decide.{FewReady}
use Rattle.rooted_decide.proofs.few_assigned.Goals as goal

-- As many parts as roots, of which there are at most 32: that many rows fit, and all of them together.
module _ {g : Graph} {roots : List ℕ} {limit : ℕ} {distances steps : List ℕ} (ready : FewReady g roots limit distances steps)
    {words : List ℕ} {p : ℕ} (near : PartsNear g roots limit words p) where
  few : p ≤ 32
  few = omega (arith, near.count, ready.few, ready.counted.ready.asked.decidable.given.few)

  small : p * length roots ≤ 1024
  small = omega (arith, mul-le-mul_right (length roots) few, ready.counted.ready.asked.decidable.given.few)

  room : p * length roots ≤ length {A = ℕ} (replicate 1024 0)
  room = omega (arith, small, length-replicate {A = ℕ} 1024 0)

pub slice_bounds-put_rows-end : goal.slice_bounds-put_rows-end
slice_bounds-put_rows-end c = sym (length-take-le c.parts_near-p.result c.parts_near-p.new.parts c.parts_near-p.ensures.near.within)

pub put_rows-requires : goal.put_rows-requires
put_rows-requires c =
    rw (length-take-le c.parts_near-p.result c.parts_near-p.new.parts c.parts_near-p.ensures.near.within) (room c.requires c.parts_near-p.ensures.near)

pub overflow_mul-size : goal.overflow_mul-size
overflow_mul-size c = omega (arith, small c.requires c.parts_near-p.ensures.near)

pub slice_bounds-rows-end : goal.slice_bounds-rows-end
slice_bounds-rows-end c = omega (arith, room c.requires c.parts_near-p.ensures.near)

pub slice_bounds-assign_roots-end : goal.slice_bounds-assign_roots-end
slice_bounds-assign_roots-end c = sym (taken c.parts_near-p.ensures.near c.put_rows.ensures (room c.requires c.parts_near-p.ensures.near))

pub assign_roots-requires : goal.assign_roots-requires
assign_roots-requires c =
    let near : PartsNear c.args.g.now c.args.roots.now c.args.limit c.parts_near-p.new.parts c.parts_near-p.result = c.parts_near-p.ensures.near in
    let most : c.parts_near-p.result ≤ 32 = few c.requires near in
    assign_asked near c.put_rows.ensures (room c.requires near) (omega arith) c.requires.counted.ready.asked.decidable.given.some
    c.requires.counted.ready.asked.decidable.given.few (omega (arith, length-replicate {A = ℕ} 32 0))

pub returns : goal.returns
returns c = (rows_assigned c.parts_near-p.ensures.near c.put_rows.ensures (room c.requires c.parts_near-p.ensures.near) c.assign_roots.ensures).assigned_is
