-- `bunches::piece::copy_edges` meets its contract. The loop's invariant: the edges before i are put. Assumes nothing.
use Prim.Native.Nat.{ℕ, ◌+◌}
use mathlib.Core.Path.{◌≡◌}
use mathlib.Core.List.{[], ◌∷◌, ◌++◌}
use native.Mathlib.Omega.{arith}
use lib.ListN.{get_or, set, take}
use lib.Seq.{take_all}
use Rattle.lists.specs.Put.{PutTo}
use Rattle.lists.proofs.Put.{put_none, put_more, put_length}
use Rattle.lists.proofs.TakeDrop.{take_more}
use Rattle.bunches.proofs.piece.copy_edges.Goals as goal

pub loop-i-init : goal.loop-i-init
loop-i-init c = record { put = put_none c.args.members.now c.args.used (omega arith); behind = omega arith }

pub loop-i-preserved : goal.loop-i-preserved
loop-i-preserved c =
    let i : ℕ = c.loop-i.i in
    let x : ℕ = get_or c.args.edges.now i 0 in
    let front : take (i + 1) c.args.edges.now ≡ take i c.args.edges.now ++ (x ∷ []) = take_more 0 c.args.edges.now i (omega arith) in
    let more : PutTo c.args.used (take i c.args.edges.now ++ (x ∷ [])) c.args.members.now (set c.loop-i.members (c.args.used + i) x) (c.args.used + i + 1) =
    put_more x c.loop-i.invariant (omega (arith, put_length c.loop-i.invariant.put)) in
    rw front (record { put = more.put; behind = omega (arith, more.behind) })

pub returns : goal.returns
returns c = rw (take_all c.loop-i.i c.args.edges.now (omega arith)) at c.loop-i.invariant.put
