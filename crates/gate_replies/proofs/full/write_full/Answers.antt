-- `gate_replies::full::write_full` meets its contract: the buffer in two, what the reply wrote and the rest.
-- Assumes nothing.
use Prim.Native.Nat.{ℕ, ◌+◌, ◌-◌, ◌≤◌}
use mathlib.Core.Path.{◌≡◌, sym, subst}
use mathlib.Core.List.{List}
use native.Mathlib.Omega.{arith}
use lib.ListN.{length, take, drop, length-take, length-drop}
use lib.Seq.{length-take-le, take_all}
use Rattle.lists.specs.Put.{PutTo}
use Rattle.replies.specs.declared.Reply.{Reply}
use Rattle.replies.specs.Replies.{says}
use Rattle.gate_replies.specs.Full.{front_length, full_of, full_reply}
use Rattle.gate_replies.proofs.FullReplies.{front_within}
use Rattle.gate_replies.proofs.full.write_full.Goals as goal

-- There is room for the front, and for what is made of it.
front-room : (end : ℕ) (buf : List ℕ) {n : ℕ} → 33 + length buf ≤ n → 33 + length (take end buf) ≤ n
front-room end buf room = rw length-take (omega arith)

-- The buffer in two is the whole buffer.
full_put : (reply : Reply) (buf : List ℕ) {before after : List ℕ} {r end : ℕ} → end ≡ front_length reply buf
    → PutTo 0 (full_of (says reply) (take end buf) (take (length buf - end) (drop end buf))) before after r → PutTo 0 (full_reply reply buf) before after r
unfolding full_reply
full_put reply buf {before} {after} {r} {end} q p =
    let rest : take (length buf - end) (drop end buf) ≡ drop end buf = take_all (length buf - end) (drop end buf) (rw length-drop (omega arith)) in
    subst (λ n. PutTo 0 (full_of (says reply) (take n buf) (drop n buf)) before after r) q (rw rest at p)

pub slice_bounds-write_front-end : goal.slice_bounds-write_front-end
slice_bounds-write_front-end c =
    let within : c.front_length-end.result ≤ length c.args.buf.now = omega (arith, c.front_length-end.ensures, front_within c.args.reply c.args.buf.now) in
    sym (length-take-le _ _ within)

pub slice_bounds-write_front-count : goal.slice_bounds-write_front-count
slice_bounds-write_front-count c =
    let within : c.front_length-end.result ≤ length c.args.buf.now = omega (arith, c.front_length-end.ensures, front_within c.args.reply c.args.buf.now) in
    within

pub write_front-requires : goal.write_front-requires
write_front-requires c = front-room c.front_length-end.result c.args.buf.now c.requires

pub returns : goal.returns
returns c = full_put c.args.reply c.args.buf.now c.front_length-end.ensures c.write_front.ensures
