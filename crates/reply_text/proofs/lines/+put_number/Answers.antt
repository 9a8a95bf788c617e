-- `put_number` meets its contract: the digits of the number's tenth, and the last digit behind them.
-- Assumes nothing.
use Rattle.std.proofs.Common.{ℕ, ◌+◌, ◌/◌, ◌<◌, ◌≤◌, List, length, arith}
use Rattle.lists.specs.Put.{PutTo}
use Rattle.lists.proofs.Put.{put_length}
use Rattle.reply_text.specs.Lines.{digits}
use Rattle.reply_text.proofs.Putting.{last_room, more_room, last_put, more_put}
use Rattle.reply_text.proofs.lines.+put_number.Goals as goal

-- There is a place for the last digit behind those of the tenth.
behind_tenth : {at next : ℕ} {before now : List ℕ} (x : ℕ) → 10 ≤ x → at + length (digits x) ≤ length before
    → PutTo at (digits (x / 10)) before now next → next < length now
behind_tenth {at} x ten room p = omega (arith, p.behind, put_length p.put, more_room x at ten room)

pub bounds-out-at : goal.bounds-out-at
bounds-out-at t c = omega (arith, last_room c.args.x c.args.at c.if-x-lt10.true c.requires)

pub returns-then-x-lt10 : goal.returns-then-x-lt10
returns-then-x-lt10 t c = last_put c.args.x c.args.at c.args.out.now c.if-x-lt10.true c.requires

pub put_number-next-requires : goal.put_number-next-requires
put_number-next-requires t c = (omega arith, omega (arith, more_room c.args.x c.args.at c.if-x-lt10.false c.requires))

pub bounds-out-next : goal.bounds-out-next
bounds-out-next t c = behind_tenth c.args.x c.if-x-lt10.false c.requires c.put_number-next.ensures

pub returns : goal.returns
returns t c = more_put c.args.x c.if-x-lt10.false c.requires c.put_number-next.ensures
