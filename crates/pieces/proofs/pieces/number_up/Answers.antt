-- `pieces::pieces::number_up` meets its contract: the numbers below k are those from 0 up to k. Assumes nothing.
use Prim.Native.Nat.{◌-◌}
use mathlib.Core.Path.{◌≡◌}
use native.Mathlib.Omega.{arith}
use Rattle.lists.proofs.NextPlace.{numbers_all}
use Rattle.lists.proofs.Put.{put_count}
use Rattle.lists.proofs.Runs.{length_from}
use Rattle.pieces.proofs.pieces.number_up.Goals as goal

pub returns : goal.returns
returns c =
    let all : c.put_run.result ≡ c.args.k = omega (arith, put_count c.put_run.ensures, length_from 0 (c.args.k - 0)) in
    rw all at (rw (← numbers_all c.args.k) at c.put_run.ensures)
