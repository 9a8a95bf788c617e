-- `cover::index::number_at` meets its contract: past the last number there are zeros. Assumes nothing.
use mathlib.Core.Path.{refl, sym}
use native.Mathlib.Omega.{arith}
use lib.ListN.{get_or-eq_default}
use Rattle.cover.proofs.index.number_at.Goals as goal

pub returns-then-xs-i : goal.returns-then-xs-i
returns-then-xs-i c = record { is = sym (get_or-eq_default c.args.xs.now 0 {n = c.args.i} (omega arith)); small = omega arith }

pub returns : goal.returns
returns c = record { is = refl; small = omega (arith, c.shared_slice_known-1.given c.args.i) }
