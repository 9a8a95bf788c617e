-- `filed::parents::parent` meets its contract: an element of the array is a byte. Assumes nothing.
use mathlib.Core.Path.{refl}
use native.Mathlib.Omega.{arith}
use Rattle.filed.proofs.parents.parent.Goals as goal

pub returns : goal.returns
returns c = record { is = refl; small = omega (arith, c.shared_slice_known-1.given c.args.v) }
