-- `asking::ask_rooted::is_small` meets its contract: each count is held to its bound. Assumes nothing.
use native.Mathlib.Omega.{arith}
use Rattle.asking.proofs.Rooms.{told_small, told_large}
use Rattle.asking.proofs.ask_rooted.is_small.Goals as goal

pub returns-then-vertex_count-gt64 : goal.returns-then-vertex_count-gt64
returns-then-vertex_count-gt64 c = told_large

pub returns-then-edge_count-gt512 : goal.returns-then-edge_count-gt512
returns-then-edge_count-gt512 c = told_large

pub returns : goal.returns
returns c = told_small c.args.k (omega (arith, c.vertex_count.ensures.is, c.if-vertex_count-gt64.false)) (omega (arith, c.edge_count.ensures.is, c.if-edge_count-gt512.false))
