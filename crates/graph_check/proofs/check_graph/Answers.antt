-- `graph_check::check_graph` meets its contract: at each return the tests that led there say what the definition gives.
-- Assumes nothing.
use Prim.Native.Nat.{ℕ}
use mathlib.Core.Path.{ap, ◌∙◌}
use mathlib.Core.List.{List}
use native.Mathlib.Omega.{arith}
use Rattle.graph.proofs.Surfaced.{plain_graph}
use Rattle.graph_check.specs.Check.{check_all}
use Rattle.graph_check.proofs.Steps.{short_refused, length_refused, vertices_none_refused, vertices_over_refused, edges_over_refused, head_passed, head_decides, edges_decide}
use Rattle.graph_check.proofs.check_graph.Goals as goal

pub returns-then-b-lt4 : goal.returns-then-b-lt4
returns-then-b-lt4 c = head_decides c.args.b.now (short_refused c.args.b.now (omega arith))

pub returns-then-b-m : goal.returns-then-b-m
returns-then-b-m c =
    let bytes : List ℕ = c.args.b.now in
    head_decides bytes (length_refused bytes (omega arith))

pub returns-then-n-eq0 : goal.returns-then-n-eq0
returns-then-n-eq0 c =
    let bytes : List ℕ = c.args.b.now in
    head_decides bytes (vertices_none_refused bytes (omega arith) (omega arith))

pub returns-then-n-gt256 : goal.returns-then-n-gt256
returns-then-n-gt256 c =
    let bytes : List ℕ = c.args.b.now in
    head_decides bytes (vertices_over_refused bytes (omega arith) (omega arith))

pub returns-then-m-gt2048 : goal.returns-then-m-gt2048
returns-then-m-gt2048 c =
    let bytes : List ℕ = c.args.b.now in
    head_decides bytes (edges_over_refused bytes (omega arith) (omega arith) (omega arith) (omega arith))

pub returns : goal.returns
returns c =
    let bytes : List ℕ = c.args.b.now in
    c.check_edges.ensures ∙ ap check_all (c.new.ensures ∙ plain_graph bytes) ∙ edges_decide bytes (head_passed bytes (omega arith) (omega arith) (omega arith) (omega arith))
