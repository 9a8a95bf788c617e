-- `graph_check::check_edges` meets its contract. The loop's invariant: the first fault of all edges is the first from edge e on.
-- Assumes nothing.
use Prim.Native.Nat.{ℕ, ◌<◌}
use mathlib.Core.Path.{◌≡◌, sym, ap, ◌∙◌}
use mathlib.Core.Option.{some}
use native.Mathlib.Omega.{arith}
use Rattle.graph.specs.Graph.{Edge, Graph, edge_count, edge_at}
use Rattle.graph.specs.Bytes.{sheet_graph}
use Rattle.graph.specs.Fault.{refused_or}
use Rattle.graph.specs.Valid.{ValidEdge}
use Rattle.graph_check.specs.Check.{number, edge_fault, answer_to, check_all}
use Rattle.graph_check.proofs.Steps.{fault_from, fault_here, fault_later, fault_done, one_end_refused, other_end_refused, loop_refused, weight_over_refused, edge_passed}
use Rattle.graph_check.proofs.check_edges.Goals as goal

-- Where no edge before e has a fault, a fault of edge e is the answer.
refused : (g : Graph) (e : ℕ) → fault_from g 0 ≡ fault_from g e → e < edge_count g → {k : ℕ} → edge_fault g.vertices (edge_at g e) ≡ some k → number k ≡ check_all g
unfolding refused_or
refused g e before h q = sym (ap (answer_to g) (before ∙ fault_here g e h q))

pub returns-then-n-one : goal.returns-then-n-one
returns-then-n-one c = refused _ c.loop-e.e c.loop-e.invariant (omega arith) (one_end_refused _ _ (omega arith))

pub returns-then-n-other : goal.returns-then-n-other
returns-then-n-other c = refused _ c.loop-e.e c.loop-e.invariant (omega arith) (other_end_refused _ _ (omega arith))

pub returns-then-one-other : goal.returns-then-one-other
returns-then-one-other c = refused _ c.loop-e.e c.loop-e.invariant (omega arith) (loop_refused _ _ (omega arith) (omega arith) (omega arith))

pub returns-then-w-gt1000000 : goal.returns-then-w-gt1000000
returns-then-w-gt1000000 c = refused _ c.loop-e.e c.loop-e.invariant (omega arith) (weight_over_refused _ _ (omega arith) (omega arith) (omega arith) (omega arith))

pub loop-e-preserved : goal.loop-e-preserved
loop-e-preserved c =
    let g : Graph = c.args.g.now in
    let e : ℕ = c.loop-e.e in
    let x : Edge = edge_at g e in
    let is_edge : e < edge_count g = omega arith in
    let v : ValidEdge g.vertices x = omega arith in
    c.loop-e.invariant ∙ fault_later g e is_edge (edge_passed g.vertices x v)

pub returns : goal.returns
unfolding refused_or
returns c =
    let g : Graph = c.args.g.now in
    let all = ap (answer_to g) (c.loop-e.invariant ∙ fault_done g c.loop-e.e (omega arith)) in
    cc
