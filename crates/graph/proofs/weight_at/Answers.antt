-- `graph::weight_at` meets its contract: the weight is the edge's field past all ends, and past the last edge the definition has 0.
-- Assumes nothing.
use Prim.Native.Nat.{ℕ, ◌+◌, ◌≤◌, ◌<◌}
use mathlib.Core.Path.{ap}
use mathlib.Core.List.{List}
use native.Mathlib.Omega.{arith}
use lib.ListN.{length}
use Rattle.graph.specs.Graph.{Edge, edge_count}
use Rattle.graph.specs.Bytes.{weight_at, sheet_graph}
use Rattle.graph.proofs.Decoded.{weight_at_lem, weight_within, edge_past}
use Rattle.graph.proofs.weight_at.Goals as goal

pub overflow_mul-m : goal.overflow_mul-m
overflow_mul-m c =
    let b : List ℕ = c.args.b.now in
    let e : ℕ = c.args.e in
    let is_edge : e < edge_count (sheet_graph b) = omega arith in
    let inside : weight_at (edge_count (sheet_graph b)) e + 4 ≤ length b = weight_within b e is_edge in
    record { fits = omega (arith, inside) }

pub overflow_add-m : goal.overflow_add-m
overflow_add-m c =
    let b : List ℕ = c.args.b.now in
    let e : ℕ = c.args.e in
    let is_edge : e < edge_count (sheet_graph b) = omega arith in
    let inside : weight_at (edge_count (sheet_graph b)) e + 4 ≤ length b = weight_within b e is_edge in
    record { fits = omega (arith, inside) }

pub overflow_mul-e : goal.overflow_mul-e
overflow_mul-e c =
    let b : List ℕ = c.args.b.now in
    let e : ℕ = c.args.e in
    let is_edge : e < edge_count (sheet_graph b) = omega arith in
    let inside : weight_at (edge_count (sheet_graph b)) e + 4 ≤ length b = weight_within b e is_edge in
    record { fits = omega (arith, inside) }

pub overflow_add-m-then-e-m : goal.overflow_add-m-then-e-m
overflow_add-m-then-e-m c =
    let b : List ℕ = c.args.b.now in
    let e : ℕ = c.args.e in
    let is_edge : e < edge_count (sheet_graph b) = omega arith in
    let inside : weight_at (edge_count (sheet_graph b)) e + 4 ≤ length b = weight_within b e is_edge in
    record { fits = omega (arith, inside) }

pub u32_within-requires : goal.u32_within-requires
u32_within-requires c =
    let b : List ℕ = c.args.b.now in
    let e : ℕ = c.args.e in
    let is_edge : e < edge_count (sheet_graph b) = omega arith in
    let inside : weight_at (edge_count (sheet_graph b)) e + 4 ≤ length b = weight_within b e is_edge in
    omega (arith, inside)

pub returns-then-e-m : goal.returns-then-e-m
returns-then-e-m c =
    let b : List ℕ = c.args.b.now in
    let e : ℕ = c.args.e in
    let is_edge : e < edge_count (sheet_graph b) = omega arith in
    let m : ℕ = c.args.m in
    rw (weight_at_lem b e is_edge m (omega arith)) c.u32_within.ensures

pub returns-else-e-m : goal.returns-else-e-m
returns-else-e-m c = omega (arith, ap (λ (x : Edge). x.weight) (edge_past (sheet_graph c.args.b.now) c.args.e (omega arith)))
