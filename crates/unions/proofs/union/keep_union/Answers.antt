-- `unions::union::keep_union` meets its contract: all vertices are apart at the start, and the marked edges are kept one after the other.
-- Assumes nothing.
use Prim.Native.Nat.{ℕ}
use mathlib.Core.Path.{ap, ◌∙◌}
use mathlib.Core.List.{List}
use native.Mathlib.Omega.{arith}
use Rattle.graph.specs.Graph.{Graph}
use Rattle.graph.specs.Bytes.{graph_of}
use Rattle.rules.specs.Labels.{Labels, apart}
use Rattle.forest.specs.Arrays.{Agrees}
use Rattle.forest_laws.proofs.Roots.{together_none}
use borrow.Author.Rules.{rules}
use Rattle.unions.proofs.union.keep_union.Goals as goal

pub keep_marked-requires : goal.keep_marked-requires
keep_marked-requires c = record { keepable = record { labelable = record { valid = c.requires.valid; room = search rules }; room = search rules }; few = c.requires.few }

pub returns : goal.returns
returns c =
    let g : Graph = c.args.g.now in
    let label : List ℕ = c.start_labels.new.label in
    let all_apart : Agrees g.vertices label apart = λ v h. c.start_labels.ensures.labels v (omega (arith, c.vertex_count.ensures.is)) ∙ ap (λ (f : Labels). f v) together_none in
    record { kept = c.keep_marked.ensures.edges_are apart all_apart; fewer = c.keep_marked.ensures.fewer }
