-- `unrooted::answer::accepts_unrooted` meets its contract: "the sum C" decides, and it is at least the number of components. Assumes nothing.
use mathlib.Core.Path.{◌≡◌, refl, ◌∙◌}
use native.Mathlib.Omega.{arith}
use Rattle.graph.specs.Graph.{Graph}
use Rattle.graph.specs.Bytes.{graph_of}
use Rattle.rules.specs.UnrootedTrial.{needed}
use Rattle.needs.specs.History.{needed_by, ReadAsked}
use Rattle.needs.proofs.WholeForest.{read_asked, history_tells}
use Rattle.unrooted.proofs.UnrootedDecided.{decided, refused}
use Rattle.unrooted.proofs.answer.accepts_unrooted.Goals as goal

pub overflow_sub-n : goal.overflow_sub-n
overflow_sub-n c = omega (arith, (read_asked c.requires.forest_kept c.light_forest-light.ensures c.requires.history c.vertex_count-n.ensures.is).light_few)

pub returns-then-k-n : goal.returns-then-k-n
returns-then-k-n c = refused c.args.g.now c.args.k c.args.limit (history_tells c.requires.forest_kept c.light_forest-light.ensures c.requires.history c.vertex_count-n.ensures.is refl) (omega (arith, c.if-k-n.true))

pub needed_by_history-requires : goal.needed_by_history-requires
needed_by_history-requires c = read_asked c.requires.forest_kept c.light_forest-light.ensures c.requires.history c.vertex_count-n.ensures.is

pub returns : goal.returns
returns c = decided c.args.g.now c.args.k c.args.limit (c.needed_by_history.ensures ∙ history_tells c.requires.forest_kept c.light_forest-light.ensures c.requires.history c.vertex_count-n.ensures.is refl)
