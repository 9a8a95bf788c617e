-- `forest::labels::first_label` meets its contract: it takes the arm of the definition. Assumes nothing.
use mathlib.Core.Path.{sym, ◌∙◌}
use Rattle.forest.proofs.Labelling.{contained, root_label, own_label}
use Rattle.forest.proofs.labels.first_label.Goals as goal

pub returns-then-contains : goal.returns-then-contains
returns-then-contains c = root_label c.args.v c.args.roots.now (sym (c.contains.ensures.value ∙ contained _ _) ∙ c.if-contains.true)

pub returns : goal.returns
returns c = own_label c.args.v c.args.roots.now (sym (c.contains.ensures.value ∙ contained _ _) ∙ c.if-contains.false)
