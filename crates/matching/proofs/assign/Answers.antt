-- `assign` meets its contract, by either way of `Promised`.
-- Assumes nothing.
use mathlib.Core.Path.{◌∙◌, sym}
use Rattle.matching.proofs.Promised.{promised_refused, promised_solved}
use Rattle.matching.proofs.assign.Goals as goal

pub returns-then-refused : goal.returns-then-refused
returns-then-refused c = promised_refused _ _ _ _ (sym c.refused.ensures ∙ c.if-refused.true)

pub solve-requires : goal.solve-requires
solve-requires c = sym c.refused.ensures ∙ c.if-refused.false

pub returns : goal.returns
returns c = promised_solved _ _ _ _ _ (sym c.refused.ensures ∙ c.if-refused.false) _ c.solve.ensures
