-- `bunches::bunch::settle` meets its contract: the three ways, by the two tests.
-- Assumes nothing.
use mathlib.Core.Path.{refl, sym, ◌∙◌}
use Rattle.bunches.proofs.PieceSettles.{part_fits, settled_alone, settled_full, settled_joined}
use Rattle.bunches.proofs.bunch.settle.Goals as goal

pub returns-then-reaches : goal.returns-then-reaches
returns-then-reaches c = settled_alone c.requires (sym c.reaches.ensures ∙ c.if-reaches.true) c.put_piece.ensures

pub put_piece-requires-then-reaches-2 : goal.put_piece-requires-then-reaches-2
put_piece-requires-then-reaches-2 c = part_fits c.requires c.requires.bunch_first

pub returns-then-reaches-2 : goal.returns-then-reaches-2
returns-then-reaches-2 c =
    settled_full c.requires (sym c.reaches.ensures ∙ c.if-reaches.false) (sym c.reaches-2.ensures ∙ c.if-reaches-2.true)
    c.put_piece-then-reaches-2.ensures

pub returns : goal.returns
returns c =
    settled_joined c.requires (sym c.reaches.ensures ∙ c.if-reaches.false) (sym c.reaches-2.ensures ∙ c.if-reaches-2.false) refl
    refl refl
