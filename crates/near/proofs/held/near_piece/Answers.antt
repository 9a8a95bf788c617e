-- `near::held::near_piece` meets its contract. The loop's invariant: the word has the roots near the start, and those near the ends of the first edges.
-- Assumes nothing.
use Prim.Native.Nat.{ℕ, ◌<◌}
use mathlib.Core.Path.{◌≡◌, ap, ◌∙◌}
use mathlib.Core.List.{List}
use native.Mathlib.Omega.{arith}
use lib.ListN.{length}
use Rattle.graph.specs.Graph.{Graph, one_end, other_end}
use Rattle.graph.specs.Bytes.{graph_of}
use Rattle.graph.proofs.Ranges.{one_end_below, other_end_below}
use Rattle.near.specs.Held.{WordsGiven}
use Rattle.near.proofs.HeldWords.{joining_start, joining_more, joining_all}
use Rattle.near.proofs.held.near_piece.Goals as goal

-- The ends of an edge have words.
module _ {g : Graph} {near : List ℕ} (given : WordsGiven g near) (e : ℕ) {end : ℕ} where
  one_inside : end ≡ one_end g e → end < length near
  one_inside q = omega (arith, one_end_below given.valid e, given.room)

  other_inside : end ≡ other_end g e → end < length near
  other_inside q = omega (arith, other_end_below given.valid e, given.room)

pub loop-edge-init : goal.loop-edge-init
loop-edge-init c = joining_start _ _ _ _

pub offset_bounds-near-one : goal.offset_bounds-near-one
offset_bounds-near-one c = omega (arith, c.one_end-one.ensures.small)

pub bounds-near-one : goal.bounds-near-one
bounds-near-one c = one_inside c.requires.given _ c.one_end-one.ensures.is

pub offset_bounds-near-other : goal.offset_bounds-near-other
offset_bounds-near-other c = omega (arith, c.other_end-other.ensures.small)

pub bounds-near-other : goal.bounds-near-other
bounds-near-other c = other_inside c.requires.given _ c.other_end-other.ensures.is

pub loop-edge-preserved : goal.loop-edge-preserved
loop-edge-preserved c =
    let g : Graph = c.args.g.now in
    joining_more _ _ c.loop-edge.invariant c.loop-edge-test.true (c.one_end-one.ensures.is ∙ ap (one_end g) c.wide-e.ensures.is)
    (c.other_end-other.ensures.is ∙ ap (other_end g) c.wide-e.ensures.is)

pub returns : goal.returns
returns c = joining_all _ _ c.loop-edge.invariant c.loop-edge-test.false
