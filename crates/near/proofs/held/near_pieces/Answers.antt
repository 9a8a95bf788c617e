-- `near::held::near_pieces` meets its contract. The loop's invariant: the trees of the first i places have their words. Assumes nothing.
use Prim.Native.Nat.{ℕ}
use mathlib.Core.Path.{◌≡◌, ap, subst, ◌∙◌}
use mathlib.Core.List.{List}
use native.Mathlib.Omega.{arith}
use lib.ListN.{get_or}
use Rattle.lists.specs.Segments.{segment}
use Rattle.graph.specs.Graph.{Graph}
use Rattle.rules.specs.Held.{tree_at}
use Rattle.pieces.specs.Pieces.{tree_of}
use Rattle.cover.proofs.ChosenBytes.{held_readable, held_edges}
use Rattle.near.specs.Held.{NearTree}
use Rattle.near.proofs.HeldWords.{wording_none, wording_more, wording_all}
use Rattle.near.proofs.held.near_pieces.Goals as goal

-- The start and the edges that were read are those of tree c.
the-tree : (starts cuts members : List ℕ) (c : ℕ) {g : Graph} {near edges : List ℕ} {start word : ℕ} → start ≡ get_or starts c 0 → edges ≡ segment cuts members c
    → NearTree g near (tree_of start edges) word → NearTree g near (tree_at starts cuts members c) word
unfolding tree_at
the-tree starts cuts members c {g} {near} {edges} {start} {word} p q t =
    subst (λ x. NearTree g near (tree_of (get_or starts c 0) x) word) q (subst (λ x. NearTree g near (tree_of x edges) word) p t)

pub loop-i-init : goal.loop-i-init
loop-i-init c = wording_none _ _ _ _ _ _ _

pub edges_at-requires : goal.edges_at-requires
edges_at-requires c =
    let tree = c.requires.trees c.loop-i.i c.loop-i-test.true in
    held_readable tree.held c.wide-c.ensures

pub near_piece-requires : goal.near_piece-requires
near_piece-requires c =
    let start_is = c.number_at-start.ensures.is ∙ ap (λ x. get_or c.args.pieces.starts.now x 0) c.wide-c.ensures.is in
    let tree = c.requires.trees c.loop-i.i c.loop-i-test.true in
    record { given = c.requires.given; start_inside = omega (arith, start_is, tree.start_inside) }

pub bounds-words-i : goal.bounds-words-i
bounds-words-i c = omega (arith, c.loop-i-test.true, c.requires.words_room)

pub loop-i-preserved : goal.loop-i-preserved
loop-i-preserved c =
    let start_is = c.number_at-start.ensures.is ∙ ap (λ x. get_or c.args.pieces.starts.now x 0) c.wide-c.ensures.is in
    wording_more _ _ _ _ _ _ c.loop-i.invariant c.loop-i-test.true (omega (arith, c.loop-i-test.true, c.requires.words_room))
    (the-tree c.args.pieces.starts.now c.args.pieces.cuts.now c.args.pieces.members.now (get_or c.args.places.now c.loop-i.i 0) start_is
    (held_edges c.wide-c.ensures c.edges_at.ensures) c.near_piece.ensures)

pub returns : goal.returns
returns c = wording_all _ _ _ _ _ _ c.loop-i.invariant c.loop-i-test.false
