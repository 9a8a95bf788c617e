-- `rooted_cover::tree::mark_assigned` meets its contract. Assumes nothing.
use Prim.Native.Nat.{ℕ, ◌<◌}
use mathlib.Core.Path.{◌≡◌, refl, ap, ◌∙◌}
use mathlib.Core.List.{List, []}
use native.Mathlib.Omega.{arith}
use lib.ListN.{length, get_or}
use Rattle.lists.specs.Member.{◌∈◌}
use Rattle.lists.proofs.Places.{at_place}
use Rattle.graph.specs.Graph.{Graph}
use Rattle.cover.proofs.ChosenBytes.{held_readable, held_edges}
use Rattle.rooted_cover.specs.Tree.{ReachGiven, ReachMarked, none, part}
use Rattle.rooted_cover.proofs.RootUnion.{marked_none}
use Rattle.rooted_cover.proofs.tree.mark_assigned.Goals as goal

-- What is asked and promised of a part depends only on its start and its edges.
module _ {g : Graph} {dist last : List ℕ} {root s₁ s₂ : ℕ} {e₁ e₂ : List ℕ} (p : s₁ ≡ s₂) (q : e₁ ≡ e₂) where
  given-named : {room : ℕ} → ReachGiven g dist last root s₂ e₂ room → ReachGiven g dist last root s₁ e₁ room
  given-named r = rw (p, q) r

marked-as : {g : Graph} {dist last : List ℕ} {root s₁ s₂ r : ℕ} {e₁ e₂ before after : List ℕ} → s₁ ≡ s₂ → e₁ ≡ e₂
    → ReachMarked g dist last root s₁ e₁ before after r → ReachMarked g dist last root s₂ e₂ before after r
marked-as p q r = rw q at (rw p at r)

-- The start of a piece, by where its number stands.
start_of : (starts : List ℕ) {s x y : ℕ} → s ≡ get_or starts x 0 → x ≡ y → s ≡ get_or starts y 0
start_of starts p q = p ∙ ap (λ x. get_or starts x 0) q

pub returns-then-places-i : goal.returns-then-places-i
returns-then-places-i c = record { edges = []; are = none (λ i h. c.place_with-i.ensures.earlier i (omega (arith, c.if-places-i.true))) refl; marks = marked_none _ }

pub edges_at-requires : goal.edges_at-requires
edges_at-requires c =
    held_readable (c.requires.held _ (at_place 0 c.args.places.now c.place_with-i.result c.if-places-i.false)) c.wide-c.ensures

pub mark_reach-requires : goal.mark_reach-requires
mark_reach-requires c =
    given-named (start_of c.args.pieces.starts.now c.number_at-start.ensures.is c.wide-c.ensures.is) (held_edges c.wide-c.ensures c.edges_at.ensures)
    (c.requires.reach _ c.if-places-i.false (c.place_with-i.ensures.here c.if-places-i.false))

pub returns : goal.returns
returns c =
    let marked = marked-as (start_of c.args.pieces.starts.now c.number_at-start.ensures.is c.wide-c.ensures.is) (held_edges c.wide-c.ensures c.edges_at.ensures) c.mark_reach.ensures in
    record { edges = _; are = part _ marked.vertex c.if-places-i.false c.place_with-i.ensures marked.nearest refl; marks = marked.marks }
