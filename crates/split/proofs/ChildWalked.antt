-- The walk of a child list: at its end, past an arc whose head has a mark, and at a child. What is known before each call of the code,
-- and what the walk has done after it.
-- Assumes nothing.
use Prim.Native.Nat.{ℕ, ◌+◌, ◌≤◌, ◌<◌}
use mathlib.Core.Path.{◌≡◌, refl, sym, ap, ◌∙◌}
use mathlib.Core.Bool.{true, false}
use mathlib.Core.List.{List, [], ◌∷◌, ◌++◌}
use native.Mathlib.Omega.{arith}
use lib.ListN.{length, take, drop, get_or, set, length-set}
use lib.Seq.{slice, slice_empty, take-take, take-set-le, get_or-take, get_or-set_same}
use Rattle.lists.specs.Segments.{segment}
use Rattle.lists.proofs.OnlyFirst.{only_first_none, only_first_store, only_first_on, only_first_of_more}
use Rattle.lists.proofs.NextPlace.{slice_next}
use Rattle.edges.specs.Around.{arc_edge, arc_head, arc_weight, Arcs}
use Rattle.bunches.specs.Store.{Store, Added}
use Rattle.bunches.specs.Settles.{Load, load, Settles, stacked, Settleable, ChildSettled}
use Rattle.bunches.specs.declared.Progress.{Progress}
use Rattle.bunches.specs.declared.bunch.Bunch.{Bunch}
use Rattle.bunches.proofs.PiecesAdded.{added_none, added_on}
use Rattle.split.specs.SplitBelow.{unmarked, unvisited, passing, piece_of, SplitBelow, done, past, child}
use Rattle.split.specs.ChildrenWalked.{State, HasRoom, Walkable, Bunched, ChildrenWalked, NodeWalked}
use Rattle.split.proofs.Unvisited.{unvisited_less}

-- The bunch of v on the stack.
abbrev pub bunch_at : ℕ → ℕ → ℕ → Bunch
bunch_at base end weight = record { base = base; end = end; weight = weight }

-- A child's edge goes on the stack,
abbrev pub pushed : State → ℕ → State
pushed s edge = record { marks = s.marks; stack = set s.stack s.top edge; top = s.top + 1; store = s.store }

-- the child is passed,
abbrev pub visiting : ℕ → State → State
visiting v s = record { marks = passing v s.marks; stack = s.stack; top = s.top; store = s.store }

-- and the child's piece is settled.
abbrev pub after : State → Store → ℕ → State
after t u top = record { marks = t.marks; stack = t.stack; top = top; store = u }

-- The arc leads to a child: a vertex without a mark, over this edge.
pub record IsChild (n : ℕ) (marks : List ℕ) (arc head edge : ℕ) : Type 0 where
  pub head_is : head ≡ arc_head arc
  pub edge_is : edge ≡ arc_edge arc
  pub inside : head < n
  pub new : unmarked marks head ≡ true

module _ {n : ℕ} {bounds arcs : List ℕ} {H v base : ℕ} {s : State} {w : ℕ} where
  -- There is no arc more: what stands on the stack is what is left.
  pub walk_done : Bunched n base s w → ChildrenWalked n bounds arcs H v base [] s w s w
  walk_done b =
      record {
        parts = [];
        below = done;
        added = added_none b.room.sound;
        edge_each = omega arith;
        kept = refl;
        stack_rest = only_first_none _ s.stack;
        bunched = b;
        fits = omega arith;
        fewer = omega arith;
      }

  -- An arc whose head has a mark is passed by.
  pub walk_past : {arc : ℕ} {rest : List ℕ} {t : State} {z : ℕ} → unmarked s.marks (arc_head arc) ≡ false
      → ChildrenWalked n bounds arcs H v base rest s w t z → ChildrenWalked n bounds arcs H v base (arc ∷ rest) s w t z
  walk_past q x =
      record {
        parts = x.parts;
        below = past q x.below;
        added = x.added;
        edge_each = x.edge_each;
        kept = x.kept;
        stack_rest = x.stack_rest;
        bunched = x.bunched;
        fits = x.fits;
        fewer = x.fewer;
      }

-- The same walk, where the number of vertices is said in another way.
pub walked_of : {m n : ℕ} {bounds arcs : List ℕ} {H v : ℕ} {s t : State} {z : ℕ} → m ≡ n → NodeWalked m bounds arcs H v s t z → NodeWalked n bounds arcs H v s t z
walked_of {m} {n} same x = let q : m ≡ n = same in rw q at x

-- At a child.
module _ {n base : ℕ} {s : State} {w : ℕ} (b : Bunched n base s w) {arc head edge : ℕ} (c : IsChild n s.marks arc head edge) where
  -- one vertex fewer is left
  pub child_less : unvisited n (passing head s.marks) < unvisited n s.marks
  child_less = unvisited_less s.marks head (omega (arith, b.room.marks_length, c.inside)) n c.inside c.new

  -- there is room for the child's edge
  pub edge_fits : s.top < length s.stack
  edge_fits = omega (arith, child_less, b.room.fits, b.room.stack_length)

  -- the stack keeps its length
  pub pushed_length : length (set s.stack s.top edge) ≡ n
  pushed_length = length-set s.stack s.top edge ∙ b.room.stack_length

  -- the child's node can be walked
  child_room : HasRoom n (visiting head (pushed s edge))
  child_room =
      record {
        marks_length = rw length-set b.room.marks_length;
        stack_length = rw length-set b.room.stack_length;
        fits = omega (arith, child_less, b.room.fits);
        sound = b.room.sound;
      }

  pub child_walkable : {bounds arcs : List ℕ} → Arcs n bounds arcs
      → Walkable (length (set s.stack s.top edge)) bounds arcs head (visiting head (pushed s edge))
  child_walkable around = rw pushed_length (record { around = around; inside = c.inside; room = child_room })

  module _ {bounds arcs : List ℕ} {H : ℕ} {t : State} {y : ℕ} (inner : NodeWalked n bounds arcs H head (visiting head (pushed s edge)) t y) where
    abbrev room : HasRoom n t
    room = inner.bunched.room

    -- below the child's edge the stack is as it was
    stack_kept : take s.top t.stack ≡ take s.top s.stack
    stack_kept =
        sym (take-take s.top (s.top + 1) t.stack (omega arith))
        ∙ ap (take s.top) inner.kept
        ∙ take-take s.top (s.top + 1) (set s.stack s.top edge) (omega arith)
        ∙ take-set-le s.top s.stack s.top edge (omega arith)

    -- so the bunch is as it was
    bunch_kept : slice base s.top t.stack ≡ slice base s.top s.stack
    bunch_kept = ap (drop base) stack_kept

    -- and so is the edge
    edge_kept : get_or t.stack s.top 0 ≡ edge
    edge_kept =
        sym (get_or-take (s.top + 1) t.stack s.top 0 (omega arith))
        ∙ ap (λ (l : List ℕ). get_or l s.top 0) inner.kept
        ∙ get_or-take (s.top + 1) (set s.stack s.top edge) s.top 0 (omega arith)
        ∙ get_or-set_same s.stack s.top edge 0 edge_fits

    -- the child's edge, and what is left below the child
    piece_is : slice s.top t.top t.stack ≡ edge ∷ slice (s.top + 1) t.top t.stack
    piece_is =
        slice_next t.stack s.top t.top (omega (arith, inner.bunched.above)) (omega (arith, room.fits, room.stack_length))
        ∙ ap (λ (x : ℕ). x ∷ slice (s.top + 1) t.top t.stack) edge_kept

    -- the piece can meet the bunch
    pub child_settleable : {v : ℕ} → v < n → arc_weight arc ≤ 1000000 → {p : Progress} → p.top ≡ t.top → p.weight ≡ arc_weight arc + y
        → Settleable v (bunch_at base s.top w) t.stack t.store p
    child_settleable vertex small {p} top_is weight_is =
        let n_is : length t.stack ≡ n = room.stack_length in
        record {
          inside = omega arith;
          bunch_first = b.above;
          piece_next = omega (arith, inner.bunched.above);
          fits = omega (arith, room.fits);
          sound = rw n_is room.sound;
          bunch_light = b.light;
          piece_light = omega (arith, inner.bunched.light, inner.bunched.above);
        }

    module _ {v : ℕ} {u : Store} {p r : Progress} (top_is : p.top ≡ t.top) (weight_is : p.weight ≡ arc_weight arc + y)
        (settled : ChildSettled H v (bunch_at base s.top w) t.stack t.store u p r) where
      -- the parts split off at v are added
      own_added : Added n settled.parts t.store u
      own_added = let n_is : length t.stack ≡ n = room.stack_length in rw n_is at settled.added

      -- there is room then, and the bunch stands on the stack
      pub after_bunched : Bunched n base (after t u r.top) r.weight
      after_bunched =
          record {
            room =
                record {
                  marks_length = room.marks_length;
                  stack_length = room.stack_length;
                  fits = omega (arith, settled.fits, room.fits);
                  sound = own_added.sound;
                };
            above = settled.above;
            light = settled.light;
          }

      -- fewer vertices are left
      pub after_fewer : unvisited n t.marks ≤ unvisited n s.marks
      after_fewer = omega (arith, inner.fewer, child_less)

      -- The child, then the arcs after it.
      pub walk_child : {rest : List ℕ} {last : State} {z : ℕ} → ChildrenWalked n bounds arcs H v base rest (after t u r.top) r.weight last z
          → ChildrenWalked n bounds arcs H v base (arc ∷ rest) s w last z
      walk_child {last = last} later =
          let head_is : head ≡ arc_head arc = c.head_is in
          let edge_is : edge ≡ arc_edge arc = c.edge_is in
          let left : Load = stacked t.stack (s.top + 1) t.top y in
          let first : SplitBelow bounds arcs H head (segment bounds arcs head) (passing head s.marks) (load [] 0) inner.parts left t.marks =
          rw (slice_empty (s.top + 1) (set s.stack s.top edge)) at inner.below
          in
          let met : Settles H v (stacked s.stack base s.top w) (piece_of arc left) settled.parts (stacked t.stack base r.top r.weight) =
          rw (bunch_kept, weight_is, top_is, piece_is, edge_is) at settled.settles
          in
          record {
            parts = inner.parts ++ (settled.parts ++ later.parts);
            below = child (rw head_is at c.new) (rw head_is at first) met later.below;
            added = added_on inner.added (added_on own_added later.added);
            edge_each = omega (arith, inner.edge_each, settled.edge_each, later.edge_each);
            kept =
                later.kept
                ∙ sym (take-take base s.top t.stack b.above)
                ∙ ap (take base) stack_kept
                ∙ take-take base s.top s.stack b.above;
            stack_rest =
                let most : ℕ = s.top + unvisited n s.marks in
                only_first_on
                (only_first_on (only_first_store (only_first_none most s.stack) s.top edge (omega (arith, child_less)))
                (only_first_of_more inner.stack_rest most (omega (arith, child_less))))
                (only_first_of_more later.stack_rest most
                (omega (arith, settled.fits, settled.added.used_more, inner.fits, inner.added.used_more, child_less)));
            bunched = later.bunched;
            fits = omega (arith, later.fits, settled.fits, inner.fits, child_less);
            fewer = omega (arith, later.fewer, after_fewer);
          }
