-- Before the first root nothing is held, and when all roots are done the arrays hold what splitting a forest promises.
-- Assumes nothing.
use Prim.Native.Nat.{ℕ, ◌<◌}
use mathlib.Core.Path.{◌≡◌, refl, sym, ap, ◌∙◌}
use mathlib.Core.List.{List, [], map, append-nil}
use mathlib.Core.Logic.{inl, ⊎_elim}
use native.Mathlib.Omega.{arith}
use borrow.Author.Tests.{eq-eqb}
use lib.ListN.{length, get_or, set, length-set}
use lib.Seq.{drop-length, get_or-set_same}
use Rattle.lists.specs.Count.{from, below}
use Rattle.lists.specs.Lists.{flat, any, member}
use Rattle.lists.specs.Member.{◌∈◌}
use Rattle.lists.proofs.Member.{in_map}
use Rattle.lists.proofs.Below.{in_below}
use Rattle.lists.proofs.Sorting.{in_rise}
use Rattle.lists.proofs.Put.{put_to_none, put_only_first}
use Rattle.lists.proofs.OnlyFirst.{only_first_none, only_first_store, only_first_then}
use Rattle.lists.proofs.SegmentOf.{in_some_segment}
use Rattle.graph.specs.Graph.{Graph}
use Rattle.rules.specs.Cover.{Tree}
use Rattle.rules.specs.Held.{tree_at, trees_at, risen}
use Rattle.rules.specs.Grow.{Rooted, grow_from, grow}
use Rattle.rules.specs.Split.{split}
use Rattle.bunches.specs.Store.{Store, held_in, Sound}
use Rattle.bunches.proofs.PiecesAdded.{added_none}
use Rattle.split.specs.Pieces.{pieces_of, left_places}
use Rattle.split.specs.SplitBelow.{unmarked}
use Rattle.split.specs.ChildrenWalked.{State}
use Rattle.split.specs.ForestSplit.{Lent, lent, Splittable, Unwalked, ForestSplit}
use Rattle.split.proofs.Unvisited.{unvisited_most}
use Rattle.split.proofs.PiecesOf.{pieces_for, piece_edge_known}
use Rattle.split.proofs.RootsSplit.{ByRules, emptied, RootsSplit}

-- The arrays when the first bound is stored,
abbrev pub bounded : Lent → Lent
bounded a = record { starts = a.starts; cuts = set a.cuts 0 0; members = a.members; lefts = a.lefts }

-- and the state before the first root.
abbrev pub unwalked : List ℕ → List ℕ → Lent → State
unwalked marks stack a = record { marks = marks; stack = stack; top = 0; store = emptied (bounded a) }

module _ {bounds arcs roots marks stack : List ℕ} {a : Lent} (c : Unwalked bounds arcs roots marks stack a) where
  abbrev asked : Splittable (length stack) bounds arcs roots a
  asked = c.splittable

  first_zero : get_or (set a.cuts 0 0) 0 0 ≡ 0
  first_zero = get_or-set_same a.cuts 0 0 0 (omega (arith, asked.cuts_room))

  -- no piece is held yet
  none_held : Sound (length stack) (unwalked marks stack a).store
  none_held =
      record {
        few = asked.around.few;
        starts_room = omega (arith, asked.starts_room);
        cuts_room = rw length-set (omega (arith, asked.cuts_room));
        members_room = asked.members_room;
        used_few = omega arith;
        starts_inside = λ i l. absurd (omega arith);
        first = first_zero;
        bounded =
            record {
              last = first_zero;
              within = λ i l. let q : i ≡ 0 = omega arith in rw q (omega (arith, first_zero));
              rising = λ i l. absurd (omega arith);
            };
      }

  -- Before the first root.
  pub roots_first : {H : ℕ} → RootsSplit (length stack) bounds arcs roots H (bounded a) 0 (unwalked marks stack a) a.lefts
  roots_first =
      record {
        within = omega arith;
        empty = refl;
        room =
            record {
              marks_length = c.marks_length;
              stack_length = refl;
              fits = omega (arith, unvisited_most (length stack) marks);
              sound = none_held;
            };
        starts_spare = omega (arith, asked.starts_room);
        cuts_spare = rw length-set (omega (arith, asked.cuts_room));
        few = omega arith;
        used_few = inl refl;
        held = [];
        added = added_none none_held;
        lefts_room = asked.lefts_room;
        places = [];
        lefts_put = put_to_none a.lefts 0 (omega arith);
        by_rules =
            λ g edges around n_is.
            unfold grow flat left_places member any unmarked in
            record {
              trees = [];
              passed = [];
              agrees = record { size = c.marks_length ∙ sym n_is; at = λ v l. eq-eqb (get_or marks v 0) 0 (c.none_marked v (omega arith)) };
              grown = refl;
              pieces = refl;
              lefts = refl;
            };
      }

-- Each edge in the pieces held is an edge of one of them.
in_held : {n : ℕ} {s : Store} → Sound n s → (i : ℕ) → i < s.used → (t : Tree) × (t ∈ held_in s) × (get_or s.members i 0 ∈ t.edges)
unfolding held_in trees_at tree_at risen
in_held {s = s} h i l =
    let (q, m, e) = in_some_segment h.bounded h.first i s.members 0 l (omega (arith, h.used_few, h.members_room)) in
    (risen (tree_at s.starts s.cuts s.members q), in_map risen (in_map (tree_at s.starts s.cuts s.members) (in_below s.pieces m)), in_rise e)

module _ {n : ℕ} {bounds arcs roots : List ℕ} {H : ℕ} (a : Lent) {s : State} {lefts : List ℕ}
    (k : RootsSplit n bounds arcs roots H (bounded a) (length roots) s lefts) where
  -- the arrays at the end
  abbrev ends : Lent
  ends = lent s.store.starts s.store.cuts s.store.members lefts

  -- the trees grown are all
  all_grown : {g : Graph} {edges : List ℕ} {held : List Tree} {places : List ℕ} (b : ByRules g edges roots H (length roots) s.marks held places) → b.trees ≡ grow g edges roots
  unfolding grow_from
  all_grown b = sym (b.grown ∙ rw (drop-length roots) (append-nil b.trees))

  -- so the pieces held are those that the rules make,
  held_all : {g : Graph} {edges places : List ℕ} → ByRules g edges roots H (length roots) s.marks k.held places → held_in s.store ≡ pieces_of g H edges roots
  unfolding pieces_of held_in trees_at below from
  held_all {g} b = k.added.held ∙ b.pieces ∙ ap (pieces_for g H) (all_grown b)

  -- and their edges are the forest's.
  edges_all : {g : Graph} {edges places : List ℕ} → ByRules g edges roots H (length roots) s.marks k.held places
      → (i : ℕ) → i < s.store.used → get_or s.store.members i 0 ∈ edges
  edges_all {g} {edges} b i l =
      let (t, m, e) = in_held k.room.sound i l in
      piece_edge_known g H edges roots (rw (held_all b) at m) e

  -- What is promised.
  pub all_split : ForestSplit n bounds arcs roots H a ends s.store.pieces
  unfolding held_in
  all_split =
      record {
        used = s.store.used;
        of_graph =
            λ g edges around n_is.
            let b = k.by_rules g edges around n_is in
            record {
              pieces = held_all b;
              lefts = rw (b.lefts ∙ ap (λ (ts : List Rooted). left_places 0 (map (split g H) ts)) (all_grown b)) at k.lefts_put;
              edges_of_lem = edges_all b;
            };
        used_few = ⊎_elim (λ e. omega arith) (λ e. omega arith) k.used_few;
        few = k.few;
        starts_inside = k.room.sound.starts_inside;
        first = k.room.sound.first;
        bounded = k.room.sound.bounded;
        starts_rest = k.added.starts_rest;
        cuts_rest =
            only_first_then (only_first_store (only_first_none 1 a.cuts) 0 0 (omega arith)) k.added.cuts_rest (omega arith);
        members_rest = k.added.members_rest;
        lefts_rest = put_only_first k.lefts_put;
      }
