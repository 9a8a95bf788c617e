-- The trees of the roots, one after the other: what is known before each root, and at the end.
-- Assumes nothing.
use Prim.Native.Nat.{ℕ, ◌+◌, ◌-◌, ◌≤◌, ◌<◌}
use mathlib.Core.Path.{◌≡◌, sym, ap, ◌∙◌}
use mathlib.Core.List.{List, [], ◌∷◌, ◌++◌, map}
use mathlib.Core.Logic.{◌⊎◌, inr, ⊎_elim}
use native.Mathlib.Omega.{arith}
use lib.ListN.{length, drop, get_or, set, length-set}
use lib.Seq.{slice, slice_empty, append_snoc}
use Rattle.lists.specs.Put.{PutTo}
use Rattle.lists.specs.Segments.{segment}
use Rattle.lists.proofs.Put.{put_more, only_first_length}
use Rattle.lists.proofs.NextPlace.{rest_next}
use Rattle.graph.specs.Graph.{Graph}
use Rattle.rules.specs.Cover.{Tree}
use Rattle.rules.specs.Grow.{Rooted, Grown, grow_node, grow_from, grow}
use Rattle.rules.specs.Split.{Pieces, part_at, split}
use Rattle.edges.specs.Around.{Arcs, Around}
use Rattle.bunches.specs.Store.{Store, Added}
use Rattle.bunches.specs.PiecePut.{Puttable, PiecePut}
use Rattle.bunches.specs.Settles.{load, stacked}
use Rattle.bunches.specs.declared.Progress.{Progress}
use Rattle.bunches.proofs.PiecesAdded.{added_on}
use Rattle.split.specs.Pieces.{left_of, with_left, left_places}
use Rattle.split.specs.SplitBelow.{unvisited, passing, SplitBelow}
use Rattle.split.specs.ChildrenWalked.{State, HasRoom, Walkable, NodeWalked}
use Rattle.split.specs.ForestSplit.{Lent}
use Rattle.split.proofs.Unvisited.{unvisited_below, unvisited_fewer}
use Rattle.split.proofs.ChildWalked.{visiting, after}
use Rattle.split.proofs.SplitAsRules.{MarksAre, Gives, node_as_rules}
use Rattle.split.proofs.PiecesOf.{pieces_for, pieces_more, lefts_more}

-- the pieces of a tree, from what it is split into
with_left_are : (t : Rooted) (p : Pieces) {parts : List Tree} {left : List ℕ} → p ≡ record { parts = parts; left = left }
    → with_left t p ≡ parts ++ (part_at t.root left ∷ [])
unfolding with_left left_of
with_left_are t p q = rw q

-- the tree of the next root, and the trees after it
grow_next : (g : Graph) (edges : List ℕ) {roots rest : List ℕ} {r : ℕ} → roots ≡ r ∷ rest → (passed : List ℕ)
    → grow_from g edges roots passed
    ≡ record { root = r; branches = (grow_node g.vertices g edges r passed).branches } ∷ grow_from g edges rest (grow_node g.vertices g edges r passed).passed
unfolding grow_from
grow_next g edges q passed = rw q

-- What the rules make of the first j roots: their trees, and the vertices passed then. The pieces and the numbers of the leftovers are
-- those of these trees, and the marks are those of the vertices passed.
pub record ByRules (g : Graph) (edges roots : List ℕ) (H j : ℕ) (marks : List ℕ) (held : List Tree) (places : List ℕ) : Type 0 where
  pub trees : List Rooted
  pub passed : List ℕ
  pub agrees : MarksAre g.vertices marks passed
  pub grown : grow g edges roots ≡ trees ++ grow_from g edges (drop j roots) passed
  pub pieces : held ≡ pieces_for g H trees
  pub lefts : places ≡ left_places 0 (map (split g H) trees)

-- The arrays with no piece.
abbrev pub emptied : Lent → Store
emptied a = record { starts = a.starts; cuts = a.cuts; members = a.members; pieces = 0; used = 0 }

-- Before a root: the first j roots' trees were grown and split, and their pieces were added to the arrays a; the stack is empty, there is
-- room for a piece more for each root that is left, and each edge in a piece led to a vertex that has a mark now, as the first root has.
pub record RootsSplit (n : ℕ) (bounds arcs roots : List ℕ) (H : ℕ) (a : Lent) (j : ℕ) (s : State) (lefts : List ℕ) : Type 0 where
  pub within : j ≤ length roots
  pub empty : s.top ≡ 0
  pub room : HasRoom n s
  pub starts_spare : s.store.pieces + n + (length roots - j) ≤ s.store.used + length s.store.starts
  pub cuts_spare : s.store.pieces + n + (length roots - j) < s.store.used + length s.store.cuts
  pub few : s.store.pieces ≤ s.store.used + j
  pub used_few : (s.store.used ≡ 0) ⊎ (s.store.used + unvisited n s.marks < n)
  pub held : List Tree
  pub added : Added n held (emptied a) s.store
  pub lefts_room : length roots ≤ length lefts
  pub places : List ℕ
  pub lefts_put : PutTo 0 places a.lefts lefts j
  pub by_rules : (g : Graph) (edges : List ℕ) → Around g edges bounds arcs → g.vertices ≡ n → ByRules g edges roots H j s.marks held places

-- One root more.
module _ {n : ℕ} {bounds arcs roots : List ℕ} {H : ℕ} {a : Lent} {j : ℕ} {s : State} {lefts : List ℕ}
    (k : RootsSplit n bounds arcs roots H a j s lefts) (more : j < length roots) {r : ℕ} (r_is : r ≡ get_or roots j 0) (inside : r < n) where
  -- its node can be walked
  pub root_walkable : Arcs n bounds arcs → Walkable (length s.stack) bounds arcs r (visiting r s)
  root_walkable around =
      rw k.room.stack_length
      (record {
        around = around;
        inside = inside;
        room =
            record {
              marks_length = rw length-set k.room.marks_length;
              stack_length = k.room.stack_length;
              fits = omega (arith, k.room.fits, unvisited_fewer s.marks r n);
              sound = k.room.sound;
            };
      })

  module _ {t : State} {z : ℕ} (walked : NodeWalked n bounds arcs H r (visiting r s) t z) where
    abbrev room : HasRoom n t
    room = walked.bunched.room

    starts_same : length t.store.starts ≡ length s.store.starts
    starts_same = only_first_length walked.added.starts_rest

    cuts_same : length t.store.cuts ≡ length s.store.cuts
    cuts_same = only_first_length walked.added.cuts_rest

    -- what is left at it can become a piece
    pub left_puttable : Puttable r 0 t.stack t.store t.top
    left_puttable =
        let n_is : length t.stack ≡ n = room.stack_length in
        record {
          inside = omega arith;
          on_stack = omega arith;
          fits = omega (arith, room.fits);
          sound = rw n_is room.sound;
          starts_room = omega (arith, starts_same, k.starts_spare, walked.edge_each);
          cuts_room = omega (arith, cuts_same, k.cuts_spare, walked.edge_each);
        }

    -- the number of its leftover is in range
    pub left_number : length roots ≤ 256 → t.store.pieces < 65536
    left_number h = omega (arith, k.few, walked.edge_each, room.fits, room.sound.few)

    -- the walk split its tree, with what is left from the stack's first place on
    tree_below : SplitBelow bounds arcs H r (segment bounds arcs r) (passing r s.marks) (load [] 0) walked.parts (stacked t.stack 0 t.top z) t.marks
    tree_below = let e : s.top ≡ 0 = k.empty in rw (e, slice_empty 0 s.stack) at walked.below

    module _ {u : Store} {p q : Progress} (top_is : p.top ≡ t.top) (put : PiecePut r 0 0 t.stack t.store u p q) where
      -- what is left at it, as a piece
      abbrev left : Tree
      left = part_at r (slice 0 t.top t.stack)

      -- its pieces are added
      tree_added : Added n (walked.parts ++ (left ∷ [])) s.store u
      tree_added =
          let n_is : length t.stack ≡ n = room.stack_length in
          added_on walked.added (rw (top_is, n_is) at put.added)

      -- the rules make the same pieces
      by_rules_more : (g : Graph) (edges : List ℕ) → Around g edges bounds arcs → g.vertices ≡ n
          → ByRules g edges roots H (j + 1) t.marks (k.held ++ (walked.parts ++ (left ∷ []))) (k.places ++ (t.store.pieces ∷ []))
      by_rules_more g edges around n_is =
          let b = k.by_rules g edges around n_is in
          let x : Gives g H r (load [] 0) walked.parts (stacked t.stack 0 t.top z) t.marks (grow_node g.vertices g edges r b.passed) =
          node_as_rules around tree_below (omega arith) b.agrees
          in
          let grown : Grown = grow_node g.vertices g edges r b.passed in
          let tree : Rooted = record { root = r; branches = grown.branches } in
          let pieces : split g H tree ≡ record { parts = walked.parts; left = slice 0 t.top t.stack } = unfold split in x.splits in
          let with_that_left : with_left tree (split g H tree) ≡ walked.parts ++ (left ∷ []) = with_left_are tree (split g H tree) pieces in
          let next : drop j roots ≡ r ∷ drop (j + 1) roots = rest_next roots j more ∙ ap (λ (i : ℕ). i ∷ drop (j + 1) roots) (sym r_is) in
          let rest : grow_from g edges (drop j roots) b.passed ≡ tree ∷ grow_from g edges (drop (j + 1) roots) grown.passed = grow_next g edges next b.passed in
          let number : t.store.pieces ≡ 0 + (length (pieces_for g H b.trees) + length (split g H tree).parts) =
          omega (arith, walked.added.pieces_more, k.added.pieces_more, ap length b.pieces, ap (λ (y : Pieces). length y.parts) pieces)
          in
          record {
            trees = b.trees ++ (tree ∷ []);
            passed = grown.passed;
            agrees = x.agrees;
            grown =
                b.grown
                ∙ ap (λ (l : List Rooted). b.trees ++ l) rest
                ∙ sym (append_snoc b.trees tree (grow_from g edges (drop (j + 1) roots) grown.passed));
            pieces =
                ap (λ (l : List Tree). l ++ (walked.parts ++ (left ∷ []))) b.pieces
                ∙ ap (λ (l : List Tree). pieces_for g H b.trees ++ l) (sym with_that_left)
                ∙ sym (pieces_more g H b.trees tree);
            lefts =
                ap (λ (l : List ℕ). l ++ (t.store.pieces ∷ [])) b.lefts
                ∙ ap (λ (i : ℕ). left_places 0 (map (split g H) b.trees) ++ (i ∷ [])) number
                ∙ sym (lefts_more g H b.trees tree 0);
          }

      -- so one root more is done
      pub roots_more : RootsSplit n bounds arcs roots H a (j + 1) (after t u q.top) (set lefts j t.store.pieces)
      roots_more =
          let fits : u.used + q.top ≡ t.store.used + t.top = omega (arith, put.used_is, put.top_is) in
          let pieces_are : u.pieces ≡ t.store.pieces + 1 = put.added.pieces_more in
          record {
            within = omega arith;
            empty = put.top_is;
            room =
                record {
                  marks_length = room.marks_length;
                  stack_length = room.stack_length;
                  fits = omega (arith, room.fits);
                  sound = tree_added.sound;
                };
            starts_spare = omega (arith, only_first_length tree_added.starts_rest, k.starts_spare, walked.edge_each, put.top_is);
            cuts_spare = omega (arith, only_first_length tree_added.cuts_rest, k.cuts_spare, walked.edge_each, put.top_is);
            few = omega (arith, k.few, walked.edge_each, put.top_is);
            used_few =
                inr
                (⊎_elim
                (λ e. omega (arith, walked.fits, put.top_is, k.empty, unvisited_below s.marks r (omega (arith, k.room.marks_length)) n inside))
                (λ e. omega (arith, walked.fits, put.top_is, k.empty, unvisited_fewer s.marks r n))
                k.used_few);
            held = k.held ++ (walked.parts ++ (left ∷ []));
            added = added_on k.added tree_added;
            lefts_room = rw length-set k.lefts_room;
            places = k.places ++ (t.store.pieces ∷ []);
            lefts_put = put_more t.store.pieces k.lefts_put (omega (arith, k.lefts_room));
            by_rules = by_rules_more;
          }
