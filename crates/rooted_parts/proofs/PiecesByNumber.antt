-- The pieces of a rooted trial, held in arrays after the trees of the whole forest are split: the parts and the leftovers by their numbers.
-- Assumes nothing.
use Prim.Native.Nat.{ℕ, ◌+◌, ◌≤◌, ◌<◌}
use mathlib.Core.Path.{◌≡◌, sym, ap, subst, ◌∙◌}
use mathlib.Core.List.{List, map}
use native.Mathlib.Omega.{arith}
use lib.ListN.{length, get_or, take, length-map}
use Rattle.lists.specs.Member.{◌∈◌}
use Rattle.lists.specs.Put.{PutTo}
use Rattle.lists.specs.Segments.{segment}
use Rattle.lists.specs.Sort.{rise}
use Rattle.lists.proofs.Places.{at_place}
use Rattle.lists.proofs.Put.{put_count, put_taken, put_fits, put_length, put_only_first, only_first_length}
use Rattle.lists.proofs.OnlyFirst.{only_first_of_more}
use Rattle.graph.specs.Graph.{Graph}
use Rattle.graph.specs.Valid.{Valid}
use Rattle.rules.specs.Cover.{Tree}
use Rattle.rules.specs.Grow.{grow}
use Rattle.rules.specs.Held.{tree_at, trees_at, risen}
use Rattle.rules.specs.Split.{Pieces, part_at, split, all_parts}
use Rattle.rules.specs.Order.{ordered}
use Rattle.rules.specs.Labels.{together}
use Rattle.rules.specs.Forest.{keep}
use Rattle.rules.specs.RootedTrial.{rooted_pieces, rooted_parts, left_at}
use Rattle.edges.specs.Around.{Arcs}
use Rattle.split.specs.Pieces.{left_places, part_places}
use Rattle.split.specs.ForestSplit.{lent, Splittable, Splits, ForestSplit}
use Rattle.split.proofs.NumbersBelow.{part_below, left_below}
use Rattle.split.proofs.ByNumber as numbered
use Rattle.cover.specs.Chosen.{IsHeld}
use Rattle.planner_laws.proofs.RootedPrepared.{pieces_of_whole}
use Rattle.planner_laws.proofs.RootedSize.{rooted_parts_few}
use Rattle.unions.specs.Places.{places_between}
use Rattle.rooted_state.specs.Placed.{arrays_of, PiecesPlaced}
use Rattle.rooted_parts.specs.Parts.{PiecesAsked, PiecesRest}
use Rattle.unions.proofs.PartsBetween.{between_lefts}

-- The trees of the whole forest can be split.
pub can_split : {g : Graph} {roots : List ℕ} {limit : ℕ} {bounds arcs starts cuts members lefts places : List ℕ} {n : ℕ}
    → PiecesAsked g roots limit bounds arcs (arrays_of starts cuts members lefts places) → n ≡ g.vertices → Splittable n bounds arcs roots (lent starts cuts members lefts)
can_split {bounds = bounds} {arcs = arcs} asked q =
    record {
      around = subst (λ m. Arcs m bounds arcs) (sym q) asked.around.sound;
      roots_inside = λ j h. omega (arith, asked.given.inside j h);
      roots_few = omega (arith, asked.given.few);
      starts_room = omega (arith, asked.starts_room);
      cuts_room = omega (arith, asked.cuts_room);
      members_room = omega (arith, asked.members_room);
      lefts_room = asked.lefts_room;
    }

module _ {g : Graph} {roots : List ℕ} {limit : ℕ} {bounds arcs starts cuts members lefts places : List ℕ}
    (asked : PiecesAsked g roots limit bounds arcs (arrays_of starts cuts members lefts places))
    {starts' cuts' flat' lefts' : List ℕ} {n r : ℕ} (n_is : n ≡ g.vertices)
    (x : ForestSplit n bounds arcs roots limit (lent starts cuts members lefts) (lent starts' cuts' flat' lefts') r) where
  -- The edges of the whole forest, and what its trees are split into: the trial's pieces.
  abbrev edges : List ℕ
  edges = rise (keep g (together roots) (ordered g))

  abbrev pieces : List Pieces
  pieces = map (split g limit) (grow g edges roots)

  valid : Valid g
  valid = asked.around.valid

  pieces_are : rooted_pieces g roots limit ≡ pieces
  pieces_are = pieces_of_whole g roots limit valid asked.joined

  parts_all : rooted_parts g roots limit ≡ all_parts pieces
  unfolding rooted_parts
  parts_all = ap all_parts pieces_are

  splits : Splits g edges roots limit (lent starts cuts members lefts) (lent starts' cuts' flat' lefts') r x.used
  splits = x.of_graph g edges asked.around (sym n_is)

  -- Every piece is held.
  below_r : {c : ℕ} → c < 0 + (length (all_parts pieces) + length pieces) → c < r
  below_r h = omega (arith, numbered.all_count splits, numbered.pieces_count splits)

  is_held : {c : ℕ} → c < r → IsHeld cuts' flat' c
  is_held {c} h =
      record {
        forward = x.bounded.rising c h;
        inside = omega (arith, x.bounded.within (c + 1) (omega arith), x.used_few, n_is, asked.members_room, only_first_length x.members_rest);
      }

  -- The numbers of the parts are those between the leftovers'.
  lefts_taken : take (length roots) lefts' ≡ left_places 0 pieces
  lefts_taken = put_taken splits.lefts

  places_are : places_between 0 (take (length roots) lefts') ≡ part_places 0 pieces
  places_are = ap (places_between 0) lefts_taken ∙ between_lefts pieces 0

  many : length (part_places 0 pieces) ≡ length (rooted_parts g roots limit)
  unfolding trees_at
  many =
      sym (length-map (part_places 0 pieces) (tree_at starts' cuts' flat'))
      ∙ sym (length-map (trees_at starts' cuts' flat' (part_places 0 pieces)) risen)
      ∙ ap length (numbered.parts_are splits)
      ∙ ap length (sym parts_all)

  pub places_fit : length (places_between 0 (take (length roots) lefts')) ≤ length places
  places_fit = omega (arith, ap length places_are, many, rooted_parts_few g roots limit valid, asked.places_room)

  module _ {places' : List ℕ} {p : ℕ} (put : PutTo 0 (places_between 0 (take (length roots) lefts')) places places' p) where
    taken : take p places' ≡ part_places 0 pieces
    taken = put_taken put ∙ places_are

    place_below : {c : ℕ} → c ∈ take p places' → c < r
    place_below m = below_r (part_below pieces 0 (rw taken at m))

    this_left : (j : ℕ) → j < length roots
        → rise (segment cuts' flat' (get_or lefts' j 0)) ≡ rise (left_at (rooted_pieces g roots limit) j)
    unfolding risen tree_at part_at
    this_left j h = ap (λ (t : Tree). t.edges) (numbered.left_is splits j h) ∙ ap (λ ps. rise (left_at ps j)) (sym pieces_are)

    left_inside : (j : ℕ) → j < length roots → get_or lefts' j 0 < r
    left_inside j h =
        rw (numbered.left_place splits j h) (below_r (left_below pieces 0 (at_place 0 (left_places 0 pieces) j (omega (arith, put_count splits.lefts)))))

    pub pieces_placed : PiecesPlaced g roots limit (arrays_of starts' cuts' flat' lefts' places') p
    pieces_placed =
        record {
          parts_are = ap (λ l. map risen (trees_at starts' cuts' flat' l)) taken ∙ numbered.parts_are splits ∙ sym parts_all;
          parts_room = omega (arith, put_fits put, put_length put.put);
          parts_held = λ c m. is_held (place_below m);
          starts_inside = λ c m. omega (arith, x.starts_inside c (place_below m), n_is);
          lefts_are = this_left;
          lefts_held = λ j h. is_held (left_inside j h);
        }

    -- What stands behind them is as it came: each root has a piece more than parts, and all pieces together have fewer edges than there are vertices.
    pub pieces_rest : PiecesRest g.vertices (length roots) p (arrays_of starts cuts members lefts places) (arrays_of starts' cuts' flat' lefts' places')
    pieces_rest =
        record {
          starts_rest = only_first_of_more x.starts_rest (g.vertices + length roots) (omega (arith, x.few, x.used_few, n_is));
          cuts_rest = only_first_of_more x.cuts_rest (g.vertices + length roots) (omega (arith, x.few, x.used_few, n_is, some));
          members_rest = only_first_of_more x.members_rest g.vertices (omega (arith, x.used_few, n_is));
          lefts_rest = x.lefts_rest;
          places_rest = put_only_first put;
        }
      where
        some : 1 ≤ g.vertices
        some = omega (arith, asked.given.inside 0 (omega (arith, asked.given.some)))
