-- Pieces held in arrays: nothing added, some trees and then others, and one piece more.
-- Assumes nothing.
use Prim.Native.Nat.{ℕ, ◌+◌, ◌≤◌, ◌<◌}
use mathlib.Core.Path.{◌≡◌, refl, sym, ap, ◌∙◌}
use mathlib.Core.List.{List, [], ◌∷◌, ◌++◌, append_assoc, append-nil, map-map}
use mathlib.Core.Logic.{dite}
use native.Mathlib.Decide.{ℕ_discrete}
use native.Mathlib.Omega.{arith}
use lib.ListN.{length, set, length-set, length-append}
use lib.Seq.{get_or-set_same, get_or-set_other}
use Rattle.lists.specs.Count.{below}
use Rattle.lists.specs.Put.{Put}
use Rattle.lists.proofs.Numbered.{map_below_more}
use Rattle.lists.proofs.Put.{put_length}
use Rattle.lists.proofs.OnlyFirst.{only_first_none, only_first_store, only_first_then, only_first_put}
use Rattle.lists.proofs.PutSlice.{put_before, put_slice}
use Rattle.lists.proofs.Segments.{segment_kept, segment_new, bounded_more}
use Rattle.rules.specs.Cover.{Tree}
use Rattle.rules.specs.Held.{tree_at, trees_at, risen}
use Rattle.rules.specs.Split.{part_at}
use Rattle.bunches.specs.Store.{Store, held_in, Sound, Added}

-- Nothing is added.
pub added_none : {n : ℕ} {s : Store} → Sound n s → Added n [] s s
added_none {s = s} h =
    record {
      sound = h;
      held = sym (append-nil (held_in s));
      pieces_more = omega arith;
      used_more = omega arith;
      starts_rest = only_first_none s.pieces s.starts;
      cuts_rest = only_first_none (s.pieces + 1) s.cuts;
      members_rest = only_first_none s.used s.members;
    }

-- Some trees are added, then others.
pub added_on : {n : ℕ} {xs ys : List Tree} {s t u : Store} → Added n xs s t → Added n ys t u → Added n (xs ++ ys) s u
added_on {xs = xs} {ys = ys} {s = s} a b =
    record {
      sound = b.sound;
      held = b.held ∙ ap (λ (l : List Tree). l ++ ys) a.held ∙ append_assoc (held_in s) xs ys;
      pieces_more = omega (arith, a.pieces_more, b.pieces_more, length-append xs ys);
      used_more = omega (arith, a.used_more, b.used_more);
      starts_rest = only_first_then a.starts_rest b.starts_rest (omega (arith, b.pieces_more));
      cuts_rest = only_first_then a.cuts_rest b.cuts_rest (omega (arith, b.pieces_more));
      members_rest = only_first_then a.members_rest b.members_rest b.used_more;
    }

-- One piece is added, for which there is room.
module _ {n : ℕ} {s : Store} (h : Sound n s) (v : ℕ) (inside : v < n) (edges : List ℕ) (room : s.used + length edges ≤ n)
    (starts_room : s.pieces + 1 + n ≤ s.used + length edges + length s.starts)
    (cuts_room : s.pieces + 1 + n < s.used + length edges + length s.cuts)
    {members : List ℕ} (put : Put s.used edges s.members members) where
  -- the bound behind it
  abbrev next : ℕ
  next = s.used + length edges

  -- the arrays with the piece
  abbrev pub with_piece : Store
  with_piece =
      record {
        starts = set s.starts s.pieces v;
        cuts = set s.cuts (s.pieces + 1) next;
        members = members;
        pieces = s.pieces + 1;
        used = next;
      }

  -- there is room for its start and its bound
  start_fits : s.pieces < length s.starts
  start_fits = omega arith

  cut_fits : s.pieces + 1 < length s.cuts
  cut_fits = omega arith

  -- the trees before, and with the piece stored
  abbrev old : ℕ → Tree
  old i = risen (tree_at s.starts s.cuts s.members i)

  abbrev new : ℕ → Tree
  new i = risen (tree_at with_piece.starts with_piece.cuts members i)

  -- the pieces that were held are as they were
  piece_kept : (i : ℕ) → i < s.pieces → new i ≡ old i
  unfolding tree_at
  piece_kept i l = rw (get_or-set_other s.starts s.pieces i v 0 (omega arith), segment_kept h.bounded next s.members members (put_before put) i l)

  -- the new piece is the one stored
  piece_new : new s.pieces ≡ part_at v edges
  unfolding tree_at risen part_at
  piece_new =
      rw (
        get_or-set_same s.starts s.pieces v 0 start_fits,
        segment_new h.bounded next cut_fits members,
        put_slice put,
      )

  -- the trees held are one more
  held_more : held_in with_piece ≡ held_in s ++ (part_at v edges ∷ [])
  unfolding held_in trees_at
  held_more =
      map-map risen (tree_at with_piece.starts with_piece.cuts members) (below (s.pieces + 1))
      ∙ map_below_more old new s.pieces (part_at v edges) piece_kept piece_new
      ∙ ap (λ (l : List Tree). l ++ (part_at v edges ∷ [])) (sym (map-map risen (tree_at s.starts s.cuts s.members) (below s.pieces)))

  -- so the piece is added, and nothing else changes
  pub piece_added : Added n (part_at v edges ∷ []) s with_piece
  piece_added =
      record {
        sound =
            record {
              few = h.few;
              starts_room = rw length-set (omega arith);
              cuts_room = rw length-set (omega arith);
              members_room = rw (put_length put) h.members_room;
              used_few = room;
              starts_inside =
                  λ i l.
                  dite (ℕ_discrete i s.pieces)
                  (λ e. rw e (omega (arith, get_or-set_same s.starts s.pieces v 0 start_fits)))
                  (λ e. omega (arith, get_or-set_other s.starts s.pieces i v 0 e, h.starts_inside i (omega arith)));
              first = get_or-set_other s.cuts (s.pieces + 1) 0 next 0 (omega arith) ∙ h.first;
              bounded = bounded_more h.bounded next cut_fits (omega arith);
            };
        held = held_more;
        pieces_more = refl;
        used_more = omega arith;
        starts_rest = only_first_store (only_first_none (s.pieces + 1) s.starts) s.pieces v (omega arith);
        cuts_rest = only_first_store (only_first_none (s.pieces + 1 + 1) s.cuts) (s.pieces + 1) next (omega arith);
        members_rest = only_first_put put next (omega arith);
      }
