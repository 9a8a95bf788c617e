-- A child's piece meets the bunch, on the stack: the three ways.
-- Assumes nothing.
use Prim.Native.Nat.{ℕ, ◌+◌, ◌≤◌}
use mathlib.Core.Path.{◌≡◌, ap}
use mathlib.Core.Bool.{true, false}
use mathlib.Core.List.{List, [], ◌∷◌, ◌++◌}
use native.Mathlib.Omega.{arith}
use lib.Seq.{slice, slice_empty}
use Rattle.lists.proofs.Slices.{slice_join}
use Rattle.rules.specs.Split.{reaches_weight, part_at}
use Rattle.bunches.specs.Store.{Store}
use Rattle.bunches.specs.PiecePut.{Puttable, PiecePut}
use Rattle.bunches.specs.Settles.{alone, full, joins, Settleable, ChildSettled}
use Rattle.bunches.specs.declared.Progress.{Progress}
use Rattle.bunches.specs.declared.bunch.Bunch.{Bunch}
use Rattle.bunches.proofs.PiecesAdded.{added_none}

module _ {v : ℕ} {b : Bunch} {stack : List ℕ} {s : Store} {p : Progress} (m : Settleable v b stack s p) where
  -- what stands on the stack from the bunch or the piece on can become a part
  pub part_fits : {from : ℕ} → from ≤ b.end → Puttable v from stack s p.top
  part_fits h =
      record {
        inside = m.inside;
        on_stack = omega (arith, m.piece_next);
        fits = m.fits;
        sound = m.sound;
        starts_room = omega (arith, m.sound.starts_room, m.piece_next);
        cuts_room = omega (arith, m.sound.cuts_room, m.piece_next);
      }

  -- the bunch and the piece, together
  together : slice b.base p.top stack ≡ slice b.base b.end stack ++ slice b.end p.top stack
  together = slice_join b.base b.end p.top stack m.bunch_first (omega (arith, m.piece_next)) (omega (arith, m.piece_next, m.fits))

  module _ {H : ℕ} {t : Store} {r : Progress} where
    -- "If s is at least H it becomes a part alone."
    pub settled_alone : reaches_weight H p.weight ≡ true → PiecePut v b.end b.weight stack s t p r → ChildSettled H v b stack s t p r
    settled_alone test put =
        record {
          parts = part_at v (slice b.end p.top stack) ∷ [];
          settles = rw (put.top_is, put.weight_is) (alone test);
          added = put.added;
          edge_each = omega (arith, put.added.pieces_more, put.used_is, m.piece_next);
          fits = omega (arith, put.used_is, put.top_is);
          above = omega (arith, put.top_is, m.bunch_first);
          light = omega (arith, put.top_is, put.weight_is, m.bunch_light);
        }

    module _ (small : reaches_weight H p.weight ≡ false) where
      -- "A bunch reaching H becomes a part."
      pub settled_full : reaches_weight H (b.weight + p.weight) ≡ true → PiecePut v b.base 0 stack s t p r → ChildSettled H v b stack s t p r
      settled_full test put =
          record {
            parts = part_at v (slice b.base b.end stack ++ slice b.end p.top stack) ∷ [];
            settles = rw (put.top_is, put.weight_is, slice_empty b.base stack) (full small test);
            added = rw together at put.added;
            edge_each = omega (arith, put.added.pieces_more, put.used_is, m.piece_next, m.bunch_first);
            fits = omega (arith, put.used_is, put.top_is);
            above = omega (arith, put.top_is);
            light = omega (arith, put.weight_is);
          }

      -- "Otherwise it joins the bunch."
      pub settled_joined : reaches_weight H (b.weight + p.weight) ≡ false → t ≡ s → r.top ≡ p.top → r.weight ≡ b.weight + p.weight
          → ChildSettled H v b stack s t p r
      settled_joined test same top_is weight_is =
          record {
            parts = [];
            settles = rw (top_is, weight_is, together) (joins small test);
            added = rw same (added_none m.sound);
            edge_each = rw same (omega arith);
            fits = omega (arith, ap (λ (x : Store). x.used) same, top_is);
            above = omega (arith, top_is, m.piece_next, m.bunch_first);
            light = omega (arith, top_is, weight_is, m.bunch_light, m.piece_light, m.piece_next, m.bunch_first);
          }
