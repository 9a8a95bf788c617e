-- Relaxing one arc.
-- Assumes nothing.
use Prim.Native.Nat.{ℕ, ◌+◌, ◌≤◌, ◌<◌}
use mathlib.Core.Path.{◌≡◌, refl, sym}
use mathlib.Core.Bool.{true, false}
use mathlib.Core.List.{List}
use lib.ListN.{get_or, set}
use Rattle.edges.specs.Around.{arc_edge, arc_head, arc_weight}
use Rattle.waiting.specs.Last.{last_of}
use Rattle.waiting.specs.OneArc.{ArcRelaxed, kept, lowered}

-- One arc, by what is read from it.
module _ {a u d v w : ℕ} (head : v ≡ arc_head a) (weight : w ≡ arc_weight a) (dist last : List ℕ) where
  pub arc_kept : get_or dist v 0 ≤ d + w → ArcRelaxed a u d dist last dist last false
  arc_kept h = kept (rw (sym head, sym weight) h) refl refl refl

  pub arc_changed : {e x : ℕ} → d + w < get_or dist v 0 → e ≡ arc_edge a → x ≡ last_of e u
      → ArcRelaxed a u d dist last (set dist v (d + w)) (set last v x) true
  arc_changed {e} {x} h edge q = lowered (rw (sym head, sym weight) h) (rw (head, weight)) (rw (q, edge, head)) refl
