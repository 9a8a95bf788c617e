-- The edges that lead from a vertex: where `leads_on` says yes the edge joins the vertex with one not yet passed, and where it says no
-- the edge joins it with none but passed ones.
-- Assumes nothing.
use Prim.Native.Nat.{ℕ}
use mathlib.Core.Path.{◌≡◌, refl, sym}
use mathlib.Core.Bool.{Bool, true, false, not, ◌&&◌, ◌||◌, false≢true}
use mathlib.Core.List.Memᴰ
use mathlib.Core.List.{List}
use lib.Dec.{eqb}
use borrow.Author.Tests.{not-false}
use Rattle.lists.specs.Lists.{member}
use Rattle.lists.specs.Member.{◌∈◌}
use Rattle.lists.proofs.Member.{member_in, member_out}
use Rattle.graph.specs.Graph.{Graph, one_end, other_end}
use Rattle.rules.specs.Walk.{Joins}
use Rattle.rules.specs.Grow.{far_end, leads_on}
use Rattle.rules.proofs.FarEnd.{far_end_lem, joins_far, end_test}

module _ {g : Graph} where
  -- An edge that leads on from v joins v with a vertex not yet passed.
  pub leads_on_lem : (passed : List ℕ) (v e : ℕ) → leads_on g passed v e ≡ true → Joins g e v (far_end g e v) × (far_end g e v ∈ passed → ⊥)
  unfolding leads_on
  leads_on_lem passed v e t = go (eqb (one_end g e) v || eqb (other_end g e) v) refl t
    where
      go : (b : Bool) → eqb (one_end g e) v || eqb (other_end g e) v ≡ b → b && not (member (far_end g e v) passed) ≡ true → Joins g e v (far_end g e v) × (far_end g e v ∈ passed → ⊥)
      go true s t = (joins_far e v s, member_out (far_end g e v) passed t)
      go false s t = absurd (false≢true t)

  -- An edge that does not lead on from v joins v with passed vertices only.
  pub leads_nowhere : (passed : List ℕ) (v e : ℕ) → leads_on g passed v e ≡ false → {w : ℕ} → Joins g e v w → w ∈ passed
  unfolding leads_on
  leads_nowhere passed v e t {w} j =
      let s : not (member (far_end g e v) passed) ≡ false = rw (end_test j) at t in
      Memᴰ.cast (sym (far_end_lem j)) (member_in (far_end g e v) passed (not-false (member (far_end g e v) passed) s))
