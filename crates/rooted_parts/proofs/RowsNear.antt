-- Where a word for each part says to which roots it may go, the rows of bytes made of the words say it too, and an assignment by them is the trial's.
-- Assumes nothing.
use Prim.Native.Nat.{ℕ, ◌+◌, ◌*◌, ◌≤◌, ◌<◌}
use mathlib.Core.Path.{◌≡◌, ap, ◌∙◌}
use mathlib.Core.Bool.{Bool, cond}
use mathlib.Core.List.{List}
use native.Mathlib.Omega.{arith}
use lib.Dec.{eqb}
use lib.ListN.{length, get_or, take}
use lib.Seq.{get_or-take, length-take-le}
use Rattle.lists.specs.Count.{below}
use Rattle.graph.specs.Graph.{Graph}
use Rattle.matching.specs.Assignable.{assignable}
use Rattle.matching.specs.Input.{allowed_at}
use Rattle.rules.specs.RootedTrial.{may_go, is_assignable}
use Rattle.near.specs.Bits.{bit_at}
use Rattle.near.specs.Rows.{RowsPut}
use Rattle.lists.proofs.OneOrZero.{bit_says, bit_small}
use Rattle.distance_table.proofs.RowPlaces.{place_within, every_place}
use Rattle.rooted_state.specs.Placed.{RowsAssigned}
use Rattle.rooted_parts.specs.Near.{PartsNear}
use Rattle.rooted_parts.specs.Parts.{AssignAsked, AssignDone}
use Rattle.rooted_state.proofs.AssignmentsAlike.{assignment_same, deficient_same, assignable_same}

module _ {g : Graph} {roots : List ℕ} {limit p : ℕ} {words : List ℕ} (near : PartsNear g roots limit words p) {rows rows' : List ℕ}
    (put : RowsPut (length roots) (take p words) rows rows') (room : p * length roots ≤ length rows) where
  abbrev k : ℕ
  k = length roots

  pub taken : length (take (p * k) rows') ≡ p * k
  taken = length-take-le (p * k) rows' (omega (arith, put.size))

  byte_is : (i j : ℕ) → i < p → j < k → get_or rows' (i * k + j) 0 ≡ cond (may_go g roots limit i j) 1 0
  byte_is i j h l =
      put.each i j (omega (arith, length-take-le p words near.within)) l
      ∙ ap (λ x. cond (bit_at j x) 1 0) (get_or-take p words i 0 h)
      ∙ ap (λ t. cond t 1 0) (near.each i j h l)

  -- The same among the first p rows.
  byte_taken : (i j : ℕ) → i < p → j < k → get_or (take (p * k) rows') (i * k + j) 0 ≡ get_or rows' (i * k + j) 0
  byte_taken i j h l = get_or-take (p * k) rows' (i * k + j) 0 (place_within i p k j (p * k) h l (omega arith))

  pub assign_asked : {assignment : List ℕ} → p ≤ 255 → 1 ≤ k → k ≤ 32 → p ≤ length assignment → AssignAsked p k (take (p * k) rows') assignment
  assign_asked parts_few roots_some roots_few assignment_room =
      record {
        parts_few = parts_few;
        roots_some = roots_some;
        roots_few = roots_few;
        sized = taken;
        ones =
            λ x h.
            every_place (λ x. get_or (take (p * k) rows') x 0 ≤ 1) p k roots_some
            (λ i j l m. rw (byte_taken i j l m, byte_is i j l m) (omega (arith, bit_small (may_go g roots limit i j)))) x (omega (arith, taken));
        room = assignment_room;
      }

  allowed : (i j : ℕ) → i < p → j < k → allowed_at rows' k i j ≡ may_go g roots limit i j
  unfolding allowed_at
  allowed i j h l = ap (λ x. eqb x 1) (byte_is i j h l) ∙ bit_says (may_go g roots limit i j)

  allowed_taken : (i j : ℕ) → i < p → j < k → allowed_at (take (p * k) rows') k i j ≡ may_go g roots limit i j
  unfolding allowed_at
  allowed_taken i j h l = ap (λ x. eqb x 1) (byte_taken i j h l) ∙ allowed i j h l

  pub rows_assigned : {before assignment : List ℕ} {r : Bool} → AssignDone p k (take (p * k) rows') before assignment r → RowsAssigned g roots limit p rows' assignment r
  unfolding is_assignable
  rows_assigned done =
      let by_rows = allowed_at (take (p * k) rows') k in
      let by_rules = may_go g roots limit in
      record {
        near = allowed;
        assigned_is =
            done.is
            ∙ assignable_same by_rows by_rules allowed_taken
            ∙ ap (λ n. assignable by_rules (below n) (below k)) near.count;
        is_assignment = λ t. assignment_same by_rows by_rules allowed_taken (done.is_assignment t);
        deficient = λ t. deficient_same by_rows by_rules allowed_taken (done.deficient t);
      }
