-- Where the parts of a rooted trial are placed, the cover or the deficient set may be written; and what is written is the trial's answer.
-- Assumes nothing.
use Prim.Native.Nat.{ℕ, ◌≤◌}
use mathlib.Core.Path.{◌≡◌, refl, sym}
use mathlib.Core.Bool.{Bool, true, false}
use mathlib.Core.List.{List}
use mathlib.Core.Option.{none}
use native.Mathlib.Nat.{mul-le-mul_right}
use native.Mathlib.Omega.{arith}
use lib.ListN.{length, take}
use Rattle.graph.specs.Graph.{Graph}
use Rattle.matching.specs.Assignment.{IsDeficient}
use Rattle.rules.specs.Cover.{rooted}
use Rattle.rules.specs.RootedTrial.{unjoined_at, rooted_parts, may_go, is_assignable}
use Rattle.planner_laws.proofs.RootedSize.{rooted_parts_few}
use Rattle.replies.specs.Replies.{Answers}
use Rattle.replies.specs.declared.Reply.{Reply}
use Rattle.replies.specs.declared.Reply.TheVariants.{Cover}
use Rattle.rooted_answer.specs.Answer.{RootedAnswerAsked, JoinedAsked, JoinedLent, PlacedGiven}
use Rattle.rooted_cover.specs.CoverTrees.{CoverAsked, CoverAtLimits}
use Rattle.rooted_state.specs.Prepared.{PartsReady}
use Rattle.rooted_state.specs.Placed.{arrays_of, TrialArrays, trial_arrays, PartsPlaced}
use Rattle.deficient.specs.TooLowParts.{SetGiven, SetReplied}
use Rattle.rooted_state.proofs.RootsReady.{limit_ready}
use Rattle.rooted_state.proofs.PlacedPieces.{parts_count}
use Rattle.rooted_answer.proofs.RootedAnswers.{answers_cover, answers_parts}
use Rattle.deficient.proofs.TooLowPlaced.{too_low_given, too_low_written}

-- Where every vertex is joined to a root, the parts answer.
pub joined_asked : {g : Graph} {roots : List ℕ} {limit : ℕ} {order kept bounds arcs distances lasts : List ℕ} {room : ℕ}
    → RootedAnswerAsked g roots limit order kept bounds arcs distances lasts room → unjoined_at g roots limit ≡ none
    → JoinedAsked g roots limit order bounds arcs distances lasts room
joined_asked a joined = record { asked = rw a.prepared.decidable.forest at a; joined = joined }

module _ {g : Graph} {roots : List ℕ} {limit : ℕ} {order bounds arcs distances lasts rows : List ℕ} {edges_room room : ℕ}
    (l : JoinedLent g roots limit order bounds arcs distances lasts rows edges_room room) where
  -- The parts may be placed,
  pub joined_ready : PartsReady g roots limit distances
  joined_ready =
      let a = l.asked.asked in
      record {
        asked = record { decidable = a.prepared.decidable; limit_most = a.limit_most };
        joined = l.asked.joined;
      }

  -- no more of them than there are vertices,
  pub placed_few : {a : TrialArrays} {parts : ℕ} {assigned : Bool} → PartsPlaced g roots limit a parts assigned → parts ≤ g.vertices
  placed_few placed =
      omega (arith, parts_count placed.pieces, rooted_parts_few g roots limit l.asked.asked.prepared.decidable.given.valid)

  -- and where they are, in rows no shorter than those lent, they may be answered.
  pub placed_given : {a : TrialArrays} {parts : ℕ} {assigned : Bool} → PartsPlaced g roots limit a parts assigned → length rows ≤ length a.rows
      → PlacedGiven g roots limit order distances lasts a parts assigned edges_room room
  placed_given {parts = parts} placed large =
      let asked = l.asked.asked in
      let few : parts ≤ g.vertices = placed_few placed in
      record {
        cover =
            record {
              ready = limit_ready joined_ready.asked;
              in_order = asked.prepared.in_order;
              last_edges = asked.prepared.last_edges;
              edges_fit = l.edges_fit;
              most = asked.most;
            };
        joined = l.asked.joined;
        placed = placed;
        rows_room = omega (arith, mul-le-mul_right (length roots) few, l.rows_room);
      }

module _ {g : Graph} {roots : List ℕ} {limit : ℕ} {order distances lasts starts cuts members lefts places rows assignment : List ℕ} {parts : ℕ} {assigned : Bool}
    {edges_room room : ℕ} (p : PlacedGiven g roots limit order distances lasts (trial_arrays starts cuts members lefts places rows assignment) parts assigned edges_room room) where
  placed_as : (t : Bool) → assigned ≡ t → PartsPlaced g roots limit (trial_arrays starts cuts members lefts places rows assignment) parts t
  placed_as t q = rw q at p.placed

  decided : (t : Bool) → assigned ≡ t → is_assignable g roots limit ≡ t
  decided t q = sym (placed_as t q).rows.assigned_is

  -- Where each part has a root of its own, the cover may be written,
  pub cover_asked : assigned ≡ true → CoverAsked g order distances lasts roots (arrays_of starts cuts members lefts places) parts assignment edges_room room
  cover_asked q = record { limit = limit; rows = rows; ready = p.cover; placed = placed_as true q }

  -- and is the answer.
  pub cover_answered : assigned ≡ true → {before after : List ℕ} {h : ℕ}
      → CoverAtLimits g roots (arrays_of starts cuts members lefts places) parts assignment before after h
      → Answers g (rooted roots) limit before after (Cover limit h (length roots))
  cover_answered q w =
      let x = w.at_limit limit rows p.cover.ready.limit_most (placed_as true q) in
      answers_cover g roots limit p.joined x.good (decided true q) x.put x.heaviest_is

  -- Otherwise the deficient set may be written,
  pub set_given : assigned ≡ false → SetGiven cuts members places parts rows assignment (length roots) room
  set_given q = too_low_given (placed_as false q) p.cover.ready.given.valid p.rows_room p.cover.most

  -- and is the answer.
  pub set_answered : assigned ≡ false → {before after : List ℕ} {r : Reply}
      → SetReplied starts cuts members places parts rows assignment (length roots) before after r → Answers g (rooted roots) limit before after r
  set_answered q s =
      let x = placed_as false q in
      let deficient : IsDeficient (length (rooted_parts g roots limit)) (length roots) (may_go g roots limit) (take parts assignment) =
      rw (← (parts_count x.pieces)) (x.rows.deficient refl) in
      rw s.is (answers_parts g roots limit p.joined deficient (decided false q) (too_low_written x s.written))
