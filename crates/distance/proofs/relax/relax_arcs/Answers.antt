-- `distance::relax::relax_arcs` meets its contract. The loop's invariant: the arcs so far are relaxed, and whoever is nearer by them has a new key.
-- Assumes nothing.
use Prim.Native.Nat.{ℕ, ◌+◌, ◌-◌, ◌<◌}
use mathlib.Core.Path.{◌≡◌, refl, ◌∙◌}
use mathlib.Core.List.{List}
use native.Mathlib.Nat.{add-zero, add_assoc}
use native.Mathlib.Omega.{arith}
use lib.ListN.{get_or, length, take, drop, length-drop}
use lib.Seq.{get_or-take, get_or-drop, length-take-le}
use Rattle.edges.specs.Around.{arc_head}
use Rattle.distance.specs.Relaxing.{Relaxable, key_kept}
use Rattle.distance.proofs.ArcsRelaxed.{relaxed_none, relaxed_more}
use Rattle.distance.proofs.ArcsRekeyed.{rekeyed_passed, rekeyed_given, rekeyed_more}
use Rattle.distance.proofs.relax.relax_arcs.Goals as goal

-- The arcs of u are lent as a part of all arcs: the one at a place of the part stands behind all arcs before the part.
module _ {bounds arcs : List ℕ} {u : ℕ} {dist last wait low : List ℕ} (r : Relaxable bounds arcs u dist last wait low) {from end : ℕ}
    (from_is : from ≡ get_or bounds u 0) (end_is : end ≡ get_or bounds (u + 1) 0) where
  lent_size : length (take (end - from) (drop from arcs)) ≡ end - from
  lent_size = length-take-le (end - from) (drop from arcs) (simp length-drop (omega (arith, r.within)))

  module _ {k : ℕ} (more : k < length (take (end - from) (drop from arcs))) where
    lent_is : get_or (take (end - from) (drop from arcs)) k 0 ≡ get_or arcs (from + k) 0
    lent_is = get_or-take (end - from) (drop from arcs) k 0 (omega (arith, lent_size)) ∙ get_or-drop from arcs k 0

    -- So its head is a vertex.
    lent_head : arc_head (get_or (take (end - from) (drop from arcs)) k 0) < r.vertices
    lent_head = r.heads _ (record { place = from + k; from = omega arith; to = omega (arith, lent_size); is = lent_is })

pub loop-a-init : goal.loop-a-init
loop-a-init c = record { done = rw add-zero relaxed_none; rekeyed = λ v. key_kept refl refl; blocks = c.requires.blocks }

pub relax_arc-requires : goal.relax_arc-requires
relax_arc-requires c =
    let inside = lent_head c.requires c.wide-from.ensures.is c.wide-end.ensures.is c.loop-a-test.true in
    record {
      small = omega (arith, c.requires.few, c.requires.vertex);
      distance_fits = omega arith;
      head_dist = omega (arith, inside, c.requires.dist_room, c.loop-a.auto.dist);
      head_last = omega (arith, inside, c.requires.last_room, c.loop-a.auto.last);
    }

pub loop-a-preserved-then-not-relax_arc : goal.loop-a-preserved-then-not-relax_arc
loop-a-preserved-then-not-relax_arc c =
    let inside = lent_head c.requires c.wide-from.ensures.is c.wide-end.ensures.is c.loop-a-test.true in
    let is = lent_is c.requires c.wide-from.ensures.is c.wide-end.ensures.is c.loop-a-test.true in
    record {
      done =
          rw (← add_assoc)
          (relaxed_more c.loop-a.invariant.done (omega arith) is (omega (arith, inside, c.requires.dist_room, c.loop-a.auto.dist))
          (omega (arith, inside, c.requires.last_room, c.loop-a.auto.last)) c.wide_distance-d.ensures.is c.relax_arc.ensures);
      rekeyed = rekeyed_passed c.loop-a.invariant.rekeyed c.if-not-relax_arc.true c.relax_arc.ensures;
      blocks = c.loop-a.invariant.blocks;
    }

pub offset_bounds-dist-v : goal.offset_bounds-dist-v
offset_bounds-dist-v c =
    omega (arith, c.arc_head-v.ensures, lent_head c.requires c.wide-from.ensures.is c.wide-end.ensures.is c.loop-a-test.true, c.requires.few)

pub bounds-dist-v : goal.bounds-dist-v
bounds-dist-v c =
    omega (arith, c.arc_head-v.ensures, lent_head c.requires c.wide-from.ensures.is c.wide-end.ensures.is c.loop-a-test.true, c.requires.dist_room)

pub key_of-requires : goal.key_of-requires
key_of-requires c =
    omega (arith, c.arc_head-v.ensures, lent_head c.requires c.wide-from.ensures.is c.wide-end.ensures.is c.loop-a-test.true, c.requires.few)

pub put_key-requires : goal.put_key-requires
put_key-requires c =
    let head = lent_head c.requires c.wide-from.ensures.is c.wide-end.ensures.is c.loop-a-test.true in
    let inside : c.arc_head-v.result < c.requires.vertices = omega (arith, c.arc_head-v.ensures, head) in
    rekeyed_given c.loop-a.invariant.rekeyed (omega (arith, head, c.requires.dist_room, c.loop-a.auto.dist)) c.arc_head-v.ensures c.key_of.ensures
    (omega (arith, inside, c.requires.few)) c.loop-a.invariant.blocks (c.requires.no_lower c.arc_head-v.result inside) c.if-not-relax_arc.false
    c.relax_arc.ensures

pub loop-a-preserved : goal.loop-a-preserved
loop-a-preserved c =
    let inside = lent_head c.requires c.wide-from.ensures.is c.wide-end.ensures.is c.loop-a-test.true in
    let is = lent_is c.requires c.wide-from.ensures.is c.wide-end.ensures.is c.loop-a-test.true in
    record {
      done =
          rw (← add_assoc)
          (relaxed_more c.loop-a.invariant.done (omega arith) is (omega (arith, inside, c.requires.dist_room, c.loop-a.auto.dist))
          (omega (arith, inside, c.requires.last_room, c.loop-a.auto.last)) c.wide_distance-d.ensures.is c.relax_arc.ensures);
      rekeyed =
          rekeyed_more c.loop-a.invariant.rekeyed (omega (arith, inside, c.requires.dist_room, c.loop-a.auto.dist)) c.arc_head-v.ensures c.key_of.ensures
          (omega (arith, inside, c.requires.few, c.loop-a.invariant.blocks.wait_size)) c.put_key.ensures.stored c.if-not-relax_arc.false
          c.relax_arc.ensures;
      blocks = c.put_key.ensures.blocks;
    }

pub returns : goal.returns
returns c =
    let first : c.wide-from.result ≡ get_or c.args.around.bounds.now c.args.u 0 = c.wide-from.ensures.is in
    let last : c.wide-from.result + c.loop-a.a-index ≡ get_or c.args.around.bounds.now (c.args.u + 1) 0 =
    omega (arith, lent_size c.requires c.wide-from.ensures.is c.wide-end.ensures.is, c.loop-a-test.false)
    in
    record { relaxed = rw (last, first) at c.loop-a.invariant.done; blocks = c.loop-a.invariant.blocks; rekeyed = c.loop-a.invariant.rekeyed }
