-- `needs::history::merge_all` meets its contract. The loop's invariant: the edges before i are merged and noted. Assumes nothing.
use Prim.Native.Nat.{ℕ, ◌+◌}
use mathlib.Core.Path.{refl}
use mathlib.Core.List.{List}
use native.Mathlib.Omega.{arith}
use lib.ListN.{length}
use Rattle.lists.proofs.OnlyFirst.{only_first_none, only_first_on}
use Rattle.graph.specs.Graph.{Graph}
use Rattle.graph.specs.Bytes.{graph_of}
use Rattle.needs.specs.History.{MergesAsked}
use Rattle.needs.proofs.HistoryRecorded.{Room, Sizes, recorded_none, note_asked, merged_only, merged_made, recorded_more, recorded_all}
use Rattle.needs.proofs.WholeForest.{all_kept, kept_fewer}
use Rattle.needs.proofs.history.merge_all.Goals as goal

-- The arrays have the room that they came with.
room_of : {g : Graph} {m : ℕ} {kept label₀ made₀ total₀ until₀ label made total until : List ℕ} → MergesAsked g kept label₀ made₀ total₀ until₀
    → Sizes g.vertices m label₀ made₀ total₀ until₀ label made total until → Room g.vertices label made total until
room_of asked s =
    record {
      labels = omega (arith, asked.labels_room, s.labels);
      mades = omega (arith, asked.made_room, s.mades);
      totals = omega (arith, asked.history.total_most, s.totals);
      untils = omega (arith, asked.history.until_most, s.untils);
    }

pub loop-i-init : goal.loop-i-init
loop-i-init c =
    record {
      recorded =
          recorded_none c.args.g.now c.args.kept.now c.args.label.now c.args.made.now c.args.total.now
          c.args.until.now c.requires.labels c.requires.made_none c.requires.none;
      sizes =
          record {
            labels = refl;
            mades = refl;
            totals = refl;
            untils = refl;
            label_only = only_first_none _ c.args.label.now;
            made_only = only_first_none _ c.args.made.now;
            total_only = only_first_none _ c.args.total.now;
            until_only = only_first_none _ c.args.until.now;
          };
    }

pub merge_edge-requires : goal.merge_edge-requires
merge_edge-requires c =
    let f = c.requires.history.forest_kept in
    let room = room_of c.requires c.loop-i.invariant.sizes in
    record {
      labelable = record { valid = f.valid; room = room.labels };
      note =
          note_asked f.valid (all_kept f) (kept_fewer f) c.loop-i.i (omega arith) room c.loop-i.invariant.recorded c.wide.result
          c.wide.ensures.is;
    }

pub loop-i-preserved : goal.loop-i-preserved
loop-i-preserved c =
    let f = c.requires.history.forest_kept in
    let sizes = c.loop-i.invariant.sizes in
    let room = room_of c.requires sizes in
    let only = merged_only f.valid (all_kept f) (kept_fewer f) c.loop-i.i (omega arith) room c.loop-i.invariant.recorded
    c.wide.ensures.is c.merge_edge.ensures (length c.args.kept.now + 1) (omega arith) in
    record {
      recorded =
          recorded_more f.valid (all_kept f) (kept_fewer f) c.loop-i.i (omega arith) room c.loop-i.invariant.recorded
          c.wide.ensures.is c.merge_edge.ensures;
      sizes =
          record {
            labels = omega (arith, sizes.labels);
            mades = omega (arith, sizes.mades);
            totals = omega (arith, sizes.totals);
            untils = omega (arith, sizes.untils);
            label_only = only_first_on sizes.label_only c.merge_edge.ensures.label_rest;
            made_only =
                only_first_on sizes.made_only
                (merged_made f.valid (all_kept f) (kept_fewer f) c.loop-i.i (omega arith) room c.loop-i.invariant.recorded
                c.wide.ensures.is c.merge_edge.ensures);
            total_only = only_first_on sizes.total_only only.0;
            until_only = only_first_on sizes.until_only only.1;
          };
    }

pub returns : goal.returns
returns c =
    let f = c.requires.history.forest_kept in
    let sizes = c.loop-i.invariant.sizes in
    record {
      written =
          record {
            history =
                recorded_all f.valid (all_kept f) (kept_fewer f) (room_of c.requires sizes) c.loop-i.invariant.recorded
                (omega arith);
            total_rest = sizes.total_only;
            until_rest = sizes.until_only;
          };
      label_rest = sizes.label_only;
      made_rest = sizes.made_only;
    }
