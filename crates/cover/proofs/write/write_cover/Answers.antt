-- `cover::write::write_cover` meets its contract: the counts, the starts, the tree numbers and the edges, one behind the other.
-- Assumes nothing.
use Prim.Native.Nat.{ℕ, ◌^◌, ◌≤◌, ◌<◌}
use mathlib.Core.Path.{◌≡◌}
use mathlib.Core.List.{List}
use native.Mathlib.Omega.{arith}
use lib.ListN.{length}
use Rattle.lists.specs.Put.{PutTo}
use Rattle.rules.specs.CoverBytes.{u16_bytes}
use Rattle.cover.specs.Chosen.{entry_count}
use Rattle.cover.proofs.ChosenBytes.{room_for_all, room_for_count, room_for_starts, room_for_numbers, room_for_edges, all_written}
use Rattle.cover.proofs.write.write_cover.Goals as goal

-- Where one number is put, so is another that equals it.
entries_put : {a b : List ℕ} {at m n r : ℕ} → n ≡ m → PutTo at (u16_bytes n) a b r → PutTo at (u16_bytes m) a b r
entries_put q p = rw q at p

pub entry_count-entries-requires : goal.entry_count-entries-requires
entry_count-entries-requires c =
    let few : entry_count c.args.pieces.cuts.now c.args.chosen.now < 2 ^ 64 = omega (arith, room_for_all c.requires) in
    few

pub put_u16-behind_trees-requires : goal.put_u16-behind_trees-requires
put_u16-behind_trees-requires c =
    let room : 2 ≤ length c.args.buf.now = omega (arith, room_for_all c.requires) in
    room

pub put_u16-behind_counts-requires : goal.put_u16-behind_counts-requires
put_u16-behind_counts-requires c = room_for_count c.requires c.put_u16-behind_trees.ensures

pub put_starts-behind_starts-requires : goal.put_starts-behind_starts-requires
put_starts-behind_starts-requires c =
    room_for_starts c.requires c.put_u16-behind_trees.ensures (entries_put c.entry_count-entries.ensures c.put_u16-behind_counts.ensures)

pub put_tree_numbers-behind_numbers-requires : goal.put_tree_numbers-behind_numbers-requires
put_tree_numbers-behind_numbers-requires c =
    room_for_numbers c.requires c.put_u16-behind_trees.ensures (entries_put c.entry_count-entries.ensures c.put_u16-behind_counts.ensures) c.put_starts-behind_starts.ensures

pub put_edges-requires : goal.put_edges-requires
put_edges-requires c =
    room_for_edges c.requires c.put_u16-behind_trees.ensures (entries_put c.entry_count-entries.ensures c.put_u16-behind_counts.ensures) c.put_starts-behind_starts.ensures c.put_tree_numbers-behind_numbers.ensures

pub returns : goal.returns
returns c =
    all_written c.requires c.put_u16-behind_trees.ensures (entries_put c.entry_count-entries.ensures c.put_u16-behind_counts.ensures) c.put_starts-behind_starts.ensures c.put_tree_numbers-behind_numbers.ensures c.put_edges.ensures
