-- Where there is room for a list and more, there is room for more behind the list once it is put.
-- Assumes nothing.
use Prim.Native.Nat.{ℕ, ◌+◌, ◌≤◌}
use mathlib.Core.List.{List}
use native.Mathlib.Omega.{arith}
use lib.ListN.{length}
use Rattle.lists.specs.Put.{PutTo}
use Rattle.lists.proofs.Put.{put_length}

pub behind_room : {at next : ℕ} {xs before now : List ℕ} (n : ℕ) → PutTo at xs before now next → at + length xs + n ≤ length before → next + n ≤ length now
behind_room n p room = omega (arith, p.behind, put_length p.put)
