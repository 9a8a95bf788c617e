-- `cover::index::edges_at` meets its contract: what stands between the two bounds is the tree's segment. Assumes nothing.
use Prim.Native.Nat.{ℕ, ◌+◌, ◌-◌, ◌^◌}
use mathlib.Core.List.{List}
use native.Mathlib.Omega.{arith}
use lib.ListN.{get_or, take, drop, length-take}
use Rattle.lists.proofs.SegmentTaken.{segment_taken}
use Rattle.graph.specs.Bytes.{Reads}
use Rattle.cover.specs.Chosen.{Readable, EdgesOf}
use Rattle.cover.proofs.index.edges_at.Goals as goal

-- The two bounds are read.
module _ {bounds edges : List ℕ} {c from to : ℕ} (h : Readable bounds edges c) (p : Reads (get_or bounds c 0) (2 ^ 16) from)
    (q : Reads (get_or bounds (c + 1) 0) (2 ^ 16) to) where
  between : EdgesOf bounds edges c (take (to - from) (drop from edges))
  between =
      record {
        is = segment_taken bounds edges c p.is q.is h.held.forward h.held.inside;
        few = simp length-take (omega (arith, q.small));
      }

pub returns : goal.returns
returns c = between c.requires c.number_at-from.ensures c.number_at-to.ensures
