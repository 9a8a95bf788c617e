-- What readers ask of a view: that it shows its own bytes.
-- Assumes nothing.
use mathlib.Core.Path.{refl, sym, subst}
use Prim.Native.Nat.{ℕ}
use mathlib.Core.List.{List}
use Rattle.graph.specs.Bytes.{sheet_graph}
use Rattle.graph.specs.View.{CountsOf, Views}
use Rattle.graph.specs.declared.view.View.{View}

-- A view that shows some bytes shows its own.
pub views_own : (v : View) (b : List ℕ) → Views v b → Views v v.bytes.now
views_own v b h =
    record {
      bytes_are = refl;
      counts = subst (λ (x : List ℕ). CountsOf (sheet_graph x) v.vertices v.edges) (sym h.bytes_are) h.counts;
    }
