-- `pieces::arcs::put_arcs` meets its contract: the arcs are put over a copy of the edges that rises. Assumes nothing.
use mathlib.Core.Path.{◌≡◌, sym, ap, ◌∙◌}
use native.Mathlib.Omega.{arith}
use lib.ListN.{length, take}
use Rattle.lists.specs.Sort.{rise}
use Rattle.lists.proofs.Put.{put_count, put_taken}
use Rattle.lists.proofs.Sorting.{of_rise, rise_length}
use Rattle.pieces.proofs.arcs.put_arcs.Goals as goal

pub sweep_edges-r-requires : goal.sweep_edges-r-requires
sweep_edges-r-requires c =
    record {
      once = c.requires.once;
      inside = λ e m. omega (arith, c.requires.inside e m, c.edge_count.ensures.is);
      most = omega (arith, c.edge_count.ensures.is, c.requires.valid.edges_most);
      room = c.requires.few;
    }

pub slice_bounds-put_around-end : goal.slice_bounds-put_around-end
slice_bounds-put_around-end c =
    let rises : take c.sweep_edges-r.result c.sweep_edges-r.new.out ≡ rise c.args.edges.now = put_taken c.sweep_edges-r.ensures in
    put_count c.sweep_edges-r.ensures ∙ sym (ap length rises)

pub put_around-requires : goal.put_around-requires
put_around-requires c =
    let rises : take c.sweep_edges-r.result c.sweep_edges-r.new.out ≡ rise c.args.edges.now = put_taken c.sweep_edges-r.ensures in
    let size = ap length rises ∙ rise_length c.args.edges.now in
    record {
      valid = c.requires.valid;
      inside = λ e m. c.requires.inside e (of_rise c.args.edges.now (rw rises at m));
      few = omega (arith, size, c.requires.few);
      bounds_room = c.requires.bounds_room;
      arcs_room = omega (arith, size, c.requires.arcs_room);
    }

pub returns : goal.returns
returns c =
    let rises : take c.sweep_edges-r.result c.sweep_edges-r.new.out ≡ rise c.args.edges.now = put_taken c.sweep_edges-r.ensures in
    rw rises at c.put_around.ensures
