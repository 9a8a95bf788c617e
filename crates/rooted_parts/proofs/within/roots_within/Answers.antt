-- `rooted_parts::within::roots_within` meets its contract: the words of the vertices are lent, which stand first. Assumes nothing.
use mathlib.Core.Path.{◌≡◌, sym}
use Rattle.graph.specs.Bytes.{graph_of}
use Rattle.rooted_parts.proofs.WordsWithin.{lent, front_asked, front_near}
use Rattle.rooted_parts.proofs.within.roots_within.Goals as goal

pub slice_bounds-near_vertices-end-2 : goal.slice_bounds-near_vertices-end-2
slice_bounds-near_vertices-end-2 c =
    let n_is : c.vertex_count-n.result ≡ c.args.g.now.vertices = c.vertex_count-n.ensures.is in
    sym (lent c.requires _ n_is)

pub near_vertices-requires : goal.near_vertices-requires
near_vertices-requires c =
    let n_is : c.vertex_count-n.result ≡ c.args.g.now.vertices = c.vertex_count-n.ensures.is in
    front_asked c.requires _ n_is

pub returns : goal.returns
returns c =
    let n_is : c.vertex_count-n.result ≡ c.args.g.now.vertices = c.vertex_count-n.ensures.is in
    front_near c.requires _ n_is c.near_vertices.new.near c.near_vertices.ensures
