-- `rooted_parts::parts::assign_parts` meets its contract: the words of the parts are made into rows, by which the parts are assigned.
-- Assumes nothing.
use Prim.Native.Nat.{ℕ}
use mathlib.Core.Path.{◌≡◌, sym}
use mathlib.Core.List.{List}
use native.Mathlib.Omega.{arith}
use lib.ListN.{length, take, length-replicate}
use lib.Seq.{length-take-le}
use Rattle.graph.specs.Graph.{Graph}
use Rattle.graph.specs.Bytes.{graph_of}
use Rattle.near.specs.Rows.{RowsPut}
use Rattle.rooted_parts.specs.Near.{PartsNear}
use Rattle.rooted_parts.proofs.PartsAssembled.{few}
use Rattle.rooted_parts.proofs.RowsNear.{taken, assign_asked, rows_assigned}
use Rattle.rooted_parts.proofs.parts.assign_parts.Goals as goal

pub pieces_near-requires : goal.pieces_near-requires
pieces_near-requires c = record { held = c.requires.held; words_room = omega (arith, few c.requires.held, c.requires.held.ready.given.valid.vertices_most, length-replicate {A = ℕ} 256 0) }

pub slice_bounds-put_rows-end : goal.slice_bounds-put_rows-end
slice_bounds-put_rows-end c =
    let p : ℕ = c.args.parts in
    let words : List ℕ = c.pieces_near.new.words in
    let g : Graph = c.args.g.now in
    let near : PartsNear g c.args.roots.now c.args.limit words p = c.pieces_near.ensures.near in
    let many : length (take p words) ≡ p = length-take-le p words near.within in
    sym many

pub put_rows-requires : goal.put_rows-requires
put_rows-requires c =
    let p : ℕ = c.args.parts in
    let words : List ℕ = c.pieces_near.new.words in
    let g : Graph = c.args.g.now in
    let near : PartsNear g c.args.roots.now c.args.limit words p = c.pieces_near.ensures.near in
    let many : length (take p words) ≡ p = length-take-le p words near.within in
    rw many c.requires.rows_room

pub slice_bounds-assign_roots-end-2 : goal.slice_bounds-assign_roots-end-2
slice_bounds-assign_roots-end-2 c =
    let g : Graph = c.args.g.now in
    let words : List ℕ = c.pieces_near.new.words in
    let p : ℕ = c.args.parts in
    let near : PartsNear g c.args.roots.now c.args.limit words p = c.pieces_near.ensures.near in
    let k : ℕ = length c.args.roots.now in
    let put : RowsPut k (take p words) c.args.rows.now c.put_rows.new.rows = c.put_rows.ensures in
    sym (taken near put c.requires.rows_room)

pub assign_roots-requires : goal.assign_roots-requires
assign_roots-requires c =
    let g : Graph = c.args.g.now in
    let words : List ℕ = c.pieces_near.new.words in
    let p : ℕ = c.args.parts in
    let near : PartsNear g c.args.roots.now c.args.limit words p = c.pieces_near.ensures.near in
    let k : ℕ = length c.args.roots.now in
    let put : RowsPut k (take p words) c.args.rows.now c.put_rows.new.rows = c.put_rows.ensures in
    assign_asked near put c.requires.rows_room (omega (arith, few c.requires.held, c.requires.held.ready.given.valid.vertices_most)) c.requires.held.ready.given.some c.requires.held.ready.given.few c.requires.assignment_room

pub returns : goal.returns
returns c =
    let g : Graph = c.args.g.now in
    let words : List ℕ = c.pieces_near.new.words in
    let p : ℕ = c.args.parts in
    let near : PartsNear g c.args.roots.now c.args.limit words p = c.pieces_near.ensures.near in
    let k : ℕ = length c.args.roots.now in
    let put : RowsPut k (take p words) c.args.rows.now c.put_rows.new.rows = c.put_rows.ensures in
    let many : length (take p words) ≡ p = length-take-le p words near.within in
    record {
      placed = rows_assigned near put c.requires.rows_room c.assign_roots.ensures;
      rows_rest = rw many at put.rest;
      assignment_rest = c.assign_roots.ensures.rest;
    }
