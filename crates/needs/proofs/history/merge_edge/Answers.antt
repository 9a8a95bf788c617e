-- `needs::history::merge_edge` meets its contract: the labels of the edge's ends are read before they are joined. Assumes nothing.
use Prim.Native.Nat.{◌<◌}
use mathlib.Core.Path.{◌≡◌, ap, ◌∙◌}
use native.Mathlib.Omega.{arith}
use lib.ListN.{get_or}
use Rattle.graph.specs.Graph.{Graph, one_end, other_end}
use Rattle.graph.specs.Bytes.{graph_of}
use Rattle.graph.proofs.Ranges.{one_end_below, other_end_below}
use Rattle.needs.proofs.NotedPlaces.{note_of, noted_of}
use Rattle.needs.proofs.history.merge_edge.Goals as goal

pub bounds-label-one_end : goal.bounds-label-one_end
bounds-label-one_end c =
    let one_inside : c.one_end.result < c.args.g.now.vertices = omega (arith, c.one_end.ensures.is, one_end_below c.requires.labelable.valid c.args.e) in
    omega (arith, one_inside, c.requires.labelable.room)

pub bounds-label-other_end : goal.bounds-label-other_end
bounds-label-other_end c =
    let other_inside : c.other_end.result < c.args.g.now.vertices = omega (arith, c.other_end.ensures.is, other_end_below c.requires.labelable.valid c.args.e) in
    omega (arith, other_inside, c.requires.labelable.room)

pub note_merge-requires : goal.note_merge-requires
note_merge-requires c =
    let g : Graph = c.args.g.now in
    let one_label : c.wide-a.result ≡ get_or c.args.label.now (one_end g c.args.e) 0 = c.wide-a.ensures.is ∙ ap (λ v. get_or c.args.label.now v 0) c.one_end.ensures.is in
    let other_label : c.wide-c.result ≡ get_or c.args.label.now (other_end g c.args.e) 0 = c.wide-c.ensures.is ∙ ap (λ v. get_or c.args.label.now v 0) c.other_end.ensures.is in
    note_of one_label other_label c.weight.ensures.is c.requires.note

pub returns : goal.returns
returns c =
    let g : Graph = c.args.g.now in
    let one_label : c.wide-a.result ≡ get_or c.args.label.now (one_end g c.args.e) 0 = c.wide-a.ensures.is ∙ ap (λ v. get_or c.args.label.now v 0) c.one_end.ensures.is in
    let other_label : c.wide-c.result ≡ get_or c.args.label.now (other_end g c.args.e) 0 = c.wide-c.ensures.is ∙ ap (λ v. get_or c.args.label.now v 0) c.other_end.ensures.is in
    record {
      noted = noted_of one_label other_label c.weight.ensures.is c.note_merge.ensures;
      joined = c.join_ends.ensures.labels;
      label_rest = c.join_ends.ensures.rest;
    }
