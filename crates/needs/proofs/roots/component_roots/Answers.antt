-- `needs::roots::component_roots` meets its contract: the labels that the edges make show the lowest vertices. Assumes nothing.
use native.Mathlib.Omega.{arith}
use Rattle.forest.proofs.Labelling.{labels_below}
use Rattle.needs.proofs.ComponentsLabelled.{roots_written}
use borrow.Author.Rules.{rules}
use Rattle.needs.proofs.roots.component_roots.Goals as goal

pub lowest_of_each-requires : goal.lowest_of_each-requires
lowest_of_each-requires c =
    record {
      most = omega (arith, c.vertex_count.ensures.is, c.requires.valid.vertices_most);
      labels_room = search rules;
      labels_below = rw c.vertex_count.ensures.is (labels_below c.requires.valid c.args.edges.now c.label_edges.new.label c.label_edges.ensures.labels);
      room = search rules;
    }

pub returns : goal.returns
returns c = roots_written c.label_edges.ensures c.vertex_count.ensures.is c.lowest_of_each.ensures
