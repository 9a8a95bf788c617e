-- `distance::distances_from` meets its contract. The loop's invariant: some vertices are settled, others wait, and `least` is the nearest's key.
-- The measure is how many vertices are not settled. Assumes nothing.
use native.Mathlib.Omega.{arith}
use lib.ListN.{length-replicate, get_or-replicate}
use Rattle.waiting.specs.Waiting.{nobody}
use Rattle.waiting.proofs.KeyBlocks.{blocks_none}
use Rattle.distance.proofs.WhoWaits.{key_low}
use Rattle.distance.proofs.SearchTurns.{searching_start, searched_since, searched_all, searching_vertex, searching_relaxable, searching_fewer, searching_more}
use borrow.Author.Rules.{rules}
use Rattle.distance.proofs.distances_from.Goals as goal

pub start-requires : goal.start-requires
start-requires c = record { root_inside = c.requires.root_inside; dist_room = c.requires.dist_room }

pub key_of-requires : goal.key_of-requires
key_of-requires c = omega (arith, c.requires.root_inside, c.requires.sound.few)

pub put_key-requires : goal.put_key-requires
put_key-requires c =
    record {
      vertex = omega (arith, c.requires.root_inside, c.requires.sound.few);
      blocks = blocks_none;
      no_higher =
          omega (
            arith,
            c.key_of.ensures,
            key_low 0 c.args.root (omega arith) (omega (arith, c.requires.root_inside, c.requires.sound.few)),
            get_or-replicate 256 c.args.root nobody 0 (omega (arith, c.requires.root_inside, c.requires.sound.few)),
          );
    }

pub least_from-least-requires : goal.least_from-least-requires
least_from-least-requires c = omega (arith, c.put_key.ensures.blocks.low_size)

pub loop-least-init : goal.loop-least-init
loop-least-init c =
    searching_start c.requires c.start.ensures (length-replicate 256 nobody) (λ v h. get_or-replicate 256 v nobody 0 h)
    c.key_of.ensures c.put_key.ensures c.least_from-least.ensures

pub take_key-requires : goal.take_key-requires
take_key-requires c = (
  omega (arith, searching_vertex c.loop-least.invariant c.loop-least-test.true c.vertex_of-u.ensures, c.loop-least.invariant.ready.sound.few),
  c.loop-least.invariant.blocks,
)

pub relax_arcs-requires : goal.relax_arcs-requires
relax_arcs-requires c = searching_relaxable c.loop-least.invariant c.loop-least-test.true c.vertex_of-u.ensures c.take_key.ensures

pub least_from-least-requires-in-loop-least : goal.least_from-least-requires-in-loop-least
least_from-least-requires-in-loop-least c = omega (arith, c.relax_arcs.ensures.blocks.low_size)

pub loop-least-smaller : goal.loop-least-smaller
loop-least-smaller c = searching_fewer c.loop-least.invariant c.loop-least-test.true c.vertex_of-u.ensures c.take_key.ensures c.relax_arcs.ensures

pub loop-least-preserved : goal.loop-least-preserved
loop-least-preserved c =
    searching_more c.loop-least.invariant c.loop-least-test.true c.vertex_of-u.ensures c.take_key.ensures c.relax_arcs.ensures
    (search rules) (search rules) c.least_from-least-in-loop-least.ensures

pub returns : goal.returns
returns c = searched_since c.start.ensures (searched_all c.loop-least.invariant (search rules))
