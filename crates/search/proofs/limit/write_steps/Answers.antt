-- `search::limit::write_steps` meets its contract: crews with roots have steps to write. Assumes nothing.
use Rattle.lists.proofs.Put.{put_only_first}
use Rattle.search.proofs.StepsWritten.{steps_asked, steps_written, steps_fit}
use Rattle.search.proofs.limit.write_steps.Goals as goal

pub put_steps-requires : goal.put_steps-requires
put_steps-requires c =
    let walkable = rw c.in-Rooted.is at c.requires.walkable in
    steps_asked walkable.given walkable.around c.vertex_count.ensures.is c.requires.room

pub returns-in-Rooted : goal.returns-in-Rooted
returns-in-Rooted c =
    let walkable = rw c.in-Rooted.is at c.requires.walkable in
    rw c.in-Rooted.is (record {
      fits = steps_fit c.put_steps.ensures;
      stepped = steps_written walkable.given walkable.around c.vertex_count.ensures.is c.put_steps.ensures;
      rest = put_only_first c.put_steps.ensures.put;
    })
