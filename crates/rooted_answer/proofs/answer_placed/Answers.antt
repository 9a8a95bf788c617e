-- `rooted_answer::answer_placed` meets its contract. Assumes nothing.
use Rattle.lists.proofs.OnlyFirst.{only_first_none}
use Rattle.rooted_answer.proofs.PlacedAnswered.{cover_asked, cover_answered, set_given, set_answered}
use Rattle.rooted_answer.proofs.answer_placed.Goals as goal

pub write_rooted-heaviest-requires : goal.write_rooted-heaviest-requires
write_rooted-heaviest-requires c = cover_asked c.requires c.if-placed.true

pub returns-then-placed : goal.returns-then-placed
returns-then-placed c = record { answers = cover_answered c.requires c.if-placed.true c.write_rooted-heaviest.ensures.cover; edges_rest = c.write_rooted-heaviest.ensures.edges_rest }

pub reply_deficient-requires : goal.reply_deficient-requires
reply_deficient-requires c = set_given c.requires c.if-placed.false

pub returns : goal.returns
returns c = record { answers = set_answered c.requires c.if-placed.false c.reply_deficient.ensures; edges_rest = only_first_none _ _ }
