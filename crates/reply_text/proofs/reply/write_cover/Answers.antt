-- `reply_text::reply::write_cover` meets its contract: the word, the limit, the heaviest weight, the number of trees and the trees' lines, one
-- behind the other. Assumes nothing.
use native.Mathlib.Omega.{arith}
use Rattle.lists.proofs.Put.{put_behind}
use Rattle.reply_text.proofs.TextLengths.{spaced_few, last_few, cover_parts}
use Rattle.reply_text.proofs.reply.write_cover.Goals as goal

pub put_spaced-behind_limit-requires : goal.put_spaced-behind_limit-requires
put_spaced-behind_limit-requires c = omega (arith, spaced_few)

pub put_spaced-behind_heaviest-requires : goal.put_spaced-behind_heaviest-requires
put_spaced-behind_heaviest-requires c = omega (arith, spaced_few)

pub put_last-behind_head-requires : goal.put_last-behind_head-requires
put_last-behind_head-requires c = omega (arith, spaced_few, last_few)

pub put_trees-requires : goal.put_trees-requires
put_trees-requires c = record { entries = c.requires.entries; fits = omega (arith, spaced_few, last_few) }

pub returns : goal.returns
returns c =
    rw (cover_parts c.args.g.now c.args.limit c.args.heaviest c.args.t c.args.c.now)
    (put_behind c.put_word-behind_word.ensures
    (put_behind c.put_spaced-behind_limit.ensures
    (put_behind c.put_spaced-behind_heaviest.ensures (put_behind c.put_last-behind_head.ensures c.put_trees.ensures))))
