-- `gate_replies::fixed::write_fixed` meets its contract, reply by reply.
-- Assumes nothing.
use Rattle.lists.specs.Lists.{flat}
use Rattle.reply_text.specs.Lines.{all_spaced, ended, line}
use Rattle.reply_text.proofs.CoverSaid.{cover_inside}
use Rattle.gate_replies.proofs.FixedReplies.{fixed_cover, fixed_parts, fixed_other}
use Rattle.gate_replies.proofs.fixed.write_fixed.Goals as goal

pub slice_bounds-confirms-end : goal.slice_bounds-confirms-end
slice_bounds-confirms-end c = cover_inside c.in-Cover.is c.cover_length-end.ensures.is c.requires

pub returns-in-Cover : goal.returns-in-Cover
returns-in-Cover c = fixed_cover c.in-Cover.is c.cover_length-end.ensures.is c.confirms-sure.ensures c.write_sure.ensures

pub returns-in-Parts : goal.returns-in-Parts
unfolding all_spaced ended flat line
returns-in-Parts c = fixed_parts c.in-Parts.is c.put_word.ensures

pub write_reply-requires : goal.write_reply-requires
write_reply-requires c = rw c.graph.ensures c.requires

pub returns-in_default : goal.returns-in_default
returns-in_default c = fixed_other c.args.reply (c.in_default.not-Cover, c.in_default.not-Parts) (rw c.graph.ensures at c.write_reply.ensures)
