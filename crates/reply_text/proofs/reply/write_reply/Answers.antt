-- `reply_text::reply::write_reply` meets its contract: in each case the text is that of the rules' reply.
-- Assumes nothing.
use mathlib.Core.Path.{refl}
use Rattle.lists.specs.Lists.{flat}
use Rattle.reply_text.specs.Lines.{all_spaced, ended, line}
use Rattle.reply_text.proofs.SaidText.{text_said, reply_written, cause_refused}
use Rattle.reply_text.proofs.CoverSaid.{cover_inside, cover_asked, cover_written}
use Rattle.reply_text.proofs.reply.write_reply.Goals as goal

pub returns-in-Refused : goal.returns-in-Refused
returns-in-Refused c =
    let g = c.args.g.now in
    reply_written g c.in-Refused.is (λ trees. cause_refused g trees c.in-Refused.f)
    (rw c.number.ensures at (c.write_refused.ensures.text g))

pub slice_bounds-write_cover-end : goal.slice_bounds-write_cover-end
slice_bounds-write_cover-end c = cover_inside c.in-Cover.is c.cover_length-end.ensures.is c.requires

pub write_cover-requires : goal.write_cover-requires
write_cover-requires c = cover_asked c.in-Cover.is c.cover_length-end.ensures.is c.requires

pub returns-in-Cover : goal.returns-in-Cover
returns-in-Cover c = cover_written c.in-Cover.is c.cover_length-end.ensures.is c.write_cover.ensures

pub returns-in-Stop : goal.returns-in-Stop
unfolding line text_said
returns-in-Stop c = reply_written c.args.g.now c.in-Stop.is (λ trees. refl) c.write_line.ensures

pub returns-in-Parts : goal.returns-in-Parts
unfolding text_said
returns-in-Parts c = reply_written c.args.g.now c.in-Parts.is (λ trees. refl) c.write_parts.ensures

pub returns-in-Needs : goal.returns-in-Needs
unfolding line text_said
returns-in-Needs c = reply_written c.args.g.now c.in-Needs.is (λ trees. refl) c.write_line-in-Needs.ensures

pub returns-in-NoCover : goal.returns-in-NoCover
unfolding all_spaced ended flat line text_said
returns-in-NoCover c = reply_written c.args.g.now c.in-NoCover.is (λ trees. refl) c.put_word.ensures
