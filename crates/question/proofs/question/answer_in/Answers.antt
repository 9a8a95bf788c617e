-- `question::question::answer_in` meets its contract: the refusal of an unknown question, or the text of the planner's reply.
-- Assumes nothing.
use Prim.Native.Nat.{◌≤◌}
use mathlib.Core.Path.{◌≡◌, refl, sym, ◌∙◌}
use mathlib.Core.Bool.{false}
use lib.ListN.{length}
use Rattle.rules.specs.Questions.{unknown}
use Rattle.question.proofs.Asked.{known_long, sheet_is, unknown_answered, known_answered}
use borrow.Author.Rules.{rules}
use Rattle.question.proofs.question.answer_in.Goals as goal

pub returns-then-unknown : goal.returns-then-unknown
returns-then-unknown c = record { answered = unknown_answered (sym c.unknown.ensures ∙ c.if-unknown.true) c.write_refused.ensures; buf_scratch = refl }

pub slice_bounds-b-count : goal.slice_bounds-b-count
slice_bounds-b-count c =
    let known : unknown c.args.input.now ≡ false = sym c.unknown.ensures ∙ c.if-unknown.false in
    let long : 8 ≤ length c.args.input.now = known_long c.args.input.now known in
    long

pub returns : goal.returns
returns c =
    let known : unknown c.args.input.now ≡ false = sym c.unknown.ensures ∙ c.if-unknown.false in
    record {
      answered =
          known_answered known c.requires.buffer c.u16_at-asked.ensures.is c.u16_at-k.ensures.is c.u32_at-limit.ensures.is
          (sheet_is c.args.input.now) c.reply_to-reply.ensures (rw c.new.ensures at c.write_reply.ensures);
      buf_scratch = (search rules);
    }

-- The graph's bytes begin behind the head: what is known is not that short.
pub slice_bounds-b-start : goal.slice_bounds-b-start
slice_bounds-b-start c =
    let known : unknown c.args.input.now ≡ false = sym c.unknown.ensures ∙ c.if-unknown.false in
    let long : 8 ≤ length c.args.input.now = known_long c.args.input.now known in
    search rules
