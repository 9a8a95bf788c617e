-- Document 01's printed example, and a line of each other reply, computed from the definitions.
-- Assumes nothing.
use Rattle.std.specs.Prelude.{ℕ, ◌≡◌, refl, List, [], ◌∷◌, map}
use Rattle.lists.specs.Count as Count
use Rattle.lists.specs.Lists as Lists
use Rattle.graph.specs.Surface as Surface
use Rattle.graph.specs.Bytes as Bytes
use Rattle.rules.specs.Walk as Walk
use Rattle.rules.specs.Cover as Cover
use Rattle.rules.specs.Reply.{Reply, refused, covered, too_low_stop, too_low_parts, too_low_needs, no_cover}
use Rattle.rules.specs.Districts.{N, tree}
use Rattle.reply_text.specs.Lines as Lines
use Rattle.reply_text.specs.Lines.{bytes_of}
use Rattle.reply_text.specs.Text.{tree_line, tree_lines, text_of}

-- What is printed of a reply to a question on sheet N.
unfoldable pub printed : Reply → List ℕ
unfolding Count.from Count.below Lists.flat Lists.sum_of Bytes.u16_at Bytes.u32_at Bytes.edge_in Bytes.edges_held Bytes.sheet_graph Bytes.graph_of
    Surface.percent_of Surface.adjusted Surface.class_at Surface.surfaced
    Walk.total_weight Cover.tree_weight Lines.digits_within Lines.digits Lines.spaced Lines.all_spaced Lines.ended Lines.line tree_line tree_lines text_of
printed reply = text_of (Bytes.graph_of N []) reply

-- "Question 1, k = 2, B = 4 prints": the reply is that of the rules' list of small districts.
pub sheet_N : printed (covered 4 6 (tree 0 (0 ∷ 1 ∷ []) ∷ tree 1 [] ∷ [])) ≡ bytes_of "cover 4 6 2\ntree 0 6 0 1\ntree 1 0\n"
unfolding printed N tree
sheet_N = refl

-- The other replies, the largest numbers among them.
pub the_others : map printed
    (too_low_stop 255
    ∷ too_low_parts 2 1 []
    ∷ too_low_needs 256
    ∷ no_cover
    ∷ refused 41
    ∷ covered 2048000000 0 []
    ∷ [])
    ≡ bytes_of "too low stop 255\n"
    ∷ bytes_of "too low parts 2 yards 1\n"
    ∷ bytes_of "too low needs 256\n"
    ∷ bytes_of "no cover\n"
    ∷ bytes_of "refused 41\n"
    ∷ bytes_of "cover 2048000000 0 0\n"
    ∷ []
unfolding printed
the_others = refl
