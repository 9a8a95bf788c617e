-- Lists of vans beside small sheets, computed from the definitions (document 02, A.5).
-- Assumes nothing.
use Rattle.std.specs.Prelude.{ℕ, refl, List, [], ◌∷◌}
use Rattle.std.proofs.Math.Option.{some, none}
use Rattle.rules.specs.Reply.{refused, covered, too_low_parts, yes, number}
use Rattle.rules.specs.Questions.{Kind, yards, roving, Question, question}
use Rattle.rules.specs.Districts.{N, bare, tree, nothing, assigned, set, trial, best, check, reply, verdict, answer, Row, row, AsExpected}

-- A question with a list of vans.
unfoldable pub driving : Kind → ℕ → List ℕ → List ℕ → Question
driving kind k sheet vans = record { kind = kind; k = k; sheet = sheet; classes = none; vans = some vans }

-- Two vertices and an edge of weight 1.
unfoldable pub street : List ℕ
street = 2 ∷ 0 ∷ 1 ∷ 0 ∷ 0 ∷ 0 ∷ 1 ∷ 0 ∷ 1 ∷ 0 ∷ 0 ∷ 0 ∷ []

-- Three edges of weight 5 at vertex 0: 0-1, 0-2, 0-3.
unfoldable pub star : List ℕ
star = 4 ∷ 0 ∷ 3 ∷ 0 ∷ 0 ∷ 0 ∷ 1 ∷ 0 ∷ 0 ∷ 0 ∷ 2 ∷ 0 ∷ 0 ∷ 0 ∷ 3 ∷ 0 ∷ 5 ∷ 0 ∷ 0 ∷ 0 ∷ 5 ∷ 0 ∷ 0 ∷ 0 ∷ 5 ∷ 0 ∷ 0 ∷ 0 ∷ []

-- The cover of the street by two trees at vertex 0, and by one at each end, the edge in the first.
unfoldable pub at_one : List ℕ
at_one = 2 ∷ 0 ∷ 1 ∷ 0 ∷ 0 ∷ 0 ∷ 0 ∷ 0 ∷ 0 ∷ 0 ∷ 0 ∷ 0 ∷ []

unfoldable pub at_both : List ℕ
at_both = 2 ∷ 0 ∷ 1 ∷ 0 ∷ 0 ∷ 0 ∷ 1 ∷ 0 ∷ 0 ∷ 0 ∷ 0 ∷ 0 ∷ []

-- What is left goes to the first van of its vertex; "D counts vans": two of them are near the three parts; vans above n, of which some have nothing;
-- trees start in the list's order. Covers by the list and by vertices 0 to k - 1. Then what is refused, each number in its place, and a list that a
-- roving question does not read.
unfoldable pub rows : List Row
rows =
    row (trial (driving yards 2 street (0 ∷ 0 ∷ 0 ∷ 0 ∷ [])) 5 nothing) (reply (covered 5 1 (tree 0 (0 ∷ []) ∷ tree 0 [] ∷ [])))
    ∷ row (trial (driving yards 2 star (0 ∷ 0 ∷ 0 ∷ 0 ∷ [])) 5 (set (1 ∷ 1 ∷ 1 ∷ [])))
    (reply (too_low_parts 3 2 (tree 0 (0 ∷ []) ∷ tree 0 (1 ∷ []) ∷ tree 0 (2 ∷ []) ∷ [])))
    ∷ row (trial (driving yards 5 star (0 ∷ 0 ∷ 0 ∷ 0 ∷ 0 ∷ 0 ∷ 0 ∷ 0 ∷ 0 ∷ 0 ∷ [])) 5 (assigned (3 ∷ 0 ∷ 1 ∷ [])))
    (reply (covered 5 5 (tree 0 (1 ∷ []) ∷ tree 0 (2 ∷ []) ∷ tree 0 [] ∷ tree 0 (0 ∷ []) ∷ tree 0 [] ∷ [])))
    ∷ row (best (driving yards 3 (bare 1) (0 ∷ 0 ∷ 0 ∷ 0 ∷ 0 ∷ 0 ∷ [])) nothing) (reply (covered 0 0 (tree 0 [] ∷ tree 0 [] ∷ tree 0 [] ∷ [])))
    ∷ row (trial (driving yards 2 N (3 ∷ 0 ∷ 0 ∷ 0 ∷ [])) 7 nothing) (reply (covered 7 5 (tree 3 (2 ∷ []) ∷ tree 0 (0 ∷ []) ∷ [])))
    ∷ row (check (driving yards 2 street (0 ∷ 0 ∷ 0 ∷ 0 ∷ [])) at_one) (verdict (yes 1))
    ∷ row (check (driving yards 2 street (0 ∷ 0 ∷ 0 ∷ 0 ∷ [])) at_both) (verdict (number 32))
    ∷ row (check (question yards 2 street) at_both) (verdict (yes 1))
    ∷ row (check (question yards 2 street) at_one) (verdict (number 32))
    ∷ row (check (question yards 3 street) at_one) (verdict (number 21))
    ∷ row (check (driving yards 3 street (0 ∷ 0 ∷ 0 ∷ 0 ∷ 1 ∷ 0 ∷ [])) at_one) (verdict (number 32))
    ∷ row (check (driving yards 2 street []) at_one) (verdict (number 55))
    ∷ row (check (driving yards 2 street (0 ∷ 0 ∷ 0 ∷ [])) at_one) (verdict (number 55))
    ∷ row (check (driving yards 2 street (0 ∷ 0 ∷ 0 ∷ 0 ∷ 0 ∷ [])) at_one) (verdict (number 55))
    ∷ row (check (driving yards 2 street (0 ∷ 0 ∷ 2 ∷ 0 ∷ [])) at_one) (verdict (number 55))
    ∷ row (check (driving yards 2 street (0 ∷ 1 ∷ 0 ∷ 0 ∷ [])) at_one) (verdict (number 55))
    ∷ row (check (driving yards 0 street []) at_one) (verdict (number 21))
    ∷ row (trial (driving yards 1 street (2 ∷ 0 ∷ [])) 2048000001 nothing) (reply (refused 55))
    ∷ row (trial (driving yards 1 street (1 ∷ 0 ∷ [])) 2048000001 nothing) (reply (refused 22))
    ∷ row (best (driving roving 1 street (9 ∷ [])) nothing) (reply (covered 1 1 (tree 0 (0 ∷ []) ∷ [])))
    ∷ []

pub van_rows : AsExpected rows
unfolding N bare tree nothing assigned set answer row driving street star at_one at_both rows
van_rows = refl
