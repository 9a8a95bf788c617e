-- Surfaces on small sheets, computed from the definitions (document 02, A.3).
-- Assumes nothing.
use Rattle.std.specs.Prelude.{ℕ, ◌≡◌, refl, List, [], ◌∷◌, map}
use Rattle.std.proofs.Math.Option.{some, none}
use Rattle.graph.specs.Surface.{percent_of, adjusted}
use Rattle.rules.specs.Reply.{covered, too_low_stop, yes, number}
use Rattle.rules.specs.Questions.{Kind, yards, roving, Question, question}
use Rattle.rules.specs.Districts.{N, tree, nothing, trial, best, check, reply, verdict, answer, Row, row, AsExpected}

-- Each end of document 02's ranges of classes.
pub borders : map percent_of (0 ∷ 9 ∷ 10 ∷ 19 ∷ 20 ∷ 39 ∷ 40 ∷ 59 ∷ 60 ∷ 255 ∷ []) ≡ 100 ∷ 100 ∷ 120 ∷ 120 ∷ 150 ∷ 150 ∷ 200 ∷ 200 ∷ 100 ∷ 100 ∷ []
unfolding percent_of
borders = refl

-- 3.6, 6 and 4.5, "rounded up"; 999,999.6 and 1,000,000.8.
pub rounded : adjusted 3 10 ∷ adjusted 5 19 ∷ adjusted 3 20 ∷ adjusted 833333 10 ∷ adjusted 833334 10 ∷ [] ≡ 4 ∷ 6 ∷ 5 ∷ 1000000 ∷ 1000001 ∷ []
unfolding adjusted percent_of
rounded = refl

-- A question with a class list.
unfoldable pub listing : Kind → ℕ → List ℕ → List ℕ → Question
listing kind k sheet classes = record { kind = kind; k = k; sheet = sheet; classes = some classes; vans = none }

-- Two vertices and an edge: of weight 833,334, and of weight 1,000,001.
unfoldable pub long : List ℕ
long = 2 ∷ 0 ∷ 1 ∷ 0 ∷ 0 ∷ 0 ∷ 1 ∷ 0 ∷ 54 ∷ 183 ∷ 12 ∷ 0 ∷ []

unfoldable pub too_long : List ℕ
too_long = 2 ∷ 0 ∷ 1 ∷ 0 ∷ 0 ∷ 0 ∷ 1 ∷ 0 ∷ 65 ∷ 66 ∷ 15 ∷ 0 ∷ []

-- The cover of sheet N by trees 0 and 1 with edges 0 and 1 in tree 0.
unfoldable pub filed : List ℕ
filed = 2 ∷ 0 ∷ 2 ∷ 0 ∷ 0 ∷ 0 ∷ 1 ∷ 0 ∷ 0 ∷ 0 ∷ 0 ∷ 0 ∷ 0 ∷ 0 ∷ 1 ∷ 0 ∷ []

-- Sheet N by classes 10, 20 and 60: its edges weigh 4, 5 and 5. Then lists that are refused, each number in its place.
unfoldable pub rows : List Row
rows =
    row (trial (listing yards 2 N (10 ∷ 20 ∷ 60 ∷ [])) 4 nothing) (reply (too_low_stop 3))
    ∷ row (best (listing roving 1 N (10 ∷ 20 ∷ 60 ∷ [])) nothing) (reply (covered 8 14 (tree 0 (0 ∷ 1 ∷ 2 ∷ []) ∷ [])))
    ∷ row (check (listing yards 2 N (10 ∷ 20 ∷ 60 ∷ [])) filed) (verdict (yes 9))
    ∷ row (check (question yards 2 N) filed) (verdict (yes 6))
    ∷ row (check (listing yards 2 N []) filed) (verdict (number 53))
    ∷ row (check (listing yards 2 N (10 ∷ 20 ∷ 60 ∷ 0 ∷ [])) filed) (verdict (number 53))
    ∷ row (check (listing yards 0 long (10 ∷ [])) []) (verdict (number 54))
    ∷ row (check (listing yards 0 long (9 ∷ [])) []) (verdict (number 21))
    ∷ row (check (listing yards 0 long (10 ∷ 10 ∷ [])) []) (verdict (number 53))
    ∷ row (check (listing yards 0 too_long []) []) (verdict (number 16))
    ∷ []

pub surfaced_rows : AsExpected rows
unfolding N tree nothing answer row listing long too_long filed rows
surfaced_rows = refl
