-- Weightless edges on small sheets, computed from the definitions (document 02, A.4).
-- Assumes nothing.
use Rattle.std.specs.Prelude.{ℕ, refl, List, [], ◌∷◌}
use Rattle.rules.specs.RootedTrial.{Choices}
use Rattle.rules.specs.Reply.{covered, too_low_stop, too_low_needs, yes, number}
use Rattle.rules.specs.Questions.{yards, roving, question}
use Rattle.rules.specs.Districts.{tree, nothing, assigned, trial, best, check, reply, verdict, answer, Row, row, AsExpected}
use Rattle.rules.specs.SurfaceExamples.{listing}

-- A footbridge 0-1 of weight 0 behind an edge 1-2 of weight 5, and vertex 3 alone: at limit 0 three components.
unfoldable pub bridge : List ℕ
bridge = 4 ∷ 0 ∷ 2 ∷ 0 ∷ 1 ∷ 0 ∷ 2 ∷ 0 ∷ 0 ∷ 0 ∷ 1 ∷ 0 ∷ 5 ∷ 0 ∷ 0 ∷ 0 ∷ 0 ∷ 0 ∷ 0 ∷ 0 ∷ []

-- Three weightless edges in a ring, 0-1, 1-2, 2-0.
unfoldable pub ring : List ℕ
ring = 3 ∷ 0 ∷ 3 ∷ 0 ∷ 0 ∷ 0 ∷ 1 ∷ 0 ∷ 1 ∷ 0 ∷ 2 ∷ 0 ∷ 2 ∷ 0 ∷ 0 ∷ 0 ∷ 0 ∷ 0 ∷ 0 ∷ 0 ∷ 0 ∷ 0 ∷ 0 ∷ 0 ∷ 0 ∷ 0 ∷ 0 ∷ 0 ∷ []

-- Sheet N with a gate for its last edge: 0-2 and 2-3 weigh 3, 1-3 weighs 0.
unfoldable pub gated : List ℕ
gated = 4 ∷ 0 ∷ 3 ∷ 0 ∷ 0 ∷ 0 ∷ 2 ∷ 0 ∷ 2 ∷ 0 ∷ 3 ∷ 0 ∷ 1 ∷ 0 ∷ 3 ∷ 0 ∷ 3 ∷ 0 ∷ 0 ∷ 0 ∷ 3 ∷ 0 ∷ 0 ∷ 0 ∷ 0 ∷ 0 ∷ 0 ∷ 0 ∷ []

-- Its part, edge 0, goes to root 1, by the path over edges 2 and 1.
unfoldable pub over_the_gate : Choices
over_the_gate = record { assignment = 1 ∷ []; paths = (2 ∷ 1 ∷ []) ∷ []; marks = [] }

-- Limit 0 with as many crews as there are components and with one fewer, and joined to a root or not; a part at limit 3, for either root; covers
-- whose tree has a weightless edge, and a weightless ring; no class makes anything of nothing; and 16 is not said, so that 21 is.
unfoldable pub rows : List Row
rows =
    row (trial (question roving 3 bridge) 0 nothing) (reply (covered 0 0 (tree 0 (1 ∷ []) ∷ tree 2 [] ∷ tree 3 [] ∷ [])))
    ∷ row (trial (question roving 2 bridge) 0 nothing) (reply (too_low_needs 3))
    ∷ row (best (question roving 3 bridge) nothing) (reply (covered 0 0 (tree 0 (1 ∷ []) ∷ tree 2 [] ∷ tree 3 [] ∷ [])))
    ∷ row (best (question roving 2 bridge) nothing) (reply (covered 5 5 (tree 0 (0 ∷ 1 ∷ []) ∷ tree 3 [] ∷ [])))
    ∷ row (trial (question yards 1 bridge) 0 nothing) (reply (too_low_stop 2))
    ∷ row (trial (question yards 1 ring) 0 nothing) (reply (covered 0 0 (tree 0 (0 ∷ 1 ∷ []) ∷ [])))
    ∷ row (best (question yards 2 ring) nothing) (reply (covered 0 0 (tree 0 [] ∷ tree 1 (1 ∷ []) ∷ [])))
    ∷ row (trial (question yards 2 gated) 3 (assigned (0 ∷ []))) (reply (covered 3 3 (tree 0 (0 ∷ []) ∷ tree 1 (2 ∷ []) ∷ [])))
    ∷ row (trial (question yards 2 gated) 3 over_the_gate) (reply (covered 3 6 (tree 0 [] ∷ tree 1 (0 ∷ 1 ∷ 2 ∷ []) ∷ [])))
    ∷ row (check (question roving 1 ring) (1 ∷ 0 ∷ 2 ∷ 0 ∷ 0 ∷ 0 ∷ 0 ∷ 0 ∷ 0 ∷ 0 ∷ 1 ∷ 0 ∷ 2 ∷ 0 ∷ [])) (verdict (yes 0))
    ∷ row (check (question roving 1 ring) (1 ∷ 0 ∷ 3 ∷ 0 ∷ 0 ∷ 0 ∷ 0 ∷ 0 ∷ 0 ∷ 0 ∷ 0 ∷ 0 ∷ 0 ∷ 0 ∷ 1 ∷ 0 ∷ 2 ∷ 0 ∷ [])) (verdict (number 34))
    ∷ row (best (listing yards 1 ring (10 ∷ 39 ∷ 59 ∷ [])) nothing) (reply (covered 0 0 (tree 0 (0 ∷ 1 ∷ []) ∷ [])))
    ∷ row (check (question yards 0 ring) []) (verdict (number 21))
    ∷ []

pub gate_rows : AsExpected rows
unfolding tree nothing assigned answer row listing bridge ring gated over_the_gate rows
gate_rows = refl
