-- Few trials on small sheets, computed from the definitions (document 02, A.6).
-- Assumes nothing.
use Rattle.std.specs.Prelude.{ℕ, ◌≡◌, refl, Bool, true, false, List, [], ◌∷◌, map}
use Rattle.rules.specs.Cover.{Tree}
use Rattle.rules.specs.Reply.{refused, covered, no_cover}
use Rattle.rules.specs.RootedTrial.{Choices}
use Rattle.rules.specs.FewTrials.{Told, before_trials}
use Rattle.rules.specs.FewTrials as FewTrials
use Rattle.rules.specs.Questions.{yards, roving, Question, question, least_room, graph_in, crews_in}
use Rattle.rules.specs.Questions as Questions
use Rattle.rules.specs.Districts.{N, bare, tree, nothing, assigned, answer}
use Rattle.rules.specs.VanExamples.{street}

-- What the definitions tell, with a buffer of so many bytes, and the limits that they try.
unfoldable pub tells_in : ℕ → Question → ℕ → Choices → Told
unfolding answer FewTrials.middles FewTrials.tried FewTrials.standing FewTrials.known FewTrials.untried FewTrials.within
    Questions.trials_fault Questions.within_fault Questions.ask_within
tells_in room q p c = Questions.ask_within q p room c

unfoldable pub tells : Question → ℕ → Choices → Told
unfolding tells_in
tells q p c = tells_in least_room q p c

unfoldable pub limits : Question → ℕ → List ℕ
unfolding tells_in
limits q p = FewTrials.tried (graph_in q) (crews_in q) p

-- A cover at a limit, its heaviest weight, the trials made, the floor, and whether they are spent.
unfoldable pub found : ℕ → ℕ → List Tree → ℕ → ℕ → Bool → Told
found limit heaviest trees trials floor spent = record { reply = covered limit heaviest trees; known = record { trials = trials; floor = floor; spent = spent } }

-- Six vertices and seven edges: 3-5 of weight 6, 4-3 of 2, 2-0 of 1, 1-3 of 2, 2-3 of 6, 2-3 of 5, 3-4 of 3.
unfoldable pub rising : List ℕ
rising =
    6 ∷ 0 ∷ 7 ∷ 0
    ∷ 3 ∷ 0 ∷ 5 ∷ 0 ∷ 4 ∷ 0 ∷ 3 ∷ 0 ∷ 2 ∷ 0 ∷ 0 ∷ 0 ∷ 1 ∷ 0 ∷ 3 ∷ 0 ∷ 2 ∷ 0 ∷ 3 ∷ 0 ∷ 2 ∷ 0 ∷ 3 ∷ 0 ∷ 3 ∷ 0 ∷ 4 ∷ 0
    ∷ 6 ∷ 0 ∷ 0 ∷ 0 ∷ 2 ∷ 0 ∷ 0 ∷ 0 ∷ 1 ∷ 0 ∷ 0 ∷ 0 ∷ 2 ∷ 0 ∷ 0 ∷ 0 ∷ 6 ∷ 0 ∷ 0 ∷ 0 ∷ 5 ∷ 0 ∷ 0 ∷ 0 ∷ 3 ∷ 0 ∷ 0 ∷ 0 ∷ []

-- Sheet N: spent after two and after three trials, not spent after six, and more than six are not made. Four roving crews: limit 0, by one trial. An edge
-- of weight 1: two trials, and nothing is left to try. No cover, whatever p is. 56 for one trial and for 34, after 23 and after 21.
few_rows :
    tells (question yards 2 N) 2 nothing
    ∷ tells (question yards 2 N) 3 (assigned (0 ∷ []))
    ∷ tells (question yards 2 N) 6 (assigned (0 ∷ []))
    ∷ tells (question yards 2 N) 33 (assigned (0 ∷ []))
    ∷ tells (question roving 4 N) 2 nothing
    ∷ tells (question yards 1 street) 2 (assigned (0 ∷ []))
    ∷ tells (question yards 1 (bare 2)) 2 nothing
    ∷ tells (question roving 1 (bare 2)) 33 nothing
    ∷ tells (question yards 2 N) 1 nothing
    ∷ tells (question yards 2 N) 34 nothing
    ∷ tells_in 32707 (question yards 2 N) 1 nothing
    ∷ tells_in 0 (question yards 5 N) 1 nothing
    ∷ []
    ≡ found 11 6 (tree 0 (0 ∷ 1 ∷ []) ∷ tree 1 [] ∷ []) 2 1 true
    ∷ found 5 6 (tree 0 (0 ∷ 1 ∷ []) ∷ tree 1 [] ∷ []) 3 1 true
    ∷ found 4 6 (tree 0 (0 ∷ 1 ∷ []) ∷ tree 1 [] ∷ []) 6 4 false
    ∷ found 4 6 (tree 0 (0 ∷ 1 ∷ []) ∷ tree 1 [] ∷ []) 6 4 false
    ∷ found 0 0 (tree 0 [] ∷ tree 1 [] ∷ tree 2 [] ∷ tree 3 [] ∷ []) 1 0 false
    ∷ found 1 1 (tree 0 (0 ∷ []) ∷ []) 2 1 false
    ∷ before_trials no_cover
    ∷ before_trials no_cover
    ∷ before_trials (refused 56)
    ∷ before_trials (refused 56)
    ∷ before_trials (refused 23)
    ∷ before_trials (refused 21)
    ∷ []
unfolding N bare street tree nothing assigned tells tells_in found
few_rows = refl

-- The limits tried: 0, the sum, then the halving; as many as there are trials.
limits_tried : map (λ p. limits (question yards 2 N) p) (2 ∷ 3 ∷ 6 ∷ 33 ∷ []) ≡ (0 ∷ 11 ∷ []) ∷ (0 ∷ 11 ∷ 5 ∷ []) ∷ (0 ∷ 11 ∷ 5 ∷ 2 ∷ 3 ∷ 4 ∷ []) ∷ (0 ∷ 11 ∷ 5 ∷ 2 ∷ 3 ∷ 4 ∷ []) ∷ []
unfolding N limits
limits_tried = refl

-- "The heaviest weight may do either": three trials give limit 12 and heaviest 10, four give limit 6 and, where the part goes to root 0, heaviest 12.
heaviest_rises :
    tells (question yards 3 rising) 3 nothing
    ∷ tells (question yards 3 rising) 4 (record { assignment = 0 ∷ []; paths = (2 ∷ 5 ∷ []) ∷ []; marks = [] })
    ∷ []
    ≡ found 12 10 (tree 0 [] ∷ tree 1 (0 ∷ 1 ∷ 3 ∷ []) ∷ tree 2 [] ∷ []) 3 1 true
    ∷ found 6 12 (tree 0 (0 ∷ 2 ∷ 5 ∷ []) ∷ tree 1 (1 ∷ 3 ∷ []) ∷ tree 2 [] ∷ []) 4 1 true
    ∷ []
unfolding nothing tree rising tells found
heaviest_rises = refl
