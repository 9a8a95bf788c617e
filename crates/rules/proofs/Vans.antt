-- A list of vans (document 02, A.5): the bytes of some roots spell these roots; and the list 0 to k - 1, where k is at most n, gives exactly the replies
-- without a list.
-- Assumes nothing.
use Prim.Native.Nat.{ℕ, ◌*◌, ◌≤◌}
use mathlib.Core.Path.{◌≡◌, refl, sym, ap, ◌∙◌}
use mathlib.Core.List.{List, [], ◌∷◌}
use mathlib.Core.Logic.{◌⊎◌, inl, inr}
use mathlib.Core.Option.{Option, some, none}
use native.Mathlib.Omega.{arith}
use lib.ListN.{length}
use lib.Dec.{ltb}
use borrow.Author.Tests.{lt-ltb, le-ltb, eq-eqb}
use Rattle.lists.specs.Count.{below}
use Rattle.lists.proofs.Below.{of_below}
use Rattle.lists.proofs.Every.{each_all}
use Rattle.lists.proofs.Runs.{map_below, length_below}
use Rattle.graph.specs.Graph.{Graph}
use Rattle.graph.specs.Bytes.{u16_at}
use Rattle.graph.specs.Fault.{Fault, fault_unless, first_fault, refused_or}
use Rattle.graph.proofs.Surfaced.{vertices_sheet}
use Rattle.rules.specs.Cover.{Crews}
use Rattle.rules.specs.CoverBytes.{u16_list}
use Rattle.rules.specs.CheckCover.{cover_fault}
use Rattle.rules.specs.Reply.{refused}
use Rattle.rules.specs.RootedTrial.{Choices}
use Rattle.rules.specs.Search.{trial, best}
use Rattle.rules.specs.Questions.{Kind, yards, roving, Question, listed, graph_in, roots_by, crews_by, crews_in, sheet_fault, too_many_roots, crew_fault, van_fault, question_fault, limit_fault, room_fault, trial_fault, ask_trial, best_fault, ask_best, check_fault, ask_check}
use Rattle.rules.specs.WalkQuestion.{walk_fault, ask_walk}
use Rattle.rules.proofs.Fields.{Small, read_written, fields_length}
use Rattle.rules.proofs.SheetRight.{sheet_right}
use Rattle.rules.proofs.Surfaces.{no_vans}

-- The bytes of roots spell them.
pub vans_read : (roots : List ℕ) → Small roots → roots_by (length roots) (some (u16_list roots)) ≡ roots
vans_read roots small = map_below (λ j. u16_at (u16_list roots) (2 * j)) 0 roots (λ j h. read_written roots small j)

-- The bytes of the list 0 to k - 1.
abbrev pub up_to : ℕ → List ℕ
up_to k = u16_list (below k)

module _ (k : ℕ) (small : k ≤ 65536) where
  -- They spell what is meant without a list.
  up_to_read : roots_by k (some (up_to k)) ≡ below k
  up_to_read = ap (λ n. roots_by n (some (up_to k))) (sym (length_below k)) ∙ vans_read (below k) (λ x m. omega (arith, of_below k m))

  same_crews : (kind : Kind) → crews_by kind k (some (up_to k)) ≡ crews_by kind k none
  same_crews yards = rw up_to_read refl
  same_crews roving = refl

  module _ (n : ℕ) (few : k ≤ n) where
    -- Neither 21 nor 55 tells the two apart.
    same_number : (kind : Kind) → crew_fault kind k (some (up_to k)) n ≡ crew_fault kind k none n
    unfolding crew_fault too_many_roots
    same_number yards = rw (le-ltb n k few) refl
    same_number roving = refl

    up_to_right : (kind : Kind) → van_fault kind k (some (up_to k)) n ≡ none
    unfolding van_fault fault_unless
    up_to_right yards =
        rw (eq-eqb (length (up_to k)) (2 * k) (fields_length (below k) ∙ ap (λ m. 2 * m) (length_below k)), up_to_read)
        (rw (each_all (λ root. ltb root n) (below k) (λ x m. lt-ltb x n (omega (arith, of_below k m)))) refl)
    up_to_right roving = refl

-- A question without a list of vans, and with the list 0 to k - 1.
module _ (kind : Kind) (k : ℕ) (sheet : List ℕ) (classes : Option (List ℕ)) where
  abbrev pub without : Question
  without = record { kind = kind; k = k; sheet = sheet; classes = classes; vans = none }

  abbrev pub numbered : Question
  numbered = record { kind = kind; k = k; sheet = sheet; classes = classes; vans = some (up_to k) }

  module _ (few : k ≤ (graph_in without).vertices) where
    -- The sheet is refused of both, or both are for the same crews and refused alike.
    abbrev Alike : Type 0
    Alike =
        ((n : ℕ) × (question_fault numbered ≡ some n) × (question_fault without ≡ some n))
        ⊎ ((crews_in numbered ≡ crews_in without) × (question_fault numbered ≡ question_fault without))

    alike : Alike
    unfolding question_fault first_fault
    alike = go (sheet_fault sheet) refl
      where
        n : ℕ
        n = (graph_in without).vertices

        go : (f : Fault) → sheet_fault sheet ≡ f → Alike
        go (some m) e = inl (m, rw e refl, rw e refl)
        go none e =
            let most : k ≤ 65536 = omega (arith, few, vertices_sheet sheet (listed classes), ((sheet_right sheet).0 e).valid.vertices_most) in
            inr (same_crews k most kind, rw (same_number k most n few kind, up_to_right k most n few kind, no_vans kind k n) refl)

    -- So is whatever is made of the crews and of what is refused, where a refusal does not look at the crews.
    same : {A : Type 0} (reply : Crews → Fault → A) → ((c d : Crews) (n : ℕ) → reply c (some n) ≡ reply d (some n))
        → reply (crews_in numbered) (question_fault numbered) ≡ reply (crews_in without) (question_fault without)
    same reply refuses = go alike
      where
        go : Alike → reply (crews_in numbered) (question_fault numbered) ≡ reply (crews_in without) (question_fault without)
        go (inl (n, p, q)) = rw (p, q) (refuses (crews_in numbered) (crews_in without) n)
        go (inr (p, q)) = rw (q, p) refl

    abbrev g : Graph
    g = graph_in without

    -- "Callers without a list mean 0 to k - 1": every reply is the same.
    pub same_trial : (limit room : ℕ) (c : Choices) → ask_trial numbered limit room c ≡ ask_trial without limit room c
    unfolding ask_trial trial_fault first_fault refused_or
    same_trial limit room c =
        same (λ crews f. refused_or refused (first_fault (f ∷ limit_fault limit ∷ room_fault room ∷ [])) (trial g crews limit c)) (λ _ _ _. refl)

    pub same_best : (room : ℕ) (c : Choices) → ask_best numbered room c ≡ ask_best without room c
    unfolding ask_best best_fault first_fault refused_or
    same_best room c = same (λ crews f. refused_or refused (first_fault (f ∷ room_fault room ∷ [])) (best g crews c)) (λ _ _ _. refl)

    same_check_fault : (cover : List ℕ) → check_fault numbered cover ≡ check_fault without cover
    unfolding check_fault first_fault
    same_check_fault cover = same (λ crews f. first_fault (f ∷ cover_fault g crews cover ∷ [])) (λ _ _ _. refl)

    pub same_check : (cover : List ℕ) → ask_check numbered cover ≡ ask_check without cover
    unfolding ask_check
    same_check cover = rw (same_check_fault cover) refl

    pub same_walk : (cover : List ℕ) (tree room : ℕ) → ask_walk numbered cover tree room ≡ ask_walk without cover tree room
    unfolding ask_walk walk_fault
    same_walk cover tree room = rw (same_check_fault cover) refl

-- A roving question does not read a list: what is refused of it and whom the cover is for are the same whatever is brought, and so is every reply.
pub roving_unread : (k : ℕ) (sheet : List ℕ) (classes vans : Option (List ℕ)) → let q : Question = record { kind = roving; k = k; sheet = sheet; classes = classes; vans = vans } in
    (question_fault q ≡ question_fault (without roving k sheet classes)) × (crews_in q ≡ crews_in (without roving k sheet classes))
unfolding question_fault crew_fault too_many_roots van_fault
roving_unread k sheet classes vans = (refl, refl)
