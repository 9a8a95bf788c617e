-- A question about a graph is answered: the trial at a limit; "no cover", or the trial at the limit that was found; and the crews of a question are those of
-- the rules.
-- Assumes nothing.
use Prim.Native.Nat.{ℕ, ◌≤◌}
use mathlib.Core.Path.{◌≡◌, refl, sym}
use mathlib.Core.Bool.{true, false}
use mathlib.Core.List.{List, []}
use mathlib.Core.Option.{Option}
use native.Mathlib.Omega.{arith}
use lib.ListN.{get_or}
use Rattle.lists.proofs.Places.{at_place}
use Rattle.graph.specs.Graph.{Graph}
use Rattle.rules.specs.Cover as cover
use Rattle.rules.specs.RootedTrial.{Choices}
use Rattle.rules.specs.Search.{no_cover_exists}
use Rattle.rules.specs.FewTrials.{standing, untried, within}
use Rattle.rules.specs.Questions.{Question, crews_in, roots_by, written, buffer_after}
use Rattle.rules.specs.Fit.{crew_count, GoodFor}
use Rattle.rules.proofs.CrewsRight.{crew_count_lem}
use Rattle.admit.specs.declared.crews.Kind.{Kind}
use Rattle.admit.specs.declared.crews.Kind.TheVariants.{Rooted, Unrooted}
use Rattle.admit.specs.Crews.{kind_of}
use Rattle.replies.specs.declared.Reply.{Reply}
use Rattle.replies.specs.declared.Reply.TheVariants.{NoCover}
use Rattle.replies.specs.declared.Told.{Told}
use Rattle.replies.specs.Replies.{alone, Answers}
use Rattle.asking.specs.declared.ask.Asked.{Asked}
use Rattle.asking.specs.declared.ask.Asked.TheVariants.{At, Within}
use Rattle.search.specs.declared.limit.Found.{Found}
use Rattle.search.specs.Searching.{found_after}
use Rattle.asking.specs.Asking.{Answered, RootedAsked, UnrootedAsked, CrewsAsked}

-- A trial's answer is that of the question which asks for it.
pub trial_answered : {g : Graph} {crews : cover.Crews} {limit : ℕ} {before after : List ℕ} {r : Reply} → Answers g crews limit before after r
    → Answered (At limit) g crews before after (alone r)
unfolding untried
trial_answered a = record { choices = a.choices; good = a.good; tells = record { replied = a.replied; known = refl } }

module _ {g : Graph} {crews : cover.Crews} (p : ℕ) where
  -- The search's answer where no cover exists,
  pub none_answered : no_cover_exists g crews ≡ true → (before : List ℕ) → (c : Choices) × GoodFor g crews (standing g crews p).high c → Answered (Within p) g crews before before (alone NoCover)
  unfolding within untried buffer_after written
  none_answered t before (c, good) = record { choices = c; good = good; tells = rw t (record { replied = record { same = refl; buffer = refl }; known = refl }) }

  -- and otherwise: it is that of the trial at the limit that was found.
  pub found_answered : (found : Found) {before after : List ℕ} {r : Reply} → no_cover_exists g crews ≡ false → found ≡ found_after g crews p → Answers g crews found.high before after r
      → Answered (Within p) g crews before after (record { reply = r; known = found.known })
  unfolding within
  found_answered found {before} {after} {r} t q a =
      let b : Answers g crews (standing g crews p).high before after r = rw q at a in
      record { choices = b.choices; good = b.good; tells = rw (t, q) (record { replied = b.replied; known = refl }) }

-- The crews of a question: with roots, all of them vertices,
module _ {g : Graph} {crews : cover.Crews} {asked : Asked} {room : ℕ} (a : CrewsAsked g crews asked room) where
  pub rooted_asked : {roots : List ℕ} → crews ≡ cover.rooted roots → RootedAsked g roots asked room
  unfolding crew_count
  rooted_asked {roots} q =
      let same : crews ≡ cover.rooted roots = q in
      let b : CrewsAsked g (cover.rooted roots) asked room = rw same at a in
      record {
        given =
            record {
              valid = b.valid;
              inside = λ j h. b.fit.1 (get_or roots j 0) (at_place 0 roots j h);
              some = b.fit.0;
              few = b.few;
            };
        asked_fits = b.asked_fits;
        room_most = b.room_most;
      }

  -- or without.
  pub unrooted_asked : {k : ℕ} → crews ≡ cover.unrooted k → UnrootedAsked k g asked room
  unfolding crew_count
  unrooted_asked {k} q =
      let same : crews ≡ cover.unrooted k = q in
      let b : CrewsAsked g (cover.unrooted k) asked room = rw same at a in
      record { valid = b.valid; crews_few = b.few; asked_fits = b.asked_fits; room_most = b.room_most }

-- There are as many as the question says.
pub few_crews : (q : Question) {g : Graph} {asked : Asked} {room : ℕ} → CrewsAsked g (crews_in q) asked room → q.k ≤ 32
few_crews q a = omega (arith, a.few, crew_count_lem q.kind q.k q.vans)

-- Whether they have roots is what the question's kind says, and these are those of its list, or numbered from 0.
module _ (q : Question) {kind : Kind} (is : kind_of kind ≡ q.kind) where
  pub rooted_crews : {roots : List ℕ} → kind ≡ Rooted → roots ≡ roots_by q.k q.vans → crews_in q ≡ cover.rooted roots
  rooted_crews {roots} rooted are = let same : kind ≡ Rooted = rooted in rw (sym is, same, are) refl

  pub unrooted_crews : kind ≡ Unrooted → crews_in q ≡ cover.unrooted q.k
  unrooted_crews unrooted = let same : kind ≡ Unrooted = unrooted in rw (sym is, same) refl

-- What is answered by the same crews on the same graph is answered.
pub answered_as : {asked : Asked} {g h : Graph} {crews others : cover.Crews} {before after : List ℕ} {r : Told} → g ≡ h → others ≡ crews → Answered asked g crews before after r
    → Answered asked h others before after r
answered_as {asked} {g} {h} {crews} {others} p q a =
    let same : g ≡ h = p in
    let crews_same : others ≡ crews = q in
    rw crews_same (rw same at a)
