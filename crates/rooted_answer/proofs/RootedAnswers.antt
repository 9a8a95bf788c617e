-- The three answers of a rooted trial: a vertex is joined to no root, or else a cover was written, or else the parts of a deficient set.
-- Assumes nothing.
use Prim.Native.Nat.{ℕ, ◌<◌}
use mathlib.Core.Path.{◌≡◌, refl, sym, ◌∙◌}
use mathlib.Core.Bool.{true, false, true≢false}
use mathlib.Core.List.{List, []}
use mathlib.Core.Option.{some, none}
use lib.ListN.{length}
use Rattle.lists.specs.Member.{◌∈◌}
use Rattle.lists.specs.Put.{Put}
use Rattle.lists.proofs.PutPlaces.{put_at_front}
use Rattle.lists.proofs.Runs.{length_map_below}
use Rattle.graph.specs.Graph.{Graph}
use Rattle.graph.specs.Valid.{Valid}
use Rattle.matching.specs.Assignment.{IsDeficient, marked_parts, allowed_roots}
use Rattle.rules.specs.Cover.{rooted, heaviest}
use Rattle.rules.specs.CoverBytes.{encode}
use Rattle.rules.specs.Questions.{written, buffer_after}
use Rattle.rules.specs.Reply.{covered, too_low_stop, too_low_parts}
use Rattle.rules.specs.RootedTrial.{Choices, GoodChoices, unjoined_at, rooted_parts, may_go, is_assignable, rooted_cover, chosen_parts, stop_or, rooted_trial}
use Rattle.rules.specs.Search.{trial}
use Rattle.planner_laws.proofs.SomeChoices.{some_choices}
use Rattle.replies.specs.Replies.{Answers}
use Rattle.replies.specs.declared.Reply.TheVariants.{Cover, Stop, Parts}
use Rattle.deficient.specs.declared.Deficient.{Deficient}
use Rattle.deficient.specs.TooLowParts.{DeficientWritten}

-- A cover has a tree for each root.
cover_many : (g : Graph) (roots : List ℕ) (limit : ℕ) (c : Choices) → length (rooted_cover g roots limit c) ≡ length roots
unfolding rooted_cover
cover_many g roots limit c = length_map_below _ (length roots)

module _ (g : Graph) (roots : List ℕ) (limit : ℕ) where
  abbrev parts : ℕ
  parts = length (rooted_parts g roots limit)

  -- The trial's reply, where some vertex is joined to no root,
  trial_stop : (c : Choices) {v : ℕ} → unjoined_at g roots limit ≡ some v → trial g (rooted roots) limit c ≡ too_low_stop v
  unfolding trial rooted_trial stop_or
  trial_stop c q = rw q refl

  module _ (joined : unjoined_at g roots limit ≡ none) where
    -- where the parts are assigned,
    trial_cover : (c : Choices) → is_assignable g roots limit ≡ true
        → trial g (rooted roots) limit c ≡ covered limit (heaviest g (rooted_cover g roots limit c)) (rooted_cover g roots limit c)
    unfolding trial rooted_trial stop_or
    trial_cover c t = rw (joined, t) refl

    -- and where they are not.
    trial_parts : (c : Choices) → is_assignable g roots limit ≡ false
        → trial g (rooted roots) limit c
        ≡ too_low_parts (marked_parts parts c.marks) (allowed_roots parts (length roots) (may_go g roots limit) c.marks)
        (chosen_parts (rooted_parts g roots limit) c.marks)
    unfolding trial rooted_trial stop_or
    trial_parts c f = rw (joined, f) refl

    -- A cover that good choices make is the answer, once it is written.
    pub answers_cover : {c : Choices} → GoodChoices g roots limit c → is_assignable g roots limit ≡ true → {before after : List ℕ} {h : ℕ}
        → Put 0 (encode (rooted_cover g roots limit c)) before after → h ≡ heaviest g (rooted_cover g roots limit c)
        → Answers g (rooted roots) limit before after (Cover limit h (length roots))
    unfolding buffer_after written
    answers_cover {c} good t {before} {after} {h} put is =
        record {
          choices = c;
          good = good;
          replied =
              rw (trial_cover c t)
              (record {
                same = rw (is, cover_many g roots limit c) refl;
                buffer = put_at_front put;
              });
        }

    -- The parts of a deficient set are the answer, once they are written.
    pub answers_parts : {marks : List ℕ} → IsDeficient parts (length roots) (may_go g roots limit) marks → is_assignable g roots limit ≡ false
        → {before after : List ℕ} {d : Deficient} → DeficientWritten g roots limit marks before after d
        → Answers g (rooted roots) limit before after (Parts d.parts d.roots)
    unfolding buffer_after written
    answers_parts {marks} deficient f {d = d} w =
        let c : Choices = record { assignment = []; paths = []; marks = marks } in
        record {
          choices = c;
          good =
              record {
                assigned = λ t. absurd (true≢false (sym t ∙ f));
                shortest = λ t. absurd (true≢false (sym t ∙ f));
                deficient = λ _. deficient;
              };
          replied =
              rw (trial_parts c f)
              (record {
                same = rw (w.parts_are, w.roots_are) refl;
                buffer = put_at_front w.written.put;
              });
        }

  -- A vertex joined to no root is the answer, by any good choices.
  pub answers_stop : Valid g → ((r : ℕ) → r ∈ roots → r < g.vertices) → {v : ℕ} → unjoined_at g roots limit ≡ some v → (buf : List ℕ)
      → Answers g (rooted roots) limit buf buf (Stop v)
  unfolding buffer_after written
  answers_stop valid inside {v} q buf =
      let (c, good) = some_choices valid roots inside limit in
      record {
        choices = c;
        good = good;
        replied = rw (trial_stop c q) (record { same = refl; buffer = refl });
      }
