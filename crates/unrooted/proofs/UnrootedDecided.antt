-- The answer and the decisions of a trial without roots, from the whole forest: "the sum C" decides, and it joins what all edges join.
-- Assumes nothing.
use Prim.Native.Nat.{ℕ, ◌-◌, ◌≤◌, ◌<◌}
use mathlib.Core.Path.{◌≡◌, refl, sym, ap, ap₂, ◌∙◌}
use mathlib.Core.Bool.{false}
use mathlib.Core.List.{List, [], ◌∷◌}
use lib.ListN.{length}
use lib.Dec.{leb, ltb}
use borrow.Author.Tests.{le-leb, lt-leb}
use Rattle.lists.proofs.PutPlaces.{put_at_front}
use Rattle.graph.specs.Graph.{Graph}
use Rattle.rules.specs.Cover.{unrooted, heaviest}
use Rattle.rules.specs.Order.{ordered}
use Rattle.rules.specs.Labels.{apart, merge_all}
use Rattle.rules.specs.Forest.{lowest}
use Rattle.rules.specs.Reply as rules
use Rattle.rules.specs.RootedTrial.{no_choices}
use Rattle.rules.specs.UnrootedTrial.{needed, unrooted_trees, unrooted_trial}
use Rattle.rules.specs.Search.{accepts, trial, no_cover_exists}
use Rattle.rules.specs.Questions.{written, buffer_after}
use Rattle.forest_laws.proofs.Keeping.{kept_merges}
use Rattle.replies.specs.Replies.{said, Answers}
use Rattle.replies.specs.declared.Reply.TheVariants.{Cover, Needs}
use Rattle.needs.specs.Given.{ForestKept}
use Rattle.unrooted.specs.Unrooted.{TreesWritten}
use Rattle.unrooted.specs.declared.unrooted.Written.{Written}
use Rattle.needs.proofs.WholeForest.{kept_apart, all_kept}
use Rattle.needs.proofs.HistoryNeeds.{components_left}

module _ {g : Graph} {kept : List ℕ} (f : ForestKept g kept) where
  -- The components that the whole forest makes are those of all edges, so their number tells whether there is a cover.
  pub none_at_all : (k : ℕ) {n : ℕ} → n ≡ g.vertices → ltb k (n - length kept) ≡ no_cover_exists g (unrooted k)
  unfolding no_cover_exists
  none_at_all k count =
      let g = g in
      let same : merge_all g apart kept ≡ merge_all g apart (ordered g) = ap (merge_all g apart) (kept_apart f) ∙ kept_merges g apart (ordered g) in
      ap (λ n. ltb k (n - length kept)) count
      ∙ ap (ltb k) (sym (components_left f.valid (all_kept f)) ∙ ap (λ label. length (lowest g label)) same)

-- "The sum C" decides.
module _ (g : Graph) (k limit : ℕ) {C : ℕ} (sum : C ≡ needed g limit) where
  pub decided : leb C k ≡ accepts g (unrooted k) limit
  unfolding accepts
  decided = ap (λ n. leb n k) sum

  pub refused : k < C → false ≡ accepts g (unrooted k) limit
  refused h = sym (lt-leb C k h) ∙ decided

  -- "If the sum C exceeds k: too low, needs C", and nothing is written.
  trial_too_low : k < C → trial g (unrooted k) limit no_choices ≡ rules.too_low_needs C
  unfolding trial unrooted_trial
  trial_too_low h = rw (sym sum, lt-leb C k h)

  pub too_low : k < C → (buffer : List ℕ) → Answers g (unrooted k) limit buffer buffer (Needs C)
  unfolding buffer_after written
  too_low h buffer =
      record { choices = no_choices; good = tt; replied = rw (trial_too_low h) (record { same = refl; buffer = refl }) }

  -- Otherwise the trees are the answer.
  trial_covered : C ≤ k → trial g (unrooted k) limit no_choices ≡ rules.covered limit (heaviest g (unrooted_trees g limit)) (unrooted_trees g limit)
  unfolding trial unrooted_trial
  trial_covered h = rw (sym sum, le-leb C k h)

  pub covered : C ≤ k → {before after : List ℕ} {w : Written} → TreesWritten g limit before after w
      → Answers g (unrooted k) limit before after (Cover limit w.heaviest w.trees)
  unfolding buffer_after written
  covered h t =
      record {
        choices = no_choices;
        good = tt;
        replied =
            rw (trial_covered h)
            (record {
              same = ap₂ (λ x y. said 0 (limit ∷ x ∷ y ∷ [])) t.heaviest_is t.trees_are;
              buffer = put_at_front t.put;
            });
      }
