-- What the replies mean: that of a trial, with good choices at its limit, and that of the best limit's question, with a number of trials or without one,
-- with good choices at the limit replied.
-- Assumes nothing.
use Prim.Native.Nat.{ℕ, ◌*◌, ◌≤◌, ◌<◌}
use mathlib.Core.Path.{◌≡◌, refl, sym, ap, ◌∙◌, subst}
use mathlib.Core.Logic.{◌↔◌}
use mathlib.Core.Bool.{Bool, true, false, cond, ◌&&◌, false≢true}
use mathlib.Core.List.{List}
use mathlib.Core.Option.{Option, some, none}
use native.Mathlib.Omega.{arith}
use lib.Dec.{leb}
use Rattle.graph.specs.Graph.{Graph}
use Rattle.graph.specs.Valid.{Valid}
use Rattle.rules.specs.Cover.{Tree, heaviest, Crews, rooted, unrooted, IsCover}
use Rattle.rules.specs.Reply.{Reply, refused, covered, too_low_stop, too_low_parts, too_low_needs, no_cover}
use Rattle.rules.specs.RootedTrial.{Choices, stop_or, unjoined_at, is_assignable, rooted_trial}
use Rattle.rules.specs.UnrootedTrial.{needed, unrooted_trial}
use Rattle.rules.specs.Search.{no_vertex, accepts, trial, no_cover_exists, Bounds, best_limit, best}
use Rattle.rules.specs.FewTrials.{standing, Known, known, Told, untried, before_trials, within}
use Rattle.rules.specs.Questions.{most_trials}
use Rattle.rules.specs.Weightless.{WeightlessJoined}
use Rattle.rules.specs.Fit.{GoodFor, CrewsFit}
use Rattle.planner_laws.specs.Meaning.{NoneWithin, NoneAtAll, AtZero, TrialSays, TrialMeans, BestSays, BestMeans, WithinSays, WithinMeans}
use Rattle.planner_laws.proofs.AboveSum.{some_cover}
use Rattle.planner_laws.proofs.NoCover.{no_cover_none}
use Rattle.planner_laws.proofs.TrialBounds.{trial_trees, CoverWithin, TrialBounds}
use Rattle.planner_laws.proofs.FewTrials.{standing_zero, unspent_best, unspent_same, valid_unspent, floor_least, high_accepted, high_cover, unspent_least, unspent_factor}
use Rattle.planner_laws.proofs.Eightfold.{eightfold}
use Rattle.planner_laws.proofs.SomeChoices.{good_choices}
use Rattle.planner_laws.proofs.ZeroLimit.{zero_accepts}

-- TRIALS

-- An accepted trial replies with its trees.
pub accepted_covered : (g : Graph) (crews : Crews) (limit : ℕ) (c : Choices) → accepts g crews limit ≡ true
    → trial g crews limit c ≡ covered limit (heaviest g (trial_trees g crews limit c)) (trial_trees g crews limit c)
unfolding accepts trial rooted_trial unrooted_trial stop_or no_vertex
accepted_covered g (rooted roots) limit c t = go (unjoined_at g roots limit) (is_assignable g roots limit) _ _ t
  where
    go : (o : Option ℕ) (a : Bool) (x y : Reply) → (no_vertex o && a) ≡ true → stop_or o (cond a x y) ≡ x
    go (some v) a x y t = absurd (false≢true t)
    go none true x y t = refl
    go none false x y t = absurd (false≢true t)
accepted_covered g (unrooted k) limit c t = rw t

-- A trial that replies with trees was accepted.
pub covered_accepted : (g : Graph) (crews : Crews) (limit : ℕ) (c : Choices) {replied h : ℕ} {trees : List Tree} → trial g crews limit c ≡ covered replied h trees
    → accepts g crews limit ≡ true
unfolding accepts trial rooted_trial unrooted_trial stop_or no_vertex
covered_accepted g (rooted roots) limit c {replied} {h} {trees} q = go (unjoined_at g roots limit) (is_assignable g roots limit) _ _ _ _ q
  where
    go : (o : Option ℕ) (a : Bool) (x : Reply) (T D : ℕ) (parts : List Tree) → stop_or o (cond a x (too_low_parts T D parts)) ≡ covered replied h trees → (no_vertex o && a) ≡ true
    go (some v) a x T D parts q = let z : ◌≡◌ {A = ℕ} 0 1 = cc in absurd (omega arith)
    go none true x T D parts q = refl
    go none false x T D parts q = let z : ◌≡◌ {A = ℕ} 0 1 = cc in absurd (omega arith)
covered_accepted g (unrooted k) limit c {replied} {h} {trees} q = go (leb (needed g limit) k) _ _ q
  where
    go : (a : Bool) (x : Reply) (C : ℕ) → cond a x (too_low_needs C) ≡ covered replied h trees → a ≡ true
    go true x C q = refl
    go false x C q = let z : ◌≡◌ {A = ℕ} 0 1 = cc in absurd (omega arith)

-- Both ways: a limit is accepted exactly where the trial replies with its trees.
pub accepts_is_covered : (g : Graph) (crews : Crews) (limit : ℕ) (c : Choices) → (accepts g crews limit ≡ true)
    ↔ (trial g crews limit c ≡ covered limit (heaviest g (trial_trees g crews limit c)) (trial_trees g crews limit c))
accepts_is_covered g crews limit c = (accepted_covered g crews limit c, λ q. covered_accepted g crews limit c q)

-- An accepted trial's reply is a cover within four times the limit.
accepted_says : {g : Graph} {crews : Crews} {limit : ℕ} {trees : List Tree} → CoverWithin g crews limit trees → TrialSays g crews limit (covered limit (heaviest g trees) trees)
accepted_says w = record { at_limit = refl; carries = record { cover = w.cover; carried = refl }; factor_four = omega (arith, w.light) }

-- A trial's reply says what document 01 has it say.
trial_says : {g : Graph} (crews : Crews) → TrialBounds g crews → (limit : ℕ) (c : Choices) → GoodFor g crews limit c → TrialSays g crews limit (trial g crews limit c)
unfolding accepts trial rooted_trial unrooted_trial stop_or no_vertex
trial_says {g} (rooted roots) bounds limit c good =
    go (unjoined_at g roots limit) (is_assignable g roots limit) _ _ _ _ (λ t. bounds.accepted_covers limit c t good) (bounds.refused_below limit) (λ t. (good.deficient t).fewer)
  where
    go : (o : Option ℕ) (a : Bool) (trees : List Tree) (T D : ℕ) (parts : List Tree) → ((no_vertex o && a) ≡ true → CoverWithin g (rooted roots) limit trees)
        → ((no_vertex o && a) ≡ false → NoneWithin g (rooted roots) limit) → (a ≡ false → D < T)
        → TrialSays g (rooted roots) limit (stop_or o (cond a (covered limit (heaviest g trees) trees) (too_low_parts T D parts)))
    go (some v) a trees T D parts covers below fewer = below refl
    go none true trees T D parts covers below fewer = accepted_says (covers refl)
    go none false trees T D parts covers below fewer = record { none_within = below refl; fewer = fewer refl }
trial_says {g} (unrooted k) bounds limit c good = go (leb (needed g limit) k) _ _ (λ t. bounds.accepted_covers limit c t good) (bounds.refused_below limit)
  where
    go : (a : Bool) (trees : List Tree) (C : ℕ) → (a ≡ true → CoverWithin g (unrooted k) limit trees) → (a ≡ false → NoneWithin g (unrooted k) limit)
        → TrialSays g (unrooted k) limit (cond a (covered limit (heaviest g trees) trees) (too_low_needs C))
    go true trees C covers below = accepted_says (covers refl)
    go false trees C covers below = below refl

-- What is replied at limit 0.
module _ {g : Graph} {crews : Crews} (fit : CrewsFit g crews) (bounds : TrialBounds g crews) (limit : ℕ) (c : Choices) (good : GoodFor g crews limit c) where
  abbrev ours : List Tree
  ours = trial_trees g crews limit c

  -- A cover at limit 0 is our trees, at that limit, which is accepted.
  same : {h : ℕ} {trees : List Tree} → trial g crews limit c ≡ covered 0 h trees → covered limit (heaviest g ours) ours ≡ covered 0 h trees
  same q = sym (accepted_covered g crews limit c (covered_accepted g crews limit c q)) ∙ q

  zero_joined : {h : ℕ} {trees : List Tree} → trial g crews limit c ≡ covered 0 h trees → WeightlessJoined g crews
  zero_joined q =
      let r = same q in
      let z : limit ≡ 0 = cc in
      (zero_accepts g crews fit).0 (subst (λ l. accepts g crews l ≡ true) z (covered_accepted g crews limit c q))

  zero_weighs : {h : ℕ} {trees : List Tree} → trial g crews limit c ≡ covered 0 h trees → h ≡ 0
  zero_weighs {h} q =
      let r = same q in
      let z : limit ≡ 0 = cc in
      let carried : heaviest g ours ≡ h = cc in
      omega (arith, (bounds.accepted_covers limit c (covered_accepted g crews limit c q) good).light)

  -- It is such a cover wherever weightless edges join what they should, if the limit is 0 and accepted there.
  trial_zero : (WeightlessJoined g crews → (limit ≡ 0) × (accepts g crews limit ≡ true)) → AtZero g crews (trial g crews limit c)
  trial_zero accepted = record {
    exactly = (λ r. let (h, trees, q) = r in zero_joined q, λ w. replied (accepted w));
    weighs_nothing = λ h trees q. zero_weighs q;
  }
    where
      replied : (limit ≡ 0) × (accepts g crews limit ≡ true) → (h : ℕ) × (trees : List Tree) × (trial g crews limit c ≡ covered 0 h trees)
      replied (z, a) = (heaviest g ours, ours, accepted_covered g crews limit c a ∙ ap (λ l. covered l (heaviest g ours) ours) z)

-- A trial's reply means what the documents say of it.
pub trial_means : {g : Graph} (crews : Crews) → CrewsFit g crews → TrialBounds g crews → (limit : ℕ) (c : Choices) → GoodFor g crews limit c
    → TrialMeans g crews limit (trial g crews limit c)
trial_means {g} crews fit bounds limit c good = record {
  says = trial_says crews bounds limit c good;
  at_zero = λ z. trial_zero fit bounds limit c good (λ w. (z, subst (λ l. accepts g crews l ≡ true) (sym z) ((zero_accepts g crews fit).1 w)));
}

-- THE BEST LIMIT, AND THE SEARCH STOPPED AFTER SOME TRIALS

-- What is told where some cover exists.
abbrev found_within : Graph → Crews → ℕ → Choices → Told
found_within g crews p c = record { reply = trial g crews (standing g crews p).high c; known = known g crews p }

-- The reply of the best limit's question with p trials means what the documents say of it.
pub within_means : {g : Graph} → Valid g → (crews : Crews) → CrewsFit g crews → TrialBounds g crews → (p : ℕ) (c : Choices) → GoodFor g crews (standing g crews p).high c
    → WithinMeans g crews p (within g crews p c)
unfolding within untried
within_means {g} valid crews fit bounds p c good = go (no_cover_exists g crews) refl
  where
    -- 33 trials are never spent.
    never_spent : p ≡ most_trials → (known g crews p).spent ≡ false
    never_spent q = subst (λ n. (known g crews n).spent ≡ false) (sym q) (valid_unspent valid crews)

    four : {trees : List Tree} → IsCover g crews trees → (known g crews p).spent ≡ false → (others : List Tree) → IsCover g crews others
        → heaviest g (trial_trees g crews (standing g crews p).high c) ≤ 4 * heaviest g others
    four cover s others o = omega (arith, unspent_factor bounds cover p c good s others o)

    covers : (trees : List Tree) → IsCover g crews trees → WithinMeans g crews p (found_within g crews p c)
    covers trees cover =
        let ours = high_cover bounds cover p c good in
        let accepted = high_accepted bounds cover p in
        record {
          says = rw (accepted_covered g crews (standing g crews p).high c accepted)
              (record {
                carries = record { cover = ours.cover; carried = refl };
                floor_least = floor_least bounds cover p;
                factor_four = omega (arith, ours.light);
                unspent = λ s. record {
                  carries = record { cover = ours.cover; carried = refl };
                  limit_least = unspent_least bounds cover p c good s;
                  factor_four = four cover s;
                  within_eight = eightfold valid ours.cover (four cover s);
                };
              });
          at_zero = trial_zero fit bounds (standing g crews p).high c good (λ w. (ap (λ (b : Bounds). b.high) (standing_zero g crews p ((zero_accepts g crews fit).1 w)), accepted));
          enough = never_spent;
        }

    -- Where there is no cover, none is at limit 0.
    missing : NoneAtAll g crews → WeightlessJoined g crews → ⊥
    missing never w =
        let (d, chosen) = good_choices valid crews fit 0 in
        never _ (bounds.accepted_covers 0 d ((zero_accepts g crews fit).1 w) chosen).cover

    uncovered : (h : ℕ) (trees : List Tree) → no_cover ≡ covered 0 h trees → ⊥
    uncovered h trees q = let z : ◌≡◌ {A = ℕ} 0 1 = cc in omega arith

    go : (t : Bool) → no_cover_exists g crews ≡ t → WithinMeans g crews p (cond t (before_trials no_cover) (found_within g crews p c))
    go true e =
        let never : NoneAtAll g crews = no_cover_none g crews e in
        record {
          says = never;
          at_zero = record {
            exactly = (λ r. let (h, trees, q) = r in absurd (uncovered h trees q), λ w. absurd (missing never w));
            weighs_nothing = λ h trees q. absurd (uncovered h trees q);
          };
          enough = λ _. refl;
        }
    go false e = let (trees, cover) = some_cover valid crews fit e in covers trees cover

-- A reply that is not spent says what the best limit's does.
unspent_says : (g : Graph) (crews : Crews) (reply : Reply) (k : Known) → k.spent ≡ false → WithinSays g crews reply k → BestSays g crews reply
unspent_says g crews (refused n) k s w = w
unspent_says g crews (covered limit h trees) k s w = w.unspent s
unspent_says g crews (too_low_stop v) k s w = w
unspent_says g crews (too_low_parts T D parts) k s w = w
unspent_says g crews (too_low_needs C) k s w = w
unspent_says g crews no_cover k s w = w

-- So the reply of the best-limit question, which is that after 33 trials, means what the documents say of it.
pub best_means : {g : Graph} → Valid g → (crews : Crews) → CrewsFit g crews → TrialBounds g crews → (c : Choices) → GoodFor g crews (best_limit g crews) c → BestMeans g crews (best g crews c)
best_means {g} valid crews fit bounds c good =
    let high_best = unspent_best g crews most_trials (valid_unspent valid crews) in
    let w = within_means valid crews fit bounds most_trials c (subst (λ limit. GoodFor g crews limit c) (sym high_best) good) in
    let same = unspent_same g crews most_trials c (w.enough refl) in
    record {
      says = subst (BestSays g crews) same (unspent_says g crews (within g crews most_trials c).reply (within g crews most_trials c).known (w.enough refl) w.says);
      at_zero = subst (AtZero g crews) same w.at_zero;
    }
