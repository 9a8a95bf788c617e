-- What the theorems on a trial's two outcomes come to, for either kind of crews: a refused limit is below every cover's heaviest, and at an
-- accepted limit B the trial's trees are a cover of heaviest at most 4B - 2. The best limit and the replies rest on these two facts alone.
-- Assumes nothing.
use Prim.Native.Nat.{ℕ, ◌-◌, ◌*◌, ◌≤◌, ◌<◌}
use mathlib.Core.Path.{◌≡◌, refl}
use mathlib.Core.Bool.{true, false, ◌&&◌, false≢true}
use mathlib.Core.List.{List}
use mathlib.Core.Option.{Option, some, none}
use lib.ListN.{length}
use borrow.Author.Tests.{leb-true, leb-false}
use Rattle.graph.specs.Graph.{Graph}
use Rattle.matching.specs.Assignment.{IsDeficient}
use Rattle.matching.proofs.Hall.{unassignable_deficient}
use Rattle.rules.specs.Cover.{Tree, heaviest, Crews, rooted, unrooted, IsCover}
use Rattle.rules.specs.RootedTrial.{Choices, GoodChoices, unjoined_at, rooted_parts, may_go, is_assignable, rooted_cover}
use Rattle.rules.specs.UnrootedTrial.{needed, unrooted_trees}
use Rattle.rules.specs.Search.{no_vertex, accepts}
use Rattle.rules.specs.Fit.{GoodFor}
use Rattle.planner_laws.specs.Meaning.{NoneWithin}

-- The trees of an accepted trial.
abbrev pub trial_trees : Graph → Crews → ℕ → Choices → List Tree
trial_trees g (rooted roots) limit c = rooted_cover g roots limit c
trial_trees g (unrooted k) limit c = unrooted_trees g limit

-- The trees are a cover, of heaviest at most 4B - 2.
pub record CoverWithin (g : Graph) (crews : Crews) (limit : ℕ) (trees : List Tree) : Type 0 where
  pub cover : IsCover g crews trees
  pub light : heaviest g trees ≤ 4 * limit - 2

pub record TrialBounds (g : Graph) (crews : Crews) : Type 0 where
  pub refused_below : (limit : ℕ) → accepts g crews limit ≡ false → NoneWithin g crews limit
  pub accepted_covers : (limit : ℕ) (c : Choices) → accepts g crews limit ≡ true → GoodFor g crews limit c → CoverWithin g crews limit (trial_trees g crews limit c)

-- Rooted: a limit is refused by a vertex or by parts, and where it is refused by parts some set of them is deficient.
pub record RootedBounds (g : Graph) (roots : List ℕ) : Type 0 where
  pub stop_too_low : (limit v : ℕ) → unjoined_at g roots limit ≡ some v → NoneWithin g (rooted roots) limit
  pub parts_too_low : (limit : ℕ) (marks : List ℕ) → IsDeficient (length (rooted_parts g roots limit)) (length roots) (may_go g roots limit) marks
      → NoneWithin g (rooted roots) limit
  pub accepted_covers : (limit : ℕ) (c : Choices) → unjoined_at g roots limit ≡ none → is_assignable g roots limit ≡ true → GoodChoices g roots limit c
      → CoverWithin g (rooted roots) limit (rooted_cover g roots limit c)

pub rooted_bounds : {g : Graph} {roots : List ℕ} → RootedBounds g roots → TrialBounds g (rooted roots)
unfolding accepts no_vertex is_assignable
rooted_bounds {g} {roots} b =
    record {
      refused_below = λ limit t. below limit (unjoined_at g roots limit) refl t;
      accepted_covers = λ limit c t good. covers limit c good (unjoined_at g roots limit) refl t;
    }
  where
    below : (limit : ℕ) (o : Option ℕ) → unjoined_at g roots limit ≡ o → (no_vertex o && is_assignable g roots limit) ≡ false → NoneWithin g (rooted roots) limit
    below limit (some v) q t = b.stop_too_low limit v q
    below limit none q t =
        let (marks, d) = unassignable_deficient (length (rooted_parts g roots limit)) (length roots) (may_go g roots limit) t in
        b.parts_too_low limit marks d

    covers : (limit : ℕ) (c : Choices) → GoodChoices g roots limit c → (o : Option ℕ) → unjoined_at g roots limit ≡ o → (no_vertex o && is_assignable g roots limit) ≡ true
        → CoverWithin g (rooted roots) limit (rooted_cover g roots limit c)
    covers limit c good (some v) q t = absurd (false≢true t)
    covers limit c good none q t = b.accepted_covers limit c q t good

-- Unrooted: a limit is refused by the number of trees needed.
pub record UnrootedBounds (g : Graph) (k : ℕ) : Type 0 where
  pub needs_too_low : (limit : ℕ) → k < needed g limit → NoneWithin g (unrooted k) limit
  pub accepted_covers : (limit : ℕ) → needed g limit ≤ k → CoverWithin g (unrooted k) limit (unrooted_trees g limit)

pub unrooted_bounds : {g : Graph} {k : ℕ} → UnrootedBounds g k → TrialBounds g (unrooted k)
unfolding accepts
unrooted_bounds {g} {k} b =
    record {
      refused_below = λ limit t. b.needs_too_low limit (leb-false (needed g limit) k t);
      accepted_covers = λ limit c t good. b.accepted_covers limit (leb-true (needed g limit) k t);
    }
