-- No kept edge lies on a loop: with all other kept edges its ends stay apart, in whatever order the edges were kept. For a list
-- without repeats the other way round holds too: where no edge lies on a loop, all are kept. So whether `keep` keeps a whole
-- list does not depend on the order, and says just that no edge's ends are linked by the others.
-- Assumes nothing.
use Prim.Native.Nat.{ℕ}
use mathlib.Core.Path.{◌≡◌, refl, sym}
use mathlib.Core.List.Memᴰ
use mathlib.Core.List.{List, [], ◌∷◌, ◌++◌}
use mathlib.Core.Logic.{◌↔◌}
use native.Mathlib.Decide.{ℕ_discrete}
use Rattle.lists.specs.Lists.{without}
use Rattle.lists.specs.Member.{◌∈◌}
use Rattle.lists.proofs.Without.{without_other, without_first, without_within}
use Rattle.lists.proofs.InOrder.{none, next, Once}
use Rattle.graph.specs.Graph.{Graph, one_end, other_end}
use Rattle.rules.specs.Walk.{Linked}
use Rattle.rules.specs.Labels.{Labels, apart, merge_edge, merge_all}
use Rattle.rules.specs.Forest.{keep}
use Rattle.forest_laws.proofs.Merging.{JoinsEnds, merged_coarser, merged_monotone}
use Rattle.forest_laws.proofs.Walks.{linked_merged, merged_linked}
use Rattle.forest_laws.proofs.Keeping.{Kept, nothing, skipped, taken, kept, is_kept}
use Rattle.forest_laws.proofs.Exchange.{first_joining}

-- Each edge's ends are apart when its turn comes.
pub data AllKept (g : Graph) : Labels → List ℕ → Type 0 where
  all_none : {P : Labels} → AllKept g P []
  all_next : {P : Labels} {e : ℕ} {E : List ℕ} → (JoinsEnds g P e → ⊥) → AllKept g (merge_edge g P e) E → AllKept g P (e ∷ E)

module _ {g : Graph} where
  -- the edges that are kept are all kept
  kept_all : {P : Labels} {E K : List ℕ} → Kept g P E K → AllKept g P K
  kept_all nothing = all_none
  kept_all (skipped p k) = kept_all k
  kept_all (taken p k) = all_next p (kept_all k)

  -- `keep` keeps the whole list exactly where all are kept
  all_kept : {P : Labels} {E : List ℕ} → AllKept g P E → Kept g P E E
  all_kept all_none = nothing
  all_kept (all_next p k) = taken p (all_kept k)

  pub all_kept_whole : {P : Labels} {E : List ℕ} → AllKept g P E → keep g P E ≡ E
  all_kept_whole k = is_kept (all_kept k)

  pub whole_all_kept : (P : Labels) (E : List ℕ) → keep g P E ≡ E → AllKept g P E
  whole_all_kept P E q = rw q at (kept_all (kept g P E))

  -- an edge in the middle finds its ends apart
  middle_apart : {P : Labels} (before : List ℕ) (e : ℕ) (after : List ℕ) → AllKept g P (before ++ e ∷ after) → JoinsEnds g (merge_all g P before) e → ⊥
  unfolding merge_all
  middle_apart [] e after (all_next p k) q = p q
  middle_apart {P = P} (x ∷ before) e after (all_next p k) q = middle_apart {P = merge_edge g P x} before e after k q

  -- the edges after the first do not join its ends: else exchange it for the one that first does
  first_apart : {P : Labels} {e : ℕ} {E : List ℕ} → AllKept g P (e ∷ E) → JoinsEnds g (merge_all g P E) e → ⊥
  unfolding merge_edge
  first_apart {P} {e} {E} (all_next p k) q =
      let j = first_joining g P E (one_end g e) (other_end g e) p q in
      middle_apart j.before j.edge j.after (rw j.split at k) j.exchanged

  -- nor do all the others join the ends of any edge
  all_kept_apart : {P : Labels} {E : List ℕ} {e : ℕ} → AllKept g P E → e ∈ E → JoinsEnds g (merge_all g P (without e E)) e → ⊥
  unfolding merge_all
  all_kept_apart all_none m q = Memᴰ.not-nil m
  all_kept_apart {e = e} (all_next {P = P} {e = x} {E = E} p k) m q = go (ℕ_discrete e x) (λ n t. all_kept_apart k n t) m
    where
      go : Dec (e ≡ x) → (e ∈ E → JoinsEnds g (merge_all g (merge_edge g P x) (without e E)) e → ⊥) → e ∈ (x ∷ E) → ⊥
      go (yes d) ih n = first_apart (all_next p k) (rw (← d) (merged_monotone g P P (without e (x ∷ E)) E (λ u v r. r) (λ f r. without_first e x E d r) (one_end g e) (other_end g e) q))
      go (no d) ih (Memᴰ.head r) = d r
      go (no d) ih (Memᴰ.tail n) = ih n (rw (without_other e x E d) at q)

  -- where the others join no edge's ends, and no edge is there twice, all are kept
  apart_all_kept : (P : Labels) {E : List ℕ} → Once E → ((e : ℕ) → e ∈ E → JoinsEnds g (merge_all g P (without e E)) e → ⊥) → AllKept g P E
  unfolding merge_all
  apart_all_kept P none loops = all_none
  apart_all_kept P (next {x = x} {xs = E} h r) loops =
      all_next (λ q. loops x (Memᴰ.head refl) (merged_coarser g P (without x (x ∷ E)) (one_end g x) (other_end g x) q))
      (apart_all_kept (merge_edge g P x) r (λ e m q. loops e (Memᴰ.tail m) (rw (without_other e x E (λ d. h e m (sym d))) q)))

module _ (g : Graph) where
  -- the other kept edges do not join the ends of a kept edge
  pub kept_apart : (P : Labels) (L : List ℕ) {e : ℕ} → e ∈ keep g P L → JoinsEnds g (merge_all g P (without e (keep g P L))) e → ⊥
  kept_apart P L m q = all_kept_apart (kept_all (kept g P L)) m q

  -- they do not link them
  pub kept_no_loop : (P : Labels) (L : List ℕ) {e : ℕ} → e ∈ keep g P L → Linked g (without e (keep g P L)) (one_end g e) (other_end g e) → ⊥
  kept_no_loop P L {e} m l = kept_apart P L m (linked_merged g (without e (keep g P L)) P l)

  -- the kept edges, taken again, are all kept
  pub kept_whole : (P : Labels) (L : List ℕ) → keep g P (keep g P L) ≡ keep g P L
  kept_whole P L = all_kept_whole (kept_all (kept g P L))

  -- edges of a list that is kept whole, each once, in whatever order, are kept whole
  pub kept_whole_within : (P : Labels) (E : List ℕ) {F : List ℕ} → keep g P E ≡ E → Once F → ((e : ℕ) → e ∈ F → e ∈ E) → keep g P F ≡ F
  kept_whole_within P E {F} whole once sub = all_kept_whole (apart_all_kept P once λ e m q.
      all_kept_apart (whole_all_kept P E whole) (sub e m) (merged_monotone g P P (without e F) (without e E) (λ u v r. r) (without_within e sub) (one_end g e) (other_end g e) q))

  -- a list without repeats is kept whole exactly where the others join no edge's ends
  pub kept_whole_is_apart : (P : Labels) {E : List ℕ} → Once E
      → (keep g P E ≡ E) ↔ ((e : ℕ) → e ∈ E → JoinsEnds g (merge_all g P (without e E)) e → ⊥)
  kept_whole_is_apart P {E} once = (λ whole e m. all_kept_apart (whole_all_kept P E whole) m, λ loops. all_kept_whole (apart_all_kept P once loops))

  -- a list without repeats is kept whole exactly where no edge's ends are linked by the others
  pub kept_whole_is_loopless : {E : List ℕ} → Once E → (keep g apart E ≡ E) ↔ ((e : ℕ) → e ∈ E → Linked g (without e E) (one_end g e) (other_end g e) → ⊥)
  kept_whole_is_loopless {E} once =
      let both = kept_whole_is_apart apart once in (
        λ whole e m l. both.0 whole e m (linked_merged g (without e E) apart l),
        λ loopless. both.1 (λ e m q. loopless e m (merged_linked g (without e E) (one_end g e) (other_end g e) q)),
      )
