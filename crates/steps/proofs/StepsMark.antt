-- What is written as steps below a vertex is closed: every vertex marked on the way has marks at all heads of its arcs then, so that nothing
-- is left to be grown from it.
-- Assumes nothing.
use Prim.Native.Nat.{ℕ, ◌<◌}
use mathlib.Core.Path.{◌≡◌, refl, sym, ap, subst, ◌∙◌}
use mathlib.Core.Bool.{true, false, false≢true}
use mathlib.Core.List.Memᴰ
use mathlib.Core.List.{List, ◌∷◌}
use mathlib.Core.Logic.{dite, ⊎_elim}
use native.Mathlib.Decide.{ℕ_discrete}
use lib.ListN.{length, length-set}
use Rattle.lists.specs.Member.{◌∈◌}
use Rattle.lists.specs.Segments.{segment}
use Rattle.lists.proofs.Member.{either}
use Rattle.edges.specs.Around.{arc_head}
use Rattle.split.specs.SplitBelow.{unmarked, passing}
use Rattle.steps.specs.StepsBelow.{StepsBelow, steps_done, steps_past, steps_child}
use Rattle.split.proofs.Unvisited.{marks_kept, marked_now}

-- The heads of all these arcs have marks.
abbrev pub HeadsMarked : List ℕ → List ℕ → Type 0
HeadsMarked marks rest = (arc : ℕ) → arc ∈ rest → unmarked marks (arc_head arc) ≡ false

-- From the marks before to the marks then: no mark is lost, the heads of the arcs have marks, and so have those of every vertex marked since.
pub record Closes (bounds arcs rest marks last : List ℕ) : Type 0 where
  pub size : length last ≡ length marks
  pub stay : (u : ℕ) → unmarked marks u ≡ false → unmarked last u ≡ false
  pub heads : HeadsMarked last rest
  pub closed : (u : ℕ) → unmarked marks u ≡ true → unmarked last u ≡ false → HeadsMarked last (segment bounds arcs u)

-- A mark is kept when another is set.
pub still_marked : (marks : List ℕ) (v : ℕ) → v < length marks → (u : ℕ) → unmarked marks u ≡ false → unmarked (passing v marks) u ≡ false
still_marked marks v h u q =
    dite (ℕ_discrete u v) (λ e. ap (unmarked (passing v marks)) e ∙ marked_now marks v h) (λ e. marks_kept marks v u e ∙ q)

-- One arc more whose head has a mark.
pub head_marked : (marks : List ℕ) (arc : ℕ) {rest : List ℕ} → unmarked marks (arc_head arc) ≡ false → HeadsMarked marks rest → HeadsMarked marks (arc ∷ rest)
head_marked marks arc p h other (Memᴰ.head q) = ap (λ a. unmarked marks (arc_head a)) q ∙ p
head_marked marks arc p h other (Memᴰ.tail m) = h other m

module _ {bounds arcs : List ℕ} where
  pub steps_close : {v : ℕ} {rest marks steps last : List ℕ} → StepsBelow bounds arcs v rest marks steps last → Closes bounds arcs rest marks last
  steps_close steps_done =
      record {
        size = refl;
        stay = λ u q. q;
        heads = λ arc m. absurd (Memᴰ.not-nil m);
        closed = λ u p q. absurd (false≢true (sym q ∙ p));
      }
  steps_close (steps_past {arc = arc} {last = last} p x) =
      let a = steps_close x in
      record { size = a.size; stay = a.stay; heads = head_marked last arc (a.stay (arc_head arc) p) a.heads; closed = a.closed }
  steps_close (steps_child {arc = arc} {rest = rest} {marks = marks} {middle = middle} {last = last} p l x y) =
      let h : ℕ = arc_head arc in
      let a : Closes bounds arcs (segment bounds arcs h) (passing h marks) middle = steps_close x in
      let b : Closes bounds arcs rest middle last = steps_close y in
      record {
        size = b.size ∙ a.size ∙ length-set marks h 1;
        stay = λ u q. b.stay u (a.stay u (still_marked marks h l u q));
        heads = head_marked last arc (b.stay h (a.stay h (marked_now marks h l))) b.heads;
        closed =
            λ u new old.
            ⊎_elim
            (λ late. b.closed u late old)
            (λ early.
            dite (ℕ_discrete u h)
            (λ e. λ other m. b.stay (arc_head other) (a.heads other (subst (λ w. other ∈ segment bounds arcs w) e m)))
            (λ e. λ other m. b.stay (arc_head other) (a.closed u (marks_kept marks h u e ∙ new) early other m)))
            (either (unmarked middle u));
      }
