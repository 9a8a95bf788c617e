-- The forest (document 01, step 2): edges are taken in order, and kept where their ends are not yet joined.
-- Assumes nothing.
use Rattle.std.specs.Prelude.{ℕ, cond, not}
use mathlib.Core.List.{List, [], ◌∷◌, head_d}
use Rattle.std.proofs.Math.Option.{Option}
use Rattle.lists.specs.Count.{below, any_below}
use Rattle.lists.specs.Lists.{filter, first_that}
use Rattle.graph.specs.Graph.{Graph}
use Rattle.rules.specs.Labels.{Labels, joined, ends_joined, merge_edge, merge_all}
use Rattle.rules.specs.Order.{light}

-- "Keep each whose ends are not yet joined", from the labels at the start.
unfoldable pub keep : Graph → Labels → List ℕ → List ℕ
keep g label [] = []
keep g label (e ∷ es) =
    let skipped = keep g label es in
    let kept = e ∷ keep g (merge_edge g label e) es in
    cond (ends_joined g label e) skipped kept

-- The forest at a limit.
unfoldable pub forest : Graph → Labels → ℕ → List ℕ
forest g label limit = keep g label (light g limit)

-- The labels that the edges of weight at most the limit make of those at the start.
unfoldable pub labels_at : Graph → Labels → ℕ → Labels
labels_at g label limit = merge_all g label (light g limit)

-- The lowest vertex that is joined to no root ("stop v"); the roots themselves are joined to each other.
unfoldable pub unjoined : Graph → List ℕ → Labels → Option ℕ
unjoined g roots label = first_that (λ v. not (joined label (head_d roots 0) v)) (below g.vertices)

-- The lowest vertex of each component, rising.
unfoldable pub lowest : Graph → Labels → List ℕ
lowest g label = filter (λ v. not (any_below v (λ u. joined label u v))) (below g.vertices)
