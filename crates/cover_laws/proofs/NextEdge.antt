-- The next edge of the walk along a tree: it is the lowest left at the stop, where there is none nothing is left there, and it is found past the edges
-- that are crossed.
-- Assumes nothing.
use Prim.Native.Nat.{ℕ}
use mathlib.Core.Path.{◌≡◌, sym, ap, ◌∙◌}
use mathlib.Core.Bool.{Bool, true, not, ◌&&◌}
use mathlib.Core.List.{List}
use mathlib.Core.Option.{some, none}
use lib.ListN.{take, drop, take-append-drop}
use borrow.Author.Tests.{not-false}
use Rattle.lists.specs.Lists.{filter, first_that, member}
use Rattle.lists.specs.Member.{◌∈◌}
use Rattle.lists.proofs.Member.{member_in, in_member, member_out, out_member}
use Rattle.lists.proofs.Every.{both_true, first_true, second_true, and_no}
use Rattle.lists.proofs.First.{first_none, first_some, none_first, first_filtered, first_past, first_lowest}
use Rattle.graph.specs.Graph.{Graph}
use Rattle.rules.specs.Cover.{Tree, IsTree}
use Rattle.rules.specs.Grow.{touches}
use Rattle.rules.specs.ClosedWalk.{next_edge}
use Rattle.rules.specs.WalkRule.{IsLeft, IsLowestLeft}

-- No edge of the tree at the vertex is left.
abbrev pub NoneLeft : Graph → Tree → List ℕ → ℕ → Type 0
NoneLeft g t crossings v = (e : ℕ) → e ∈ t.edges → touches g v e ≡ true → e ∈ crossings

module _ (g : Graph) (t : Tree) (stop : ℕ) (crossings : List ℕ) where
  -- the test that the next edge is the first to pass
  abbrev passes : ℕ → Bool
  passes e = touches g stop e && not (member e crossings)

  -- The next edge is left at the stop,
  pub next_left : {e : ℕ} → next_edge g t stop crossings ≡ some e → IsLeft g t crossings stop e
  unfolding next_edge
  next_left {e} q =
      let (m, p) = first_some passes t.edges q in
      record {
        of_tree = m;
        at_stop = first_true (touches g stop e) (not (member e crossings)) p;
        not_walked = member_out e crossings (second_true (touches g stop e) (not (member e crossings)) p);
      }

  -- and of a tree the lowest that is, since a tree's edges rise.
  pub next_lowest : {e : ℕ} → IsTree g t → next_edge g t stop crossings ≡ some e → IsLowestLeft g t crossings stop e
  unfolding next_edge
  next_lowest tree q = record {
    is_left = next_left q;
    lowest = λ f l. first_lowest passes tree.rising q f l.of_tree (both_true l.at_stop (out_member f crossings l.not_walked));
  }

  -- Where there is no next edge, none is left at the stop.
  pub next_none : next_edge g t stop crossings ≡ none → NoneLeft g t crossings stop
  unfolding next_edge
  next_none q e m p =
      let fails = first_none passes t.edges q e m in
      member_in e crossings (not-false (member e crossings) (rw p at fails))

  -- Where all are crossed there is none.
  pub none_next : ((e : ℕ) → e ∈ t.edges → e ∈ crossings) → next_edge g t stop crossings ≡ none
  unfolding next_edge
  none_next all = none_first passes t.edges (λ e m. and_no (touches g stop e) (rw (in_member (all e m))))

  -- Where the first so many edges around the stop are crossed, it is found past them.
  pub next_past : (place : ℕ) → ((e : ℕ) → e ∈ take place (filter (touches g stop) t.edges) → e ∈ crossings)
      → next_edge g t stop crossings ≡ first_that (λ e. not (member e crossings)) (drop place (filter (touches g stop) t.edges))
  unfolding next_edge
  next_past place all =
      let around = filter (touches g stop) t.edges in
      first_filtered (touches g stop) (λ e. not (member e crossings)) t.edges
      ∙ ap (first_that (λ e. not (member e crossings))) (sym (take-append-drop place around))
      ∙ first_past (λ e. not (member e crossings)) (take place around) (drop place around) (λ e m. rw (in_member (all e m)))
