-- Splitting loses no edge and doubles none: parts and leftover together hold each edge as often as the bunch and the branches do.
-- It is shown for the sum of any value over the edges; how often an edge stands there is such a sum, and so is the weight.
-- Assumes nothing.
use Prim.Native.Nat.{ℕ, zero, suc, ◌+◌}
use mathlib.Core.Path.{◌≡◌, refl}
use mathlib.Core.Bool.{cond}
use mathlib.Core.List.{List, [], ◌∷◌, ◌++◌, append-nil}
use mathlib.Core.Logic.{◌⊎◌, inl, inr}
use native.Mathlib.Omega.{arith}
use lib.Dec.{eqb}
use Rattle.lists.specs.Lists.{flat, sum_of, times}
use Rattle.lists.specs.Member.{◌∈◌}
use Rattle.lists.proofs.FlatMap.{in_flat_map, of_flat_map}
use Rattle.lists.proofs.Sums.{sum_append}
use Rattle.lists.proofs.SumsAlike.{sum_flat_map}
use Rattle.lists.proofs.Sorting.{sum_rise}
use Rattle.lists.proofs.Times.{times_append, in_times, times_in}
use Rattle.graph.specs.Graph.{Graph, weight_of}
use Rattle.rules.specs.Walk.{total_weight}
use Rattle.rules.specs.Cover.{Tree}
use Rattle.rules.specs.Grow.{Branches, none, branch, branch_edges}
use Rattle.rules.specs.Split.{Pieces, part_at, settle, split_at}
use Rattle.rules.specs.CoverBytes.{entry_edges}
use Rattle.split_laws.proofs.Rules.{settle_cases}

-- An edge of a part is one of them, and the other way round.
pub in_part_edges : {e : ℕ} {t : Tree} {parts : List Tree} → t ∈ parts → e ∈ t.edges → e ∈ entry_edges parts
unfolding entry_edges
in_part_edges m n = in_flat_map (λ (t : Tree). t.edges) m n

pub of_part_edges : {e : ℕ} (parts : List Tree) → e ∈ entry_edges parts → (t : Tree) × (t ∈ parts) × (e ∈ t.edges)
unfolding entry_edges
of_part_edges parts m = of_flat_map (λ (t : Tree). t.edges) parts m

module _ (f : ℕ → ℕ) where
  -- The sum over all parts, and over pieces.
  part_edges_append : (xs ys : List Tree) → sum_of f (entry_edges (xs ++ ys)) ≡ sum_of f (entry_edges xs) + sum_of f (entry_edges ys)
  unfolding entry_edges
  part_edges_append xs ys = simp sum_flat_map (sum_append (λ t. sum_of f t.edges) xs ys)

  both : Pieces → ℕ
  both s = sum_of f (entry_edges s.parts) + sum_of f s.left

  one_part : (v : ℕ) (edges left : List ℕ) → both (record { parts = part_at v edges ∷ []; left = left }) ≡ sum_of f edges + sum_of f left
  unfolding both entry_edges flat part_at sum_of
  one_part v edges left = rw (append-nil, sum_rise)

  settle_sum : (g : Graph) (H v : ℕ) (bunch piece : List ℕ) → both (settle g H v bunch piece) ≡ sum_of f bunch + sum_of f piece
  unfolding sum_of both entry_edges flat
  settle_sum g H v bunch piece =
      settle_cases g H v bunch piece (λ s. both s ≡ sum_of f bunch + sum_of f piece)
      (λ _. omega (arith, one_part v piece bunch))
      (λ _ _. omega (arith, one_part v (bunch ++ piece) [], sum_append f bunch piece))
      (λ _ _. omega (arith, sum_append f bunch piece))

  pieces_sum : (g : Graph) (H v : ℕ) (bunch : List ℕ) (b : Branches) → both (split_at g H v bunch b) ≡ sum_of f bunch + sum_of f (branch_edges b)
  unfolding split_at branch_edges sum_of entry_edges flat both
  pieces_sum g H v bunch none = omega arith
  pieces_sum g H v bunch (branch e child under later) =
      let inner = split_at g H child [] under in
      let met = settle g H v bunch (e ∷ inner.left) in
      let rest = split_at g H v met.left later in
      omega (
        arith,
        pieces_sum g H child [] under,
        settle_sum g H v bunch (e ∷ inner.left),
        pieces_sum g H v met.left later,
        part_edges_append inner.parts (met.parts ++ rest.parts),
        part_edges_append met.parts rest.parts,
        sum_append f (branch_edges under) (branch_edges later),
      )

-- An edge stands in joined lists of parts as often as in the one and the other.
pub times_part_edges : (e : ℕ) (xs ys : List Tree) → times e (entry_edges (xs ++ ys)) ≡ times e (entry_edges xs) + times e (entry_edges ys)
unfolding times
times_part_edges e xs ys = part_edges_append (λ x. cond (eqb e x) 1 0) xs ys

module _ (g : Graph) (H v : ℕ) (bunch : List ℕ) (b : Branches) where
  -- The sum of any value over the edges of the parts and those left is that over the bunch and the branches.
  pub split_sum : (f : ℕ → ℕ) → sum_of f (entry_edges (split_at g H v bunch b).parts) + sum_of f (split_at g H v bunch b).left ≡ sum_of f bunch + sum_of f (branch_edges b)
  unfolding both
  split_sum f = pieces_sum f g H v bunch b

  -- So is the weight.
  pub split_weight : total_weight g (entry_edges (split_at g H v bunch b).parts) + total_weight g (split_at g H v bunch b).left ≡ total_weight g bunch + total_weight g (branch_edges b)
  unfolding total_weight
  split_weight = split_sum (weight_of g)

  -- Each edge stands in the parts and among those left as often as in the bunch and the branches.
  pub split_exact : (e : ℕ) → times e (entry_edges (split_at g H v bunch b).parts) + times e (split_at g H v bunch b).left ≡ times e bunch + times e (branch_edges b)
  unfolding times
  split_exact e = split_sum (λ x. cond (eqb e x) 1 0)

  -- What stands in a part or is left is an edge of the bunch or of the branches,
  pub part_edge_from : {e : ℕ} {t : Tree} → t ∈ (split_at g H v bunch b).parts → e ∈ t.edges → e ∈ (bunch ++ branch_edges b)
  part_edge_from {e} m n = times_in e (bunch ++ branch_edges b) (omega (arith, in_times (in_part_edges m n), split_exact e, times_append e bunch (branch_edges b)))

  pub left_edge_from : {e : ℕ} → e ∈ (split_at g H v bunch b).left → e ∈ (bunch ++ branch_edges b)
  left_edge_from {e} m = times_in e (bunch ++ branch_edges b) (omega (arith, in_times m, split_exact e, times_append e bunch (branch_edges b)))

  -- and each of those stands in a part or is left.
  pub edge_kept : {e : ℕ} → e ∈ (bunch ++ branch_edges b) → ((t : Tree) × (t ∈ (split_at g H v bunch b).parts) × (e ∈ t.edges)) ⊎ (e ∈ (split_at g H v bunch b).left)
  edge_kept {e} m = go (times e (entry_edges parts)) refl
    where
      parts : List Tree
      parts = (split_at g H v bunch b).parts

      go : (n : ℕ) → times e (entry_edges parts) ≡ n → ((t : Tree) × (t ∈ parts) × (e ∈ t.edges)) ⊎ (e ∈ (split_at g H v bunch b).left)
      go zero q = inr (times_in e (split_at g H v bunch b).left (omega (arith, in_times m, split_exact e, times_append e bunch (branch_edges b))))
      go (suc n) q = inl (of_part_edges parts (times_in e (entry_edges parts) (omega arith)))
