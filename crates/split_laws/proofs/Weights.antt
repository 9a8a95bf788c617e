-- How heavy the pieces are: a part weighs at least the threshold H and less than twice H, and less than H is left, where no edge of the
-- branches weighs more than H; where every edge is below H, a part weighs at most 2 H - 2. A bunch is below H before the piece that fills it,
-- and that piece is below H or would be a part alone; a part alone is one edge and what was left below it. With threshold 0 there are no parts.
-- Assumes nothing.
use Prim.Native.Nat.{ℕ, ◌+◌, ◌-◌, ◌*◌, ◌≤◌, ◌<◌}
use mathlib.Core.Path.{◌≡◌, refl}
use mathlib.Core.Bool.{Bool, true, false, ◌&&◌, false≢true}
use mathlib.Core.List.{List, [], ◌∷◌, ◌++◌}
use native.Mathlib.Omega.{arith}
use lib.Dec.{leb, ltb}
use borrow.Author.Tests.{ltb-true, lt-ltb, leb-true, leb-false}
use Rattle.lists.specs.Lists.{sum_of, flat, times}
use Rattle.lists.specs.Member.{◌∈◌}
use Rattle.lists.proofs.Member.{empty_list}
use Rattle.lists.proofs.Sums.{sum_append}
use Rattle.lists.proofs.Times.{times_append}
use Rattle.graph.specs.Graph.{Graph, weight_of}
use Rattle.rules.specs.Walk.{total_weight}
use Rattle.rules.specs.Cover.{Tree, tree_weight}
use Rattle.rules.specs.Grow.{Branches, branch_edges}
use Rattle.rules.specs.Split.{reaches, part_at, split_at}
use Rattle.rules.specs.CoverBytes.{entry_edges}
use Rattle.forest_laws.proofs.Thinning.{rise_weight}
use Rattle.split_laws.proofs.Along.{along_edges}
use Rattle.split_laws.proofs.Rules.{Rules, PiecesHold, split_holds}
use Rattle.split_laws.proofs.Exact.{split_exact}

module _ (g : Graph) where
  -- The weight of joined lists, of no edges, and of one more.
  pub weight_append : (xs ys : List ℕ) → total_weight g (xs ++ ys) ≡ total_weight g xs + total_weight g ys
  unfolding total_weight
  weight_append xs ys = sum_append (weight_of g) xs ys

  pub weight_none : total_weight g [] ≡ 0
  unfolding total_weight sum_of
  weight_none = refl

  pub weight_cons : (e : ℕ) (xs : List ℕ) → total_weight g (e ∷ xs) ≡ weight_of g e + total_weight g xs
  unfolding total_weight sum_of
  weight_cons e xs = refl

  -- A part weighs what its edges weigh.
  pub part_weight : (v : ℕ) (xs : List ℕ) → tree_weight g (part_at v xs) ≡ total_weight g xs
  unfolding tree_weight part_at
  part_weight v xs = rise_weight g xs

  -- The test `reaches`: at least H, where H is not 0.
  reaches_true : (H : ℕ) (xs : List ℕ) → reaches g H xs ≡ true → (0 < H) × (H ≤ total_weight g xs)
  unfolding reaches
  reaches_true H xs t = go (ltb 0 H) refl t
    where
      go : (b : Bool) → ltb 0 H ≡ b → b && leb H (total_weight g xs) ≡ true → (0 < H) × (H ≤ total_weight g xs)
      go true e t = (ltb-true 0 H e, leb-true H (total_weight g xs) t)
      go false e t = absurd (false≢true t)

  reaches_false : (H : ℕ) (xs : List ℕ) → 1 ≤ H → reaches g H xs ≡ false → total_weight g xs < H
  unfolding reaches
  reaches_false H xs h t = leb-false H (total_weight g xs) (rw (lt-ltb 0 H h) at t)

  -- Parts are split off only where H is above 0, and weigh at least H.
  heavy_rules : (H : ℕ) → Rules g H (λ u e child. Unit {0}) (λ t. (0 < H) × (H ≤ tree_weight g t)) (λ v bunch. Unit {0})
  heavy_rules H = record {
    empty = λ v. tt;
    alone = λ {v} {e} {child} {below} _ _ a. rw part_weight (reaches_true H (e ∷ below) a);
    full = λ {v} {e} {child} {bunch} {below} _ _ _ a b. rw part_weight (reaches_true H (bunch ++ (e ∷ below)) b);
    more = λ _ _ _ _. tt;
  }

  -- Where no edge weighs more than M, which is at least H - 1, bunches stay below H, and parts below H + M.
  light_rules : (H M : ℕ) → 1 ≤ H → H ≤ M + 1 → Rules g H (λ u e child. weight_of g e ≤ M) (λ t. tree_weight g t < H + M) (λ v bunch. total_weight g bunch < H)
  light_rules H M h m = record {
    empty = λ v. omega (arith, weight_none);
    alone = λ {v} {e} {child} {below} r q a. rw part_weight (omega (arith, weight_cons e below));
    full = λ {v} {e} {child} {bunch} {below} r q s a b. rw part_weight (omega (arith, weight_append bunch (e ∷ below), reaches_false H (e ∷ below) h a));
    more = λ {v} {e} {child} {bunch} {below} r q s b. reaches_false H (bunch ++ (e ∷ below)) h b;
  }

module _ (g : Graph) (H v : ℕ) (bunch : List ℕ) (b : Branches) where
  heavy : (t : Tree) → t ∈ (split_at g H v bunch b).parts → (0 < H) × (H ≤ tree_weight g t)
  heavy = (split_holds (heavy_rules g H) (along_edges (λ _. Unit {0}) v b (λ _ _. tt)) tt).of_parts

  -- Each part weighs at least H.
  pub part_heavy : {t : Tree} → t ∈ (split_at g H v bunch b).parts → H ≤ tree_weight g t
  part_heavy {t} m = (heavy t m).1

  module _ (above : 1 ≤ H) (start : total_weight g bunch < H) where
    -- What holds of parts and leftover where no edge of the branches weighs more than M.
    light : (M : ℕ) → H ≤ M + 1 → ((e : ℕ) → e ∈ branch_edges b → weight_of g e ≤ M)
        → PiecesHold (λ t. tree_weight g t < H + M) (λ left. total_weight g left < H) (split_at g H v bunch b)
    light M m each = split_holds (light_rules g H M above m) (along_edges (λ e. weight_of g e ≤ M) v b each) start

    module _ (each : (e : ℕ) → e ∈ branch_edges b → weight_of g e ≤ H) where
      -- Where H is not 0, no edge of the branches is above H and the bunch is below H: each part weighs less than 2 H,
      pub part_light : {t : Tree} → t ∈ (split_at g H v bunch b).parts → tree_weight g t < 2 * H
      part_light {t} m = omega (arith, (light H (omega arith) each).of_parts t m)

      -- and what is left weighs less than H.
      pub left_light : total_weight g (split_at g H v bunch b).left < H
      left_light = (light H (omega arith) each).of_left

    -- Where every edge is below H, each part weighs at most 2 H - 2.
    pub part_sharp : ((e : ℕ) → e ∈ branch_edges b → weight_of g e < H) → {t : Tree} → t ∈ (split_at g H v bunch b).parts → tree_weight g t + 2 ≤ 2 * H
    part_sharp each {t} m = omega (arith, (light (H - 1) (omega arith) (λ e i. omega (arith, each e i))).of_parts t m)

-- With threshold 0 there are no parts,
pub no_parts : (g : Graph) (v : ℕ) (bunch : List ℕ) (b : Branches) → (split_at g 0 v bunch b).parts ≡ []
no_parts g v bunch b = empty_list (split_at g 0 v bunch b).parts (λ t m. omega (arith, (heavy g 0 v bunch b t m).0))

-- and every edge is left.
pub all_left : (g : Graph) (v : ℕ) (bunch : List ℕ) (b : Branches) (e : ℕ) → times e (split_at g 0 v bunch b).left ≡ times e (bunch ++ branch_edges b)
unfolding times entry_edges flat sum_of
all_left g v bunch b e = omega (arith, rw (no_parts g v bunch b) at (split_exact g 0 v bunch b e), times_append e bunch (branch_edges b))
