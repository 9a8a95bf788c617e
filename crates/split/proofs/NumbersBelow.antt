-- The numbers of parts and of leftovers are below that of all pieces.
-- Assumes nothing.
use Prim.Native.Nat.{ℕ, suc, ◌+◌, ◌<◌}
use mathlib.Core.Path.{◌≡◌}
use mathlib.Core.List.Memᴰ
use mathlib.Core.List.{List, [], ◌∷◌}
use mathlib.Core.Logic.{◌⊎◌, inl, inr}
use native.Mathlib.Omega.{arith}
use lib.ListN.{length, length-append}
use Rattle.lists.specs.Count.{from}
use Rattle.lists.specs.Lists.{flat}
use Rattle.lists.specs.Member.{◌∈◌}
use Rattle.lists.proofs.Below.{of_from}
use Rattle.rules.specs.Split.{Pieces, all_parts}
use Rattle.split.specs.Pieces.{left_places, part_places}

-- Of one tree and those that follow it.
parts_many : (p : Pieces) (ps : List Pieces) → length (all_parts (p ∷ ps)) ≡ length p.parts + length (all_parts ps)
unfolding all_parts flat
parts_many p ps = length-append p.parts (all_parts ps)

pub part_below : (ps : List Pieces) (first : ℕ) {c : ℕ} → c ∈ part_places first ps → c < first + (length (all_parts ps) + length ps)
unfolding part_places
part_below [] first m = absurd (Memᴰ.not-nil m)
part_below (p ∷ ps) first {c} m = go (λ k. part_below ps (first + length p.parts + 1) k) (Memᴰ.append_cases (from first (length p.parts)) m)
  where
    go : (c ∈ part_places (first + length p.parts + 1) ps → c < first + length p.parts + 1 + (length (all_parts ps) + length ps))
        → (c ∈ from first (length p.parts)) ⊎ (c ∈ part_places (first + length p.parts + 1) ps) → c < first + (length (all_parts (p ∷ ps)) + suc (length ps))
    go ih (inl k) = omega (arith, parts_many p ps, of_from first (length p.parts) k)
    go ih (inr k) = omega (arith, parts_many p ps, ih k)

pub left_below : (ps : List Pieces) (first : ℕ) {c : ℕ} → c ∈ left_places first ps → c < first + (length (all_parts ps) + length ps)
unfolding left_places
left_below [] first m = absurd (Memᴰ.not-nil m)
left_below (p ∷ ps) first {c} m = go (λ k. left_below ps (first + length p.parts + 1) k) (Memᴰ.cases_cons m)
  where
    go : (c ∈ left_places (first + length p.parts + 1) ps → c < first + length p.parts + 1 + (length (all_parts ps) + length ps))
        → (c ≡ first + length p.parts) ⊎ (c ∈ left_places (first + length p.parts + 1) ps) → c < first + (length (all_parts (p ∷ ps)) + suc (length ps))
    go ih (inl q) = omega (arith, parts_many p ps)
    go ih (inr k) = omega (arith, parts_many p ps, ih k)
