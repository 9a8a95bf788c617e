-- Crews that 21 and 55 do not refuse are 1 to 32, as many as the question says, and fit the graph: the roots, by a list or numbered from 0, are
-- vertices.
-- Assumes nothing.
use Prim.Native.Nat.{ℕ, ◌*◌, ◌≤◌, ◌<◌}
use mathlib.Core.Path.{◌≡◌, refl}
use mathlib.Core.Bool.{Bool, false, ◌&&◌, ◌||◌}
use mathlib.Core.List.{List}
use mathlib.Core.Option.{Option, some, none}
use native.Mathlib.Omega.{arith}
use lib.Dec.{ltb, eqb}
use lib.ListN.{length}
use borrow.Author.Tests.{ltb-false, ltb-true}
use Rattle.lists.specs.Lists.{all}
use Rattle.lists.specs.Member.{◌∈◌}
use Rattle.lists.proofs.Below.{of_below}
use Rattle.lists.proofs.Every.{first_false, second_false, second_true, all_each}
use Rattle.lists.proofs.Runs.{length_below, length_map_below}
use Rattle.graph.specs.Graph.{Graph}
use Rattle.graph.specs.Bytes.{u16_at}
use Rattle.graph.proofs.Faults.{quiet_if, quiet_unless}
use Rattle.rules.specs.Questions.{Kind, yards, roving, roots_by, crews_by, too_many_roots, crew_fault, van_fault}
use Rattle.rules.specs.Fit.{crew_count, CrewsFit}

-- As many roots as crews.
pub roots_count : (k : ℕ) (vans : Option (List ℕ)) → length (roots_by k vans) ≡ k
roots_count k none = length_below k
roots_count k (some vans) = length_map_below (λ j. u16_at vans (2 * j)) k

pub crew_count_lem : (kind : Kind) (k : ℕ) (vans : Option (List ℕ)) → crew_count (crews_by kind k vans) ≡ k
unfolding crew_count
crew_count_lem yards k vans = roots_count k vans
crew_count_lem roving k vans = refl

module _ (kind : Kind) (k : ℕ) (vans : Option (List ℕ)) (n : ℕ) where
  -- Where 21 is not said, there are 1 to 32 crews, and no more roots than vertices.
  pub quiet_crews : crew_fault kind k vans n ≡ none → (1 ≤ k) × (k ≤ 32) × (too_many_roots kind k vans n ≡ false)
  unfolding crew_fault
  quiet_crews e =
      let few = ltb k 1 in
      let many = ltb 32 k in
      let above = too_many_roots kind k vans n in
      let quiet = quiet_if (few || (many || above)) _ e in
      let rest = second_false few (many || above) quiet in
      (ltb-false _ _ (first_false few _ quiet), ltb-false _ _ (first_false many above rest), second_false many above rest)

-- Where 55 is not said either, each root is a vertex.
roots_inside : (k : ℕ) (vans : Option (List ℕ)) (n : ℕ) → too_many_roots yards k vans n ≡ false → van_fault yards k vans n ≡ none → {r : ℕ} → r ∈ roots_by k vans → r < n
unfolding too_many_roots van_fault
roots_inside k none n few right m = omega (arith, ltb-false n k few, of_below k m)
roots_inside k (some vans) n few right {r} m =
    let below_n : ℕ → Bool = λ root. ltb root n in
    let sized = eqb (length vans) (2 * k) in
    let both = quiet_unless (sized && all below_n (roots_by k (some vans))) 55 right in
    ltb-true r n (all_each below_n (roots_by k (some vans)) (second_true sized (all below_n (roots_by k (some vans))) both) m)

pub crews_fit : (g : Graph) (kind : Kind) (k : ℕ) (vans : Option (List ℕ)) → crew_fault kind k vans g.vertices ≡ none → van_fault kind k vans g.vertices ≡ none
    → CrewsFit g (crews_by kind k vans)
crews_fit g yards k vans e f =
    let right = quiet_crews yards k vans g.vertices e in
    (omega (arith, roots_count k vans, right.0), λ r m. roots_inside k vans g.vertices right.2 f m)
crews_fit g roving k vans e f = (quiet_crews roving k vans g.vertices e).0
