-- The roots one by one: crew j starts at the j-th of them.
-- Assumes nothing.
use Prim.Native.Nat.{ℕ, ◌*◌, ◌<◌}
use mathlib.Core.Path.{◌≡◌, sym, ap, ◌∙◌}
use mathlib.Core.List.{List, map-id}
use mathlib.Core.Option.{Option, some, none}
use lib.ListN.{get_or}
use Rattle.lists.specs.Count.{below}
use Rattle.lists.proofs.Runs.{get_or_map_below}
use Rattle.graph.specs.Bytes.{u16_at}
use Rattle.rules.specs.Questions.{roots_by}
use Rattle.admit.specs.Crews.{root_at}

pub root_is : (k : ℕ) (vans : Option (List ℕ)) (j : ℕ) → j < k → get_or (roots_by k vans) j 0 ≡ root_at vans j
root_is k none j h = ap (λ l. get_or l j 0) (sym (map-id (below k))) ∙ get_or_map_below (λ x. x) 0 k j h
root_is k (some vans) j h = get_or_map_below (λ i. u16_at vans (2 * i)) 0 k j h
