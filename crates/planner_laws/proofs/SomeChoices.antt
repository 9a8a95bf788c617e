-- Good choices exist at every limit: an assignment and shortest paths where there is an assignment, a deficient set where there is none.
-- Assumes nothing.
use Prim.Native.Nat.{ℕ, ◌<◌}
use mathlib.Core.Path.{◌≡◌, refl, sym, ◌∙◌}
use mathlib.Core.Bool.{Bool, true, false, true≢false}
use mathlib.Core.List.{List, []}
use lib.ListN.{length, get_or}
use Rattle.lists.specs.Member.{◌∈◌}
use Rattle.lists.proofs.EachChosen.{each_chosen}
use Rattle.lists.proofs.Places.{at_place}
use Rattle.graph.specs.Graph.{Graph}
use Rattle.graph.specs.Valid.{Valid}
use Rattle.matching.specs.Assignment.{IsAssignment}
use Rattle.matching.proofs.AssignableLaws.{assignable_some}
use Rattle.matching.proofs.Hall.{unassignable_deficient}
use Rattle.rules.specs.Cover.{Crews, rooted, unrooted}
use Rattle.rules.specs.Distance.{IsShortestPath}
use Rattle.rules.specs.RootedTrial.{Choices, no_choices, GoodChoices, rooted_parts, part_of, may_go, is_assignable}
use Rattle.rules.specs.Fit.{CrewsFit, GoodFor}
use Rattle.distance_laws.proofs.Shortest.{shortest_path}

module _ {g : Graph} (valid : Valid g) (roots : List ℕ) (inside : (r : ℕ) → r ∈ roots → r < g.vertices) (limit : ℕ) where
  -- how many parts there are
  abbrev parts : ℕ
  parts = length (rooted_parts g roots limit)

  -- an assignment's root of each part
  abbrev root_of : List ℕ → ℕ → ℕ
  root_of assignment i = get_or roots (get_or assignment i 0) 0

  -- to each part that is assigned there is a shortest path
  some_path : {assignment : List ℕ} → IsAssignment parts (length roots) (may_go g roots limit) assignment → (i : ℕ) → i < parts
      → (path : List ℕ) × IsShortestPath g (root_of assignment i) (part_of (rooted_parts g roots limit) i) path
  unfolding may_go
  some_path {assignment} a i h =
      let (path, is, light) = shortest_path valid (inside (root_of assignment i) (at_place 0 roots (get_or assignment i 0) (a.is_root i h))) (part_of (rooted_parts g roots limit) i) limit (a.may i h) in
      (path, is)

  pub some_choices : (c : Choices) × GoodChoices g roots limit c
  unfolding is_assignable
  some_choices = go (is_assignable g roots limit) refl
    where
      go : (t : Bool) → is_assignable g roots limit ≡ t → (c : Choices) × GoodChoices g roots limit c
      go true e =
          let (assignment, a) = assignable_some (may_go g roots limit) parts (length roots) e in
          let (paths, shortest) = each_chosen [] (λ i path. IsShortestPath g (root_of assignment i) (part_of (rooted_parts g roots limit) i) path) parts (some_path a) in
          (record { assignment = assignment; paths = paths; marks = [] }, record { assigned = λ _. a; shortest = λ _. shortest; deficient = λ f. absurd (true≢false (sym e ∙ f)) })
      go false e =
          let (marks, d) = unassignable_deficient parts (length roots) (may_go g roots limit) e in
          (record { assignment = []; paths = []; marks = marks }, record { assigned = λ t. absurd (true≢false (sym t ∙ e)); shortest = λ t. absurd (true≢false (sym t ∙ e)); deficient = λ _. d })

-- So it is for crews of either kind.
pub good_choices : {g : Graph} → Valid g → (crews : Crews) → CrewsFit g crews → (limit : ℕ) → (c : Choices) × GoodFor g crews limit c
good_choices valid (rooted roots) (has_root, inside) limit = some_choices valid roots inside limit
good_choices valid (unrooted k) fit limit = (no_choices, tt)
