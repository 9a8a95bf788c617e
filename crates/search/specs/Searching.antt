-- The search for the best limit (document 01, "The best limit"; stopped after some trials, document 02, A.6), in steps over low and high.
-- Assumes nothing.
use Rattle.std.specs.Prelude.{ℕ, ◌≤◌, ◌≡◌, List, length, take}
use Rattle.lists.specs.Put.{OnlyFirst}
use Rattle.graph.specs.Graph.{Graph}
use Rattle.rules.specs.Cover as cover
use Rattle.rules.specs.Order.{ordered}
use Rattle.rules.specs.Search.{accepts, Bounds, searched}
use Rattle.rules.specs.FewTrials.{middles, standing, known}
use Rattle.rules.specs.Questions.{most_limit}
use Rattle.rooted_state.specs.Prepared.{RootsGiven, WholeAround}
use Rattle.prepare.specs.declared.crews.Crews.{Crews}
use Rattle.prepare.specs.declared.crews.Crews.TheVariants.{Rooted, Unrooted}
use Rattle.prepare.specs.declared.crews.Prepared.{Prepared}
use Rattle.search.specs.declared.limit.Standing.{Standing}
use Rattle.search.specs.declared.limit.Found.{Found}
use Rattle.search.specs.Decision.{CrewsPrepared, Stepped}

-- Low and high.
abbrev pub between : ℕ → ℕ → Bounds
between low high = record { low = low; high = high }

-- Where the search ends that begins between 0 and the sum, with so many trials at most.
abbrev pub stands : Bounds → ℕ → Standing
stands b turns = record { low = b.low; high = b.high; turns = turns }

pub record SearchEnded (g : Graph) (crews : cover.Crews) (sum budget : ℕ) (r : Standing) : Type 0 where
  pub is : r ≡ stands (searched (accepts g crews) budget (between 0 sum)) (length (middles (accepts g crews) budget (between 0 sum)))
  pub in_order : r.low ≤ r.high
  pub most : r.high ≤ sum
  pub turns_most : r.turns ≤ budget

-- What is found with at most so many trials: high, and what is known.
abbrev pub found_after : Graph → cover.Crews → ℕ → Found
found_after g crews p =
    let k = known g crews p in
    record { high = (standing g crews p).high; known = record { trials = k.trials; floor = k.floor; spent = k.spent } }

-- What the search asks: what is prepared, the steps of the whole forest's trees, and a sum within document 01's range.
pub record SearchAsked (g : Graph) (p : Prepared) (steps : List ℕ) (sum : ℕ) : Type 0 where
  pub prepared : CrewsPrepared g p
  pub stepped : Stepped g p.crews steps
  pub sum_most : sum ≤ most_limit

-- What the search by the steps asks: the edges in order, by which the sum is taken, and trials for 0 and the sum.
pub record SteppedAsked (g : Graph) (p : Prepared) (steps : List ℕ) (trials : ℕ) : Type 0 where
  pub prepared : CrewsPrepared g p
  pub in_order : p.order.now ≡ ordered g
  pub stepped : Stepped g p.crews steps
  pub some_trials : 2 ≤ trials

-- Roots of a valid graph, and the edges around each vertex of the whole forest.
pub record RootsAround (g : Graph) (roots bounds arcs : List ℕ) : Type 0 where
  pub given : RootsGiven g roots
  pub around : WholeAround g roots bounds arcs

-- Where crews have roots, steps may be walked from these; without, none are walked.
abbrev pub Walkable : Graph → Crews → Type 0
Walkable g (Rooted roots around table) = RootsAround g roots.now around.bounds.now around.arcs.now
Walkable g (Unrooted k merges) = Unit {0}

-- What the search asks where no step is written yet.
pub record FindAsked (g : Graph) (p : Prepared) (trials : ℕ) : Type 0 where
  pub prepared : CrewsPrepared g p
  pub in_order : p.order.now ≡ ordered g
  pub walkable : Walkable g p.crews
  pub some_trials : 2 ≤ trials

-- What writing the steps asks: crews that they may be walked for, and a place for each vertex.
pub record StepsGiven (g : Graph) (crews : Crews) (steps : List ℕ) : Type 0 where
  pub walkable : Walkable g crews
  pub room : length steps ≡ 256

-- The first r elements are the steps of the whole forest's trees, where crews have roots; what stands behind them is as it came.
pub record StepsFor (g : Graph) (crews : Crews) (steps₀ steps : List ℕ) (r : ℕ) : Type 0 where
  pub fits : r ≤ length steps
  pub stepped : Stepped g crews (take r steps)
  pub rest : OnlyFirst r steps₀ steps
