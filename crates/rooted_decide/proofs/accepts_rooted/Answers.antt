-- `rooted_decide::accepts_rooted` meets its contract: where an edge of the whole forest is above the limit, some vertex is joined to no root;
-- otherwise the parts decide. Assumes nothing.
use Prim.Native.Nat.{◌≤◌}
use mathlib.Core.Path.{◌≡◌, ◌∙◌}
use mathlib.Core.Option.{none}
use native.Mathlib.Omega.{arith}
use lib.ListN.{length}
use Rattle.graph.specs.Graph.{Graph}
use Rattle.rules.specs.RootedTrial.{unjoined_at}
use Rattle.rooted_state.proofs.LimitDecided.{light_joined, heavy_refused, joined_accepts}
use Rattle.rooted_decide.proofs.PartsCounted.{parts_ready}
use Rattle.rooted_decide.proofs.accepts_rooted.Goals as goal

pub returns-then-light_forest-kept : goal.returns-then-light_forest-kept
returns-then-light_forest-kept c =
    let g : Graph = c.args.g.now in
    heavy_refused g c.args.roots.now c.requires.asked.decidable.forest c.light_forest.ensures c.requires.asked.decidable.given.valid (omega arith)

pub parts_assigned-requires : goal.parts_assigned-requires
parts_assigned-requires c =
    let g : Graph = c.args.g.now in
    let joined : length c.args.kept.now ≤ c.light_forest.result → unjoined_at g c.args.roots.now c.args.limit ≡ none = λ all. light_joined g c.args.roots.now c.requires.asked.decidable.forest c.light_forest.ensures c.requires.some_cover all in
    record { ready = parts_ready c.requires.asked (joined (omega arith)); stepped = c.requires.stepped }

pub returns : goal.returns
returns c =
    let g : Graph = c.args.g.now in
    let joined : length c.args.kept.now ≤ c.light_forest.result → unjoined_at g c.args.roots.now c.args.limit ≡ none = λ all. light_joined g c.args.roots.now c.requires.asked.decidable.forest c.light_forest.ensures c.requires.some_cover all in
    let all : length c.args.kept.now ≤ c.light_forest.result = omega arith in
    c.parts_assigned.ensures ∙ joined_accepts g c.args.roots.now c.args.limit (joined all)
