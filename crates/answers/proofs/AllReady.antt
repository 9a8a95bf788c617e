-- Where everything that the crews read is ready, so is what each step before the answer reads.
-- Assumes nothing.
use Prim.Native.Nat.{ℕ}
use mathlib.Core.Path.{◌≡◌}
use mathlib.Core.List.{List}
use Rattle.graph.specs.Graph.{Graph}
use Rattle.rules.specs.Order.{ordered}
use Rattle.prepare.specs.declared.crews.Crews.{Crews}
use Rattle.prepare.specs.declared.crews.Crews.TheVariants.{Rooted, Unrooted}
use Rattle.prepare.specs.declared.crews.Prepared.{Prepared}
use Rattle.prepare.specs.Crews.{CrewsReady}
use Rattle.answers.specs.Answers.{ForestReady, AllReady, AnswerAsked}

-- What "no cover" reads is ready where what crews read at every limit is.
pub forest_ready : {g : Graph} {kept : List ℕ} (crews : Crews) → CrewsReady g kept crews → ForestReady g kept crews
forest_ready (Rooted roots around table) r = record { given = r.limits.given; forest = r.limits.forest }
forest_ready (Unrooted k merges) r = r.limits.forest_kept

module _ (g : Graph) (order kept : List ℕ) where
  crews_of : (crews : Crews) → AllReady g order kept crews → CrewsReady g kept crews
  crews_of (Rooted roots around table) r = record { valid = r.decidable.given.valid; limits = r.decidable }
  crews_of (Unrooted k merges) r = record { valid = r.history.forest_kept.valid; limits = r.history }

  order_of : (crews : Crews) → AllReady g order kept crews → order ≡ ordered g
  order_of (Rooted roots around table) r = r.in_order
  order_of (Unrooted k merges) r = r.in_order

module _ {g : Graph} {p : Prepared} {room : ℕ} (a : AnswerAsked g p room) where
  -- What crews read at every limit is ready,
  pub crews_ready : CrewsReady g p.kept.now p.crews
  crews_ready = crews_of g p.order.now p.kept.now p.crews a.ready

  -- and the edges in order.
  pub order_ready : p.order.now ≡ ordered g
  order_ready = order_of g p.order.now p.kept.now p.crews a.ready
