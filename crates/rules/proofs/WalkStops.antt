-- The stops of a walk: how many there are, the last, one more with each crossing, the same ones the other way round, and that it passes the ends of
-- its edges and nothing that these do not link to its start.
-- Assumes nothing.
use Prim.Native.Nat.{ℕ, suc}
use mathlib.Core.Path.{◌≡◌, refl, sym, ap, ◌∙◌}
use mathlib.Core.List.Memᴰ
use mathlib.Core.List.{List, [], ◌∷◌, ◌++◌}
use mathlib.Core.Logic.{◌⊎◌, inl, inr}
use lib.ListN.{length}
use Rattle.lists.specs.Member.{◌∈◌}
use Rattle.graph.specs.Graph.{Graph}
use Rattle.rules.specs.Walk.{Joins, Walk, stay, step, Linked}
use Rattle.rules.specs.Grow.{far_end}
use Rattle.rules.specs.ClosedWalk.{stops_from}
use Rattle.rules.specs.WalkRule.{last_stop}
use Rattle.rules.proofs.Linked.{turned, joins_back, walk_back, linked_same, linked_on, linked_edge, linked_more}
use Rattle.rules.proofs.Joined.{joins_same}
use Rattle.rules.proofs.FarEnd.{far_end_lem}

module _ (g : Graph) where
  -- a walk has one stop more than crossings
  pub stops_length : (u : ℕ) (path : List ℕ) → length (stops_from g u path) ≡ suc (length path)
  unfolding stops_from
  stops_length u [] = refl
  stops_length u (e ∷ path) = ap suc (stops_length (far_end g e u) path)

  -- it passes where it begins
  pub first_stop : (u : ℕ) (path : List ℕ) → u ∈ stops_from g u path
  unfolding stops_from
  first_stop u [] = Memᴰ.head refl
  first_stop u (e ∷ path) = Memᴰ.head refl

  -- with one crossing more it passes one stop more
  pub stops_more : (u : ℕ) (path : List ℕ) (e : ℕ) → stops_from g u (path ++ (e ∷ [])) ≡ stops_from g u path ++ (far_end g e (last_stop g u path) ∷ [])
  unfolding stops_from last_stop
  stops_more u [] e = refl
  stops_more u (d ∷ path) e = ap (λ l. u ∷ l) (stops_more (far_end g d u) path e)

module _ {g : Graph} where
  -- it ends at its last stop
  pub walk_last : {path : List ℕ} {u v : ℕ} → Walk g path u v → last_stop g u path ≡ v
  unfolding last_stop
  walk_last (stay q) = q
  walk_last (step {path = path} j w) = ap (λ x. last_stop g x path) (far_end_lem j) ∙ walk_last w

  -- turned round it has the same stops, the last first
  pub stops_turned : {path : List ℕ} {u v : ℕ} → Walk g path u v → stops_from g v (turned path) ≡ turned (stops_from g u path)
  unfolding stops_from turned
  stops_turned (stay q) = ap (λ x. x ∷ []) (sym q)
  stops_turned {v = v} (step {e = e} {path = path} {u = u} j w) =
      rw (stops_more g v (turned path) e, walk_last (walk_back w), far_end_lem (joins_back j), far_end_lem j)
      (ap (λ l. l ++ (u ∷ [])) (stops_turned w))

  -- what is passed from where an edge leads is passed from its far end
  pub further : {e u w b : ℕ} (path : List ℕ) → Joins g e u w → b ∈ stops_from g w path → b ∈ stops_from g (far_end g e u) path
  further path j m = rw (far_end_lem j) m

  -- what a walk passes is linked to its start by its edges
  pub passed_linked : {path : List ℕ} {u v x : ℕ} → Walk g path u v → x ∈ stops_from g u path → Linked g path u x
  unfolding stops_from
  passed_linked (stay q) m = linked_same (sym (Memᴰ.eq_of_singleton m))
  passed_linked (step j w) (Memᴰ.head q) = linked_same (sym q)
  passed_linked (step j w) (Memᴰ.tail m) =
      linked_on (linked_edge (Memᴰ.head refl) j) (linked_more (λ f n. Memᴰ.tail n) (passed_linked w (rw (far_end_lem j) at m)))

  -- the ends of an edge that a walk crosses are passed
  pub joined_passed : {path : List ℕ} {u v e a b : ℕ} → Walk g path u v → e ∈ path → Joins g e a b → b ∈ stops_from g u path
  unfolding stops_from
  joined_passed (stay q) m k = absurd (Memᴰ.not-nil m)
  joined_passed {a = a} {b = b} (step {e = d} {path = path} {u = u} {w = w} j walk) (Memᴰ.head q) k = go (joins_same j (rw q at k))
    where
      go : ((u ≡ a) × (w ≡ b)) ⊎ ((u ≡ b) × (w ≡ a)) → b ∈ (u ∷ stops_from g (far_end g d u) path)
      go (inl (_, p)) = Memᴰ.tail (Memᴰ.cast (sym p) (further path j (first_stop g w path)))
      go (inr (p, _)) = Memᴰ.head (sym p)
  joined_passed (step {path = path} j walk) (Memᴰ.tail m) k = Memᴰ.tail (further path j (joined_passed walk m k))
