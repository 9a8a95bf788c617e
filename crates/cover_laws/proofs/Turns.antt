-- A turn of the walk along a tree, by its three cases; and what holds at the start and is kept by every crossing holds after any number of turns.
-- Assumes nothing.
use Prim.Native.Nat.{ℕ, zero, suc}
use mathlib.Core.Path.{◌≡◌, refl}
use mathlib.Core.List.{List, [], ◌∷◌}
use mathlib.Core.Option.{Option, some, none}
use Rattle.graph.specs.Graph.{Graph}
use Rattle.rules.specs.Cover.{Tree}
use Rattle.rules.specs.ClosedWalk.{Underway, underway, next_edge, crossed, homeward, turn_by, turn, after_turns}

module _ (g : Graph) (t : Tree) where
  -- The cases of a turn: on by the next edge; back by the way; or neither is left.
  pub data Turned (s : Underway) : Underway → Type 0 where
    went_on : (e : ℕ) → next_edge g t s.stop s.crossings ≡ some e → Turned s (crossed g s e (e ∷ s.way))
    went_back : (e : ℕ) (way : List ℕ) → next_edge g t s.stop s.crossings ≡ none → s.way ≡ e ∷ way → Turned s (crossed g s e way)
    stood : next_edge g t s.stop s.crossings ≡ none → s.way ≡ [] → Turned s s

  pub turned : (s : Underway) → Turned s (turn g t s)
  unfolding turn turn_by homeward
  turned s = go (next_edge g t s.stop s.crossings) refl
    where
      by_way : next_edge g t s.stop s.crossings ≡ none → (way : List ℕ) → s.way ≡ way → Turned s (homeward g s way)
      by_way q [] w = stood q w
      by_way q (e ∷ way) w = went_back e way q w

      go : (o : Option ℕ) → next_edge g t s.stop s.crossings ≡ o → Turned s (turn_by g s o)
      go (some e) q = went_on e q
      go none q = by_way q s.way refl

  -- a property of where the walk is, which holds at the start, and which a crossing on and a crossing back keep
  module _ (P : Underway → Type 0) (at_start : P (underway t.start [] []))
      (on : (s : Underway) (e : ℕ) → P s → next_edge g t s.stop s.crossings ≡ some e → P (crossed g s e (e ∷ s.way)))
      (home : (s : Underway) (e : ℕ) (way : List ℕ) → P s → next_edge g t s.stop s.crossings ≡ none → s.way ≡ e ∷ way → P (crossed g s e way)) where
    turn_keeps : {s there : Underway} → P s → Turned s there → P there
    turn_keeps {s} p (went_on e q) = on s e p q
    turn_keeps {s} p (went_back e way q w) = home s e way p q w
    turn_keeps p (stood q w) = p

    -- It holds after any number of turns.
    pub turns_keep : (turns : ℕ) → P (after_turns g t turns)
    unfolding after_turns
    turns_keep zero = at_start
    turns_keep (suc turns) = turn_keeps (turns_keep turns) (turned (after_turns g t turns))
