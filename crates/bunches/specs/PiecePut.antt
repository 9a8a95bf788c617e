-- The edges on the stack from a place on become a piece: what the code asks and promises.
-- Assumes nothing.
use Rattle.std.specs.Prelude.{ℕ, ◌+◌, ◌≤◌, ◌<◌, ◌≡◌, List, [], ◌∷◌, length}
use Rattle.std.proofs.Math.Seq.{slice}
use Rattle.rules.specs.Split.{part_at}
use Rattle.bunches.specs.Store.{Store, Sound, Added}
use Rattle.bunches.specs.declared.Progress.{Progress}

-- What is asked: v is a vertex, of which the stack has a place for each; the place is on the stack; there is room for the edges,
-- and for a piece of each of the edges that may still come.
pub record Puttable (v from : ℕ) (stack : List ℕ) (s : Store) (top : ℕ) : Type 0 where
  pub inside : v < length stack
  pub on_stack : from ≤ top
  pub fits : s.used + top ≤ length stack
  pub sound : Sound (length stack) s
  pub starts_room : s.pieces + 1 + length stack + from ≤ s.used + top + length s.starts
  pub cuts_room : s.pieces + 1 + length stack + from < s.used + top + length s.cuts

-- What is promised: the piece is added, and its edges are off the stack.
pub record PiecePut (v from weight : ℕ) (stack : List ℕ) (s t : Store) (p r : Progress) : Type 0 where
  pub added : Added (length stack) (part_at v (slice from p.top stack) ∷ []) s t
  pub used_is : t.used + from ≡ s.used + p.top
  pub top_is : r.top ≡ from
  pub weight_is : r.weight ≡ weight
