-- The parts of a set that admits no assignment, laid out and written (document 01, step 5: "too low, parts T, yards D").
-- Assumes nothing.
use Rattle.std.specs.Prelude.{ℕ, ◌+◌, ◌*◌, ◌≤◌, ◌<◌, ◌≡◌, length, get_or, take}
use mathlib.Core.List.{List, map, head_d}
use Rattle.lists.specs.Lists.{sum_of}
use Rattle.lists.specs.Put.{PutTo, OnlyFirst}
use Rattle.lists.specs.Segments.{segment}
use Rattle.lists.specs.Sort.{rise}
use Rattle.graph.specs.Graph.{Graph}
use Rattle.matching.specs.Assignment.{marked_parts, allowed_roots}
use Rattle.matching.specs.Input.{allowed_at}
use Rattle.rules.specs.CoverBytes.{encode}
use Rattle.rules.specs.Held.{trees_at, risen}
use Rattle.rules.specs.RootedTrial.{rooted_parts, may_go, chosen_parts}
use Rattle.rules.specs.Questions.{least_room}
use Rattle.cover.specs.Chosen.{IsHeld, AllHeld}
use Rattle.pieces.specs.Pieces.{Laid}
use Rattle.replies.specs.declared.Reply.{Reply}
use Rattle.replies.specs.declared.Reply.TheVariants.{Parts}
use Rattle.deficient.specs.declared.Deficient.{Deficient}

-- How many edges pieces of these numbers have together.
abbrev pub edges_of : List ℕ → List ℕ → List ℕ → ℕ
edges_of cuts members chosen = sum_of (λ c. length (segment cuts members c)) chosen

-- What laying out the edges of chosen pieces asks: each is held, and there is room for their bounds and their edges.
pub record LayGiven (cuts members chosen : List ℕ) (bounds_room edges_room : ℕ) : Type 0 where
  pub held : AllHeld cuts members chosen
  pub bounds_fit : length chosen < bounds_room
  pub edges_fit : edges_of cuts members chosen ≤ edges_room
  pub small : edges_room < 65536

-- They are laid one piece after the other, each piece's rising. What stands behind them is as it came, and so are the bounds behind theirs.
pub record EdgesLaid (cuts members chosen bounds bounds_after edges edges_after : List ℕ) : Type 0 where
  pub laid : Laid (λ i. rise (segment cuts members (get_or chosen i 0))) (length chosen) (get_or bounds_after (length chosen) 0) bounds_after edges_after
  pub bounds_rest : OnlyFirst (length chosen + 1) bounds bounds_after
  pub edges_rest : OnlyFirst (edges_of cuts members chosen) edges edges_after

-- What taking the keys of t trees asks: each is held, and there is room for the keys.
pub record KeysGiven (bounds edges : List ℕ) (t room : ℕ) : Type 0 where
  pub held : (i : ℕ) → i < t → IsHeld bounds edges i
  pub fits : t ≤ room

-- At the number of each tree stands its first edge.
pub record Keyed (bounds edges : List ℕ) (t : ℕ) (keys : List ℕ) : Type 0 where
  pub are : (i : ℕ) → i < t → get_or keys i 0 ≡ head_d (segment bounds edges i) 0

-- The keys were taken, and what stands behind them is as it came.
pub record KeysTaken (bounds edges : List ℕ) (t : ℕ) (keys keys_after : List ℕ) : Type 0 where
  pub keyed : Keyed bounds edges t keys_after
  pub rest : OnlyFirst t keys keys_after

-- What writing chosen pieces asks: each is held, they are fewer than 256 and have fewer than 256 edges, and the buffer is large enough.
pub record ChosenGiven (cuts members chosen : List ℕ) (room : ℕ) : Type 0 where
  pub held : AllHeld cuts members chosen
  pub few : length chosen < 256
  pub light : edges_of cuts members chosen < 256
  pub most : least_room ≤ room

-- What writing the parts of a set asks: a place, a mark and a row for each part; pieces that are held, few and light; and a large buffer.
pub record SetGiven (cuts members places : List ℕ) (parts : ℕ) (rows marks : List ℕ) (k room : ℕ) : Type 0 where
  pub places_room : parts ≤ length places
  pub marks_room : parts ≤ length marks
  pub rows_room : parts * k ≤ length rows
  pub held : AllHeld cuts members (take parts places)
  pub few : parts < 256
  pub light : edges_of cuts members (take parts places) < 256
  pub most : least_room ≤ room

-- The parts of the set were written, and the answer says how many there are and how many roots are allowed to them.
pub record SetWritten (starts cuts members places : List ℕ) (parts : ℕ) (rows marks : List ℕ) (k : ℕ) (before after : List ℕ) (r : Deficient) : Type 0 where
  pub bytes : ℕ
  pub written : PutTo 0 (encode (chosen_parts (map risen (trees_at starts cuts members (take parts places))) (take parts marks))) before after bytes
  pub parts_are : r.parts ≡ marked_parts parts (take parts marks)
  pub roots_are : r.roots ≡ allowed_roots parts k (allowed_at rows k) (take parts marks)

-- The parts of a deficient set were written, and the reply says their number ("T") and that of the roots allowed to them ("D").
pub record SetReplied (starts cuts members places : List ℕ) (parts : ℕ) (rows marks : List ℕ) (k : ℕ) (before after : List ℕ) (r : Reply) : Type 0 where
  pub set : Deficient
  pub written : SetWritten starts cuts members places parts rows marks k before after set
  pub is : r ≡ Parts set.parts set.roots

-- The parts of a rooted trial's set were written: "too low, parts T, yards D" with the parts of the set that the marks say.
pub record DeficientWritten (g : Graph) (roots : List ℕ) (limit : ℕ) (marks before after : List ℕ) (r : Deficient) : Type 0 where
  pub bytes : ℕ
  pub written : PutTo 0 (encode (chosen_parts (rooted_parts g roots limit) marks)) before after bytes
  pub parts_are : r.parts ≡ marked_parts (length (rooted_parts g roots limit)) marks
  pub roots_are : r.roots ≡ allowed_roots (length (rooted_parts g roots limit)) (length roots) (may_go g roots limit) marks
