-- The state of the method of augmenting paths: the parts placed so far, the parts and roots that a search has reached,
-- and the path that it found. Lists are of the arrays' lengths: 32 roots, 33 places.
-- Assumes nothing.
use Rattle.std.specs.Prelude.{ℕ, ◌+◌, ◌*◌, ◌<◌, ◌≤◌, ◌≡◌, ◌⊎◌, Bool, true, false, List, length, get_or, take, Result, Ok, Err}
use Rattle.lists.specs.Put.{OnlyFirst}
use Rattle.lists.specs.Scratch.{Scratch}
use Rattle.matching.specs.declared.Answer.{Answer}
use Rattle.matching.specs.declared.Answer.TheVariants.{Refused, Assigned, Deficient}
use Rattle.matching.specs.Assignment.{IsAssignment, IsDeficient}
use Rattle.matching.specs.Input.{allowed_at}

-- The value that stands for no part, and for no place.
abbrev pub none : ℕ
none = 255

-- The first i parts have roots, no root for two, and `owner` has the part of each root.
pub record Mirror (i : ℕ) (owner roots : List ℕ) : Type 0 where
  pub all : length owner ≡ 32
  pub is_root : (k : ℕ) → k < i → get_or roots k 0 < 32
  pub owned : (k : ℕ) → k < i → get_or owner (get_or roots k 0) 0 ≡ k
  pub owner_of : (r : ℕ) → r < 32 → (get_or owner r 0 ≡ none → ⊥) → (get_or owner r 0 < i) × (get_or roots (get_or owner r 0) 0 ≡ r)

-- Each of the first i parts has a root that is allowed to it.
abbrev pub May : (y : ℕ) (allowed : ℕ → ℕ → Bool) (i : ℕ) (roots : List ℕ) → Type 0
May y allowed i roots = (k : ℕ) → k < i → (get_or roots k 0 < y) × (allowed k (get_or roots k 0) ≡ true)

-- A place a of a search from part i, behind the first: its part has its root, which was reached from an earlier place.
pub record Place (i : ℕ) (owner parts via from : List ℕ) (a : ℕ) : Type 0 where
  pub is_root : get_or via a 0 < 32
  pub earlier : get_or from (get_or via a 0) 0 < a
  pub has : get_or owner (get_or via a 0) 0 ≡ get_or parts a 0
  pub is_part : get_or parts a 0 < i

-- The places of a search from part i, up to place n.
pub record Places (i : ℕ) (owner parts via from : List ℕ) (n : ℕ) : Type 0 where
  pub first : get_or parts 0 0 ≡ i
  pub behind : (a : ℕ) → 0 < a → a ≤ n → Place i owner parts via from a

-- Each root reached is allowed to the part that reached it.
abbrev pub Edges : (y : ℕ) (allowed : ℕ → ℕ → Bool) (parts from : List ℕ) → Type 0
Edges y allowed parts from = (r : ℕ) → r < 32 → (get_or from r 0 ≡ none → ⊥) → (r < y) × (allowed (get_or parts (get_or from r 0) 0) r ≡ true)

-- A search from part i can begin: its bytes are there, roots have parts before i, and no root is reached.
pub record Searchable (y i : ℕ) (bytes owner parts via from : List ℕ) : Type 0 where
  pub places : (length parts ≡ 33) × (length via ≡ 33)
  pub roots : length from ≡ 32
  pub few : y ≤ 32
  pub enough : (i + 1) * y ≤ length bytes
  pub owner_below : (r : ℕ) → r < 32 → (get_or owner r 0 ≡ none → ⊥) → get_or owner r 0 < i
  pub fresh : (r : ℕ) → r < 32 → get_or from r 0 ≡ none

-- The search has reached root j, which no part has.
pub record Reached (y : ℕ) (allowed : ℕ → ℕ → Bool) (i : ℕ) (owner parts via from : List ℕ) (j : ℕ) : Type 0 where
  pub is_root : j < 32
  pub free : get_or owner j 0 ≡ none
  pub near : get_or from j 0 < 33
  pub places : Places i owner parts via from (get_or from j 0)
  pub edges : Edges y allowed parts from

-- The search has reached t parts and is at its end: each root allowed to one of them is that of one behind the first.
pub record Closed (y : ℕ) (allowed : ℕ → ℕ → Bool) (i : ℕ) (owner parts : List ℕ) (t : ℕ) : Type 0 where
  pub some : 0 < t
  pub few : t ≤ 33
  pub first : get_or parts 0 0 ≡ i
  pub behind : (a : ℕ) → 0 < a → a < t → get_or parts a 0 < i
  pub closed : (a r : ℕ) → a < t → r < y → allowed (get_or parts a 0) r ≡ true → (b : ℕ) × (0 < b) × (b < t) × (get_or owner r 0 ≡ get_or parts b 0)

-- What each end of a search says.
abbrev pub Finding : (y : ℕ) (allowed : ℕ → ℕ → Bool) (i : ℕ) (owner : List ℕ) → Result ℕ ℕ → (parts via from : List ℕ) → Type 0
Finding y allowed i owner (Ok j) parts via from = Reached y allowed i owner parts via from j
Finding y allowed i owner (Err t) parts via from = Closed y allowed i owner parts t

-- The search has ended. Beyond what its end says of them the arrays were scratch.
pub record SearchEnded (y : ℕ) (allowed : ℕ → ℕ → Bool) (i : ℕ) (owner : List ℕ) (r : Result ℕ ℕ) (parts parts_after via via_after from from_after : List ℕ) : Type 0 where
  pub finding : Finding y allowed i owner r parts_after via_after from_after
  pub parts_scratch : Scratch parts parts_after
  pub via_scratch : Scratch via via_after
  pub from_scratch : Scratch from from_after

-- The roots can be exchanged along the path to root j.
pub record Exchangeable (i j : ℕ) (parts via from owner roots : List ℕ) : Type 0 where
  pub is_root : j < 32
  pub free : get_or owner j 0 ≡ none
  pub near : get_or from j 0 < 33
  pub places : Places i owner parts via from (get_or from j 0)
  pub mirror : Mirror i owner roots
  pub few : i < none
  pub fits : i < length roots

-- Part k has root r, which it had before or has reached.
abbrev pub HadOrReached : (parts from before : List ℕ) (i k r : ℕ) → Type 0
HadOrReached parts from before i k r = ((k < i) × (r ≡ get_or before k 0)) ⊎ ((get_or from r 0 ≡ none → ⊥) × (get_or parts (get_or from r 0) 0 ≡ k))

-- After the exchange part i has a root too, and each part has the root that it had or one that it reached.
pub record Exchanged (i : ℕ) (parts from before owner after : List ℕ) : Type 0 where
  pub mirror : Mirror (i + 1) owner after
  pub by : (k : ℕ) → k < i + 1 → HadOrReached parts from before i k (get_or after k 0)
  pub rest : OnlyFirst (i + 1) before after

-- The parts before i have roots, and part i is to have one.
pub record Ready (p y i : ℕ) (bytes owner roots : List ℕ) : Type 0 where
  pub part : i < p
  pub parts : p ≤ none
  pub few : y ≤ 32
  pub enough : length bytes ≡ p * y
  pub fits : p ≤ length roots
  pub mirror : Mirror i owner roots
  pub may : May y (allowed_at bytes y) i roots

-- Part i has a root too, or else the first p bytes are a deficient set and the owners are as they came.
pub record Placed (p y i : ℕ) (bytes : List ℕ) (placed : Bool) (owner owner_after before after : List ℕ) : Type 0 where
  pub mirror : placed ≡ true → Mirror (i + 1) owner_after after
  pub owner_kept : placed ≡ false → owner_after ≡ owner
  pub may : placed ≡ true → May y (allowed_at bytes y) (i + 1) after
  pub set : placed ≡ false → IsDeficient p y (allowed_at bytes y) (take p after)
  pub rest : OnlyFirst p before after

-- The first p bytes are an assignment or a deficient set, as the answer says.
pub record Solved (p y : ℕ) (bytes before : List ℕ) (answer : Answer) (after : List ℕ) : Type 0 where
  pub answered : answer ≡ Refused → ⊥
  pub assigned : answer ≡ Assigned → IsAssignment p y (allowed_at bytes y) (take p after)
  pub set : answer ≡ Deficient → IsDeficient p y (allowed_at bytes y) (take p after)
  pub rest : OnlyFirst p before after
