-- Words, decimal numbers and lines of text, as bytes of ASCII.
-- Assumes nothing.
use Rattle.std.specs.Prelude.{ℕ, zero, suc, ◌+◌, ◌-◌, ◌*◌, ◌/◌, ◌%◌, cond, List, [], ◌∷◌, ◌++◌, map, ltb}
use Prim.Native.Char.{code}
use Prim.Native.String as string
use Rattle.lists.specs.Lists.{flat}

-- The bytes of a text: the code of each character. (Every text here is ASCII, whose codes are single bytes.)
abbrev pub bytes_of : string.String → List ℕ
bytes_of string.[] = []
bytes_of (string.◌∷◌ c s) = code c ∷ bytes_of s

-- The byte of a digit: `0` is 48.
abbrev pub digit : ℕ → ℕ
digit d = 48 + d

-- The decimal digits of n by at most so many divisions by ten, the most significant first.
unfoldable pub digits_within : ℕ → ℕ → List ℕ
digits_within zero n = digit (n % 10) ∷ []
digits_within (suc k) n =
    let last = digit n ∷ [] in
    let more = digits_within k (n / 10) ++ (digit (n % 10) ∷ []) in
    cond (ltb n 10) last more

-- The decimal digits of n, without a zero in front. No more than n divisions are needed.
unfoldable pub digits : ℕ → List ℕ
digits n = digits_within n n

-- The number that digits spell, behind a number already read.
unfoldable pub read_behind : ℕ → List ℕ → ℕ
read_behind n [] = n
read_behind n (d ∷ ds) = read_behind (n * 10 + (d - 48)) ds

-- The number that digits spell.
unfoldable pub read_digits : List ℕ → ℕ
read_digits ds = read_behind 0 ds

-- A number behind a single space.
unfoldable pub spaced : ℕ → List ℕ
spaced n = bytes_of " " ++ digits n

-- Numbers, each behind a single space.
unfoldable pub all_spaced : List ℕ → List ℕ
all_spaced ns = flat (map spaced ns)

-- The same with a newline (byte 10) behind them: the end of a line.
unfoldable pub ended : List ℕ → List ℕ
ended ns = all_spaced ns ++ bytes_of "\n"

-- A line: words, numbers, and a newline.
unfoldable pub line : string.String → List ℕ → List ℕ
line words ns = bytes_of words ++ ended ns
