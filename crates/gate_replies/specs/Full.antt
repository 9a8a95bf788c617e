-- A reply in full, as bytes: "case, count of values, values, length, front, rest".
-- Assumes nothing.
use Rattle.std.specs.Prelude.{ℕ, min, Bool, true, ◌&&◌, List, [], ◌∷◌, ◌++◌, length, take, drop, eqb}
use Rattle.rules.specs.CoverBytes.{cover_length}
use Rattle.replies.specs.declared.Reply.{Reply}
use Rattle.replies.specs.declared.Reply.TheVariants.{Refused, Cover, Stop, Parts, Needs, NoCover}
use Rattle.replies.specs.Replies.{Said, says, bit_of}
use Rattle.gate_replies.specs.Fields.{field, fields}

-- What a reply says: the number of its case (2 bytes), how many values (2), and these (8 each).
unfoldable pub head_of : Said → List ℕ
head_of s = field 2 s.number ++ (field 2 (length s.values) ++ fields 8 s.values)

-- How many bytes those at the front of the buffer ask for, and no more than there are.
abbrev pub announced_in : List ℕ → ℕ
announced_in buf = min (cover_length buf) (length buf)

-- How many bytes a reply wrote to the front of the buffer: a cover's or the parts' bytes say how many they are; the others write nothing.
abbrev pub front_length : Reply → List ℕ → ℕ
front_length (Refused f) buf = 0
front_length (Cover limit heaviest t) buf = announced_in buf
front_length (Stop v) buf = 0
front_length (Parts T D) buf = announced_in buf
front_length (Needs C) buf = 0
front_length NoCover buf = 0

-- Whether each byte is the one that a buffer is filled with before a question.
unfoldable pub untouched : List ℕ → Bool
untouched [] = true
untouched (x ∷ xs) = eqb x 165 && untouched xs

-- What the reply says, how many bytes it wrote (4 bytes), these, and whether the rest of the buffer is as it came (1).
unfoldable pub full_of : Said → List ℕ → List ℕ → List ℕ
full_of s front rest = head_of s ++ (field 4 (length front) ++ (front ++ field 1 (bit_of (untouched rest))))

-- The same of a reply and the buffer that it was given with.
unfoldable pub full_reply : Reply → List ℕ → List ℕ
full_reply reply buf = full_of (says reply) (take (front_length reply buf) buf) (drop (front_length reply buf) buf)
