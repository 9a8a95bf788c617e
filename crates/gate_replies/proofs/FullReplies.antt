-- Replies in full: what they write to the buffer, and how long what they say is.
-- Assumes nothing.
use Prim.Native.Nat.{ℕ, ◌+◌, ◌*◌, ◌≤◌}
use mathlib.Core.Path.{◌≡◌, refl, sym, subst}
use mathlib.Core.List.{List, ◌++◌}
use native.Mathlib.Omega.{arith}
use lib.ListN.{length, length-append}
use Rattle.lists.specs.Put.{PutTo}
use Rattle.replies.specs.declared.Reply.{Reply}
use Rattle.replies.specs.declared.Reply.TheVariants.{Refused, Cover, Stop, Parts, Needs, NoCover}
use Rattle.replies.specs.Replies.{Said, says}
use Rattle.gate_replies.specs.Fields.{field, fields}
use Rattle.gate_replies.specs.Full.{head_of, front_length}
use Rattle.gate_replies.proofs.FieldLaws.{field_length, fields_length}

-- A reply that is neither a cover nor parts.
abbrev pub Other : Reply → Type 0
Other r = ((limit heaviest t : ℕ) → r ≡ Cover limit heaviest t → ⊥) × ((T D : ℕ) → r ≡ Parts T D → ⊥)

-- None of them writes to the buffer.
pub writes_nothing : (r : Reply) (buf : List ℕ) → Other r → 0 ≡ front_length r buf
writes_nothing (Refused f) buf k = refl
writes_nothing (Cover limit heaviest t) buf k = absurd (k.0 limit heaviest t refl)
writes_nothing (Stop v) buf k = refl
writes_nothing (Parts T D) buf k = absurd (k.1 T D refl)
writes_nothing (Needs C) buf k = refl
writes_nothing NoCover buf k = refl

-- A reply writes no more than there is room for.
pub front_within : (r : Reply) (buf : List ℕ) → front_length r buf ≤ length buf
front_within (Refused f) buf = omega arith
front_within (Cover limit heaviest t) buf = omega arith
front_within (Stop v) buf = omega arith
front_within (Parts T D) buf = omega arith
front_within (Needs C) buf = omega arith
front_within NoCover buf = omega arith

-- What a reply says takes at most 28 bytes: it has at most three values.
head_length : (s : Said) → length (head_of s) ≡ 4 + 8 * length s.values
unfolding head_of
head_length s =
    omega (
      arith,
      length-append (field 2 s.number) (field 2 (length s.values) ++ fields 8 s.values),
      length-append (field 2 (length s.values)) (fields 8 s.values),
      field_length 2 s.number,
      field_length 2 (length s.values),
      fields_length 8 s.values,
    )

pub head_few : (r : Reply) → length (head_of (says r)) ≤ 28
head_few (Refused f) = omega (arith, head_length (says (Refused f)))
head_few (Cover limit heaviest t) = omega (arith, head_length (says (Cover limit heaviest t)))
head_few (Stop v) = omega (arith, head_length (says (Stop v)))
head_few (Parts T D) = omega (arith, head_length (says (Parts T D)))
head_few (Needs C) = omega (arith, head_length (says (Needs C)))
head_few NoCover = omega (arith, head_length (says NoCover))

-- What a reply says was put, where the reply is known.
pub said_put : {x y : Reply} {before after : List ℕ} {r : ℕ} → x ≡ y → PutTo 0 (head_of (says y)) before after r → PutTo 0 (head_of (says x)) before after r
said_put {before = before} {after = after} {r = r} q p = subst (λ z. PutTo 0 (head_of (says z)) before after r) (sym q) p
