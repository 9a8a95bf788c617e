-- Numbers in several bytes: how many bytes they take, and the next of them.
-- Assumes nothing.
use Prim.Native.Nat.{ℕ, zero, suc, ◌+◌, ◌-◌, ◌*◌, ◌/◌, ◌%◌, ◌≤◌, ◌<◌}
use mathlib.Core.Path.{◌≡◌, refl, sym, ap, ap₂, ◌∙◌}
use mathlib.Core.List.{List, [], ◌∷◌, ◌++◌, append_assoc, append-nil}
use native.Mathlib.Omega.{arith}
use lib.ListN.{length, take, set, length-append}
use lib.Seq.{take_all}
use Rattle.lists.specs.Lists.{flat}
use Rattle.lists.proofs.TakeDrop.{take_stored}
use Rattle.gate_replies.specs.Fields.{field, fields}

-- A field has as many bytes as it is wide.
pub field_length : (width x : ℕ) → length (field width x) ≡ width
unfolding field
field_length zero x = refl
field_length (suc width) x = ap suc (field_length width (x / 256))

sub_one : (width : ℕ) → suc width - 1 ≡ width
sub_one width = omega arith

-- Its lowest byte, and those behind it.
pub field_next : (width x : ℕ) → 0 < width → field width x ≡ x % 256 ∷ field (width - 1) (x / 256)
unfolding field
field_next zero x h = absurd (omega arith)
field_next (suc width) x h = rw (sub_one width) refl

pub field_none : (width x : ℕ) → width ≤ 0 → field width x ≡ []
unfolding field
field_none zero x h = refl
field_none (suc width) x h = absurd (omega arith)

-- A field's first bytes are stored and the others are those of the rest of its number: so with one byte more, and with all.
module _ (width x : ℕ) (bytes : List ℕ) (i rest : ℕ) (long : length bytes ≡ width) (so_far : take i bytes ++ field (width - i) rest ≡ field width x) where
  pub field_more : i < width → take (i + 1) (set bytes i (rest % 256)) ++ field (width - (i + 1)) (rest / 256) ≡ field width x
  field_more h =
      let next : field (width - i) rest ≡ rest % 256 ∷ field (width - (i + 1)) (rest / 256) = field_next (width - i) rest (omega arith) ∙ ap (λ n. rest % 256 ∷ field n (rest / 256)) (omega arith) in
      ap (λ l. l ++ field (width - (i + 1)) (rest / 256)) (take_stored bytes i (rest % 256) (omega arith))
      ∙ append_assoc (take i bytes) (rest % 256 ∷ []) (field (width - (i + 1)) (rest / 256))
      ∙ ap (λ l. take i bytes ++ l) (sym next)
      ∙ so_far

  pub field_whole : width ≤ i → bytes ≡ field width x
  field_whole h =
      sym (ap₂ ◌++◌ (take_all i bytes (omega arith)) (field_none (width - i) rest (omega arith)) ∙ append-nil bytes) ∙ so_far

pub fields_length : (width : ℕ) (xs : List ℕ) → length (fields width xs) ≡ width * length xs
unfolding fields flat
fields_length width [] = omega arith
fields_length width (x ∷ xs) =
    length-append (field width x) (fields width xs) ∙ omega (arith, field_length width x, fields_length width xs)

pub fields_none : (width : ℕ) → fields width [] ≡ []
unfolding fields flat
fields_none width = refl

pub fields_next : (width x : ℕ) (xs : List ℕ) → fields width (x ∷ xs) ≡ field width x ++ fields width xs
unfolding fields flat
fields_next width x xs = refl
