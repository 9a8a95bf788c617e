-- Bytes of the length that they say, whose entries rise and name trees that there are: read and written again, they are the same bytes.
-- Assumes nothing.
use Prim.Native.Nat.{ℕ, suc, ◌+◌, ◌*◌, ◌/◌, ◌%◌, ◌<◌}
use mathlib.Core.Path.{◌≡◌, sym, ap, ◌∙◌}
use mathlib.Core.List.{List, ◌∷◌, ◌++◌, map}
use native.Mathlib.Omega.{arith}
use lib.ListN.{length, take, drop}
use lib.Seq.{take-add, drop-drop, take_all}
use Rattle.lists.specs.Count.{below}
use Rattle.lists.specs.Member.{◌∈◌}
use Rattle.rules.specs.CoverBytes.{u16_list, encode, trees_in, entries_in, start_in, entry_tree, entry_edge, cover_length, decode}
use Rattle.rules.proofs.Fields.{Bytes, fields_cons, fields_append, field_back, written_read}
use Rattle.cover_laws.proofs.Entries.{Entry, entries_of}
use Rattle.cover_laws.proofs.RisingEntries.{Rises, entries_again}
use Rattle.cover_laws.proofs.Reading.{entries_read, decode_grouped, length_decode, length_entries_read, starts_read, trees_read, edges_read}
use Rattle.cover_laws.proofs.Writing.{fields, arrays, encode_fields}

-- Two pieces of the bytes, one after the other, are one piece.
pieces : (b : List ℕ) (p n m : ℕ) → take n (drop p b) ++ take m (drop (p + n) b) ≡ take (n + m) (drop p b)
pieces b p n m = sym (take-add n m (drop p b) ∙ ap (λ l. take n (drop p b) ++ take m l) (drop-drop n p b))

-- The entries of the bytes rise, and name trees that there are.
pub record Ordered (b : List ℕ) : Type 0 where
  pub rises : Rises (entries_read b)
  pub trees : (x : Entry) → x ∈ entries_read b → x.tree < trees_in b

-- The bytes are well laid out: of the length that they say, with such entries.
pub record LaidOut (b : List ℕ) : Type 0 where
  pub bytes : Bytes b
  pub sized : length b ≡ cover_length b
  pub ordered : Ordered b

module _ (b : List ℕ) (o : LaidOut b) where
  -- The entries of the trees that are read are the entries that are read.
  pub entries_kept : entries_of 0 (decode b) ≡ entries_read b
  unfolding below
  entries_kept = rw decode_grouped (entries_again (start_in b) 0 (trees_in b) o.ordered.rises (λ x m. omega arith) (λ x m. omega (arith, o.ordered.trees x m)))

  -- The fields of the trees that are read, in the order of the bytes.
  fields_kept : fields (decode b)
      ≡ trees_in b ∷ entries_in b ∷ (map (start_in b) (below (trees_in b)) ++ (map (entry_tree b) (below (entries_in b)) ++ map (entry_edge b) (below (entries_in b))))
  unfolding fields arrays
  fields_kept = rw (entries_kept, length_decode, length_entries_read, starts_read, trees_read, edges_read)

  starts_back : u16_list (map (start_in b) (below (trees_in b))) ≡ take (2 * trees_in b) (drop 4 b)
  starts_back = written_read b 4 (trees_in b) o.bytes (omega (arith, o.sized))

  trees_back : u16_list (map (entry_tree b) (below (entries_in b))) ≡ take (2 * entries_in b) (drop (4 + 2 * trees_in b) b)
  trees_back = written_read b (4 + 2 * trees_in b) (entries_in b) o.bytes (omega (arith, o.sized))

  edges_back : u16_list (map (entry_edge b) (below (entries_in b))) ≡ take (2 * entries_in b) (drop (4 + 2 * trees_in b + 2 * entries_in b) b)
  edges_back = written_read b (4 + 2 * trees_in b + 2 * entries_in b) (entries_in b) o.bytes (omega (arith, o.sized))

  -- Read and written again, the bytes are the same.
  pub encode_decode : encode (decode b) ≡ b
  encode_decode =
      let q = 2 * trees_in b + (2 * entries_in b + 2 * entries_in b) in
      let whole : take (suc (suc (suc (suc q)))) b ≡ b = take_all (suc (suc (suc (suc q)))) b (omega (arith, o.sized)) in
      rw (encode_fields, fields_kept, fields_cons, fields_cons, fields_append, fields_append, starts_back, trees_back, edges_back)
      (rw (pieces b (4 + 2 * trees_in b) (2 * entries_in b) (2 * entries_in b), pieces b 4 (2 * trees_in b) (2 * entries_in b + 2 * entries_in b))
      (ap (λ l. trees_in b % 256 ∷ trees_in b / 256 % 256 ∷ l) (field_back b 2 q o.bytes (omega (arith, o.sized)))
      ∙ (field_back b 0 (suc (suc q)) o.bytes (omega (arith, o.sized)) ∙ whole)))
