-- The bytes of trees are their fields, one after the other; reading them gives the trees again.
-- Assumes nothing.
use Prim.Native.Nat.{ℕ, suc, ◌+◌, ◌*◌, ◌<◌}
use mathlib.Core.Path.{◌≡◌, refl, sym, ap, ◌∙◌}
use mathlib.Core.List.Memᴰ
use mathlib.Core.List.{List, [], ◌∷◌, ◌++◌, map}
use mathlib.Core.Logic.{◌⊎◌, inl, inr}
use native.Mathlib.Omega.{arith}
use lib.ListN.{length, get_or, length-append, length-map, get_or-append, get_or-map}
use lib.Seq.{get_or-append-add}
use Rattle.lists.specs.Lists.{flat}
use Rattle.lists.specs.Member.{◌∈◌}
use Rattle.lists.proofs.Member.{of_map}
use Rattle.lists.proofs.Runs.{map_below}
use Rattle.graph.specs.Bytes.{u16_at}
use Rattle.rules.specs.Cover.{Tree}
use Rattle.rules.specs.CoverBytes.{u16_bytes, u16_list, entry_edges, encode, trees_in, entries_in, start_in, entry_tree, entry_edge, decode}
use Rattle.rules.proofs.Fields.{Small, fields_append, fields_length, read_written}
use Rattle.cover_laws.proofs.Entries.{Entry, entries_of, edges_of, of_entries, edges_again, entries_trees, entries_edges}
use Rattle.cover_laws.proofs.RisingEntries.{grouped}
use Rattle.cover_laws.proofs.Reading.{entry_in, entries_read, decode_grouped}

-- All numbers of the trees fit fields of two bytes.
pub record Fits (ts : List Tree) : Type 0 where
  pub trees : length ts < 65536
  pub entries : length (entry_edges ts) < 65536
  pub starts : (t : Tree) → t ∈ ts → t.start < 65536
  pub edges : (t : Tree) → t ∈ ts → (e : ℕ) → e ∈ t.edges → e < 65536

-- The starts of trees, and the trees and the edges that entries name.
abbrev pub starts_of : List Tree → List ℕ
starts_of ts = map (λ (t : Tree). t.start) ts

abbrev pub trees_named : List Entry → List ℕ
trees_named es = map (λ (x : Entry). x.tree) es

abbrev pub edges_named : List Entry → List ℕ
edges_named es = map (λ (x : Entry). x.edge) es

-- The fields behind the two counts: the starts, the entries' tree numbers and the entries' edge numbers.
unfoldable pub arrays : List ℕ → List Entry → List ℕ
arrays starts es = starts ++ (trees_named es ++ edges_named es)

-- The fields of trees.
unfoldable pub fields : List Tree → List ℕ
fields ts = length ts ∷ length (entries_of 0 ts) ∷ arrays (starts_of ts) (entries_of 0 ts)

-- There are as many entries as edges in all trees.
pub length_entries : (ts : List Tree) → length (entries_of 0 ts) ≡ length (entry_edges ts)
length_entries ts = sym (length-map (entries_of 0 ts) (λ (x : Entry). x.edge)) ∙ ap length (entries_edges 0 ts)

two_fields : (x y : ℕ) (l : List ℕ) → u16_list (x ∷ y ∷ l) ≡ u16_bytes x ++ (u16_bytes y ++ u16_list l)
unfolding u16_list u16_bytes flat
two_fields x y l = refl

-- The bytes of trees are those of their fields.
pub encode_fields : (ts : List Tree) → encode ts ≡ u16_list (fields ts)
unfolding encode fields arrays
encode_fields ts = rw (two_fields, fields_append, fields_append, entries_trees, entries_edges, length_entries)

-- The bytes of trees have the length that they say.
pub length_encode : (ts : List Tree) → length (encode ts) ≡ 4 + 2 * length ts + 4 * length (entry_edges ts)
unfolding fields arrays
length_encode ts = rw (encode_fields, fields_length) (simp (length-append, length-map, length_entries) (omega arith))

-- The fields fit, where the trees do.
fields_small : (ts : List Tree) → Fits ts → Small (fields ts)
unfolding fields arrays
fields_small ts f x (Memᴰ.head e) = omega (arith, f.trees)
fields_small ts f x (Memᴰ.tail (Memᴰ.head e)) = omega (arith, f.entries, length_entries ts)
fields_small ts f x (Memᴰ.tail (Memᴰ.tail m)) = start (Memᴰ.append_cases (starts_of ts) m)
  where
    es : List Entry
    es = entries_of 0 ts

    entry : (x ∈ trees_named es) ⊎ (x ∈ edges_named es) → x < 65536
    entry (inl n) = let r = of_map (λ (y : Entry). y.tree) es n in omega (arith, r.2, (of_entries 0 ts r.1).1, f.trees)
    entry (inr n) = let r = of_map (λ (y : Entry). y.edge) es n in let q = (of_entries 0 ts r.1).2 in omega (arith, r.2, f.edges q.0 q.1 r.0.edge q.2)

    start : (x ∈ starts_of ts) ⊎ (x ∈ (trees_named es ++ edges_named es)) → x < 65536
    start (inl n) = let r = of_map (λ (t : Tree). t.start) ts n in omega (arith, r.2, f.starts r.0 r.1)
    start (inr n) = entry (Memᴰ.append_cases (trees_named es) n)

-- What is read past the last tree and the last entry.
abbrev pub no_tree : Tree
no_tree = record { start = 0; edges = [] }

abbrev pub no_entry : Entry
no_entry = record { tree = 0; edge = 0 }

module _ (ts : List Tree) (f : Fits ts) where
  -- A field of the bytes of trees, by its number.
  field_at : (i p : ℕ) → p ≡ 2 * i → u16_at (encode ts) p ≡ get_or (fields ts) i 0
  field_at i p e = rw (encode_fields, e) (read_written (fields ts) (fields_small ts f) i)

  -- The bytes say how many trees and how many entries there are.
  pub trees_again : trees_in (encode ts) ≡ length ts
  unfolding fields
  trees_again = field_at 0 0 refl

  pub count_again : entries_in (encode ts) ≡ length (entries_of 0 ts)
  unfolding fields
  count_again = field_at 1 2 refl

  -- The start of a tree, and the tree and the edge of an entry, are read again.
  pub start_again : (j : ℕ) → j < length ts → start_in (encode ts) j ≡ (get_or ts j no_tree).start
  unfolding fields arrays
  start_again j h =
      field_at (suc (suc j)) (4 + 2 * j) (omega arith)
      ∙ (get_or-append (starts_of ts) _ 0 j (omega (arith, length-map ts (λ (t : Tree). t.start)))
      ∙ get_or-map (λ (t : Tree). t.start) ts j no_tree)

  pub tree_again : (i : ℕ) → i < length (entries_of 0 ts) → entry_tree (encode ts) i ≡ (get_or (entries_of 0 ts) i no_entry).tree
  unfolding fields arrays
  tree_again i h =
      field_at (suc (suc (length (starts_of ts) + i))) _ (omega (arith, length-map ts (λ (t : Tree). t.start), trees_again))
      ∙ (get_or-append-add (starts_of ts) (trees_named (entries_of 0 ts) ++ edges_named (entries_of 0 ts)) i 0
      ∙ (get_or-append (trees_named (entries_of 0 ts)) (edges_named (entries_of 0 ts)) 0 i (omega (arith, length-map (entries_of 0 ts) (λ (x : Entry). x.tree)))
      ∙ get_or-map (λ (x : Entry). x.tree) (entries_of 0 ts) i no_entry))

  pub edge_again : (i : ℕ) → i < length (entries_of 0 ts) → entry_edge (encode ts) i ≡ (get_or (entries_of 0 ts) i no_entry).edge
  unfolding fields arrays
  edge_again i h =
      field_at (suc (suc (length (starts_of ts) + (length (trees_named (entries_of 0 ts)) + i)))) _
      (omega (arith, length-map ts (λ (t : Tree). t.start), length-map (entries_of 0 ts) (λ (x : Entry). x.tree), trees_again, count_again))
      ∙ (get_or-append-add (starts_of ts) (trees_named (entries_of 0 ts) ++ edges_named (entries_of 0 ts)) (length (trees_named (entries_of 0 ts)) + i) 0
      ∙ (get_or-append-add (trees_named (entries_of 0 ts)) (edges_named (entries_of 0 ts)) i 0
      ∙ get_or-map (λ (x : Entry). x.edge) (entries_of 0 ts) i no_entry))

  -- The entries are read again.
  pub entries_read_again : entries_read (encode ts) ≡ entries_of 0 ts
  unfolding entries_read entry_in
  entries_read_again = rw count_again (map_below (entry_in (encode ts)) no_entry (entries_of 0 ts) (λ i h. λ k. record { tree = tree_again i h k; edge = edge_again i h k }))

  -- Trees whose numbers fit, written and read, are the same trees.
  pub decode_encode : decode (encode ts) ≡ ts
  unfolding grouped
  decode_encode = rw (decode_grouped, trees_again, entries_read_again) (map_below (grouped (start_in (encode ts)) (entries_of 0 ts)) no_tree ts same)
    where
      from_zero : (j : ℕ) → j < length ts → edges_of j (entries_of 0 ts) ≡ (get_or ts j no_tree).edges
      from_zero j h = let e : j ≡ 0 + j = omega arith in ap (λ i. edges_of i (entries_of 0 ts)) e ∙ edges_again no_tree ts 0 j h

      same : (j : ℕ) → j < length ts → grouped (start_in (encode ts)) (entries_of 0 ts) j ≡ get_or ts j no_tree
      same j h = λ k. record { start = start_again j h k; edges = from_zero j h k }
