-- A cover read from the buffer that it was written to: its bytes are the buffer's first, and there is room for the lines of its trees.
-- Assumes nothing.
use Prim.Native.Nat.{ℕ, zero, suc, ◌+◌, ◌*◌, ◌≤◌, ◌<◌}
use mathlib.Core.Path.{◌≡◌, refl, sym, ap, ◌∙◌}
use mathlib.Core.Bool.{true}
use mathlib.Core.List.{List, [], ◌∷◌, ◌++◌}
use native.Mathlib.Omega.{arith}
use lib.ListN.{length, take, length-append, get_or-append}
use lib.Seq.{take_at}
use Rattle.lists.specs.Lists.{flat}
use Rattle.lists.specs.Member.{◌∈◌}
use Rattle.lists.proofs.Bounds.{sum_most}
use Rattle.lists.proofs.SumsAlike.{length_flat_map}
use Rattle.graph.specs.Graph.{Graph, edge_count, weight_of}
use Rattle.graph.specs.Bytes.{u16_at}
use Rattle.graph.specs.Valid.{Valid}
use Rattle.rules.specs.Walk.{total_weight}
use Rattle.rules.specs.Cover.{Tree, IsTree, tree_weight}
use Rattle.rules.specs.CoverBytes.{u16_bytes, u16_list, cover_length, encode, decode}
use Rattle.rules.specs.CheckCover.{entries_right}
use Rattle.rules.proofs.Fields.{Bytes}
use Rattle.cover_laws.proofs.Writing.{encode_fields, fields, length_encode}
use Rattle.cover_laws.proofs.CoverSize.{tree_edges_few, cover_few}
use Rattle.cover_laws.proofs.PassedTests.{Passed, quiet_passed}
use Rattle.cover_laws.proofs.CheckedCovers.{cover_read, checked_covers}
use Rattle.reply_text.specs.Lines.{bytes_of, spaced, all_spaced}
use Rattle.reply_text.specs.Text.{tree_line, tree_lines}
use Rattle.reply_text.specs.Replies.{CoverOf}
use Rattle.reply_text.proofs.Digits.{digits_few}
use Rattle.reply_text.proofs.TreeLines.{from_weight, from_edges, tree_parts}
use Rattle.reply_text.proofs.TextLengths.{spaced_few}

-- Fields are written in bytes.
fields_bytes : (xs : List ℕ) → Bytes (u16_list xs)
unfolding u16_list u16_bytes flat
fields_bytes [] i h = absurd (omega arith)
fields_bytes (x ∷ xs) zero h = omega arith
fields_bytes (x ∷ xs) (suc zero) h = omega arith
fields_bytes (x ∷ xs) (suc (suc i)) h = fields_bytes xs i (omega arith)

-- A field inside a list stands where other bytes come behind the list.
field_inside : (xs rest : List ℕ) (i : ℕ) → i + 1 < length xs → u16_at (xs ++ rest) i ≡ u16_at xs i
unfolding u16_at
field_inside xs rest i h = rw (get_or-append xs rest 0 i (omega arith), get_or-append xs rest 0 (i + 1) h)

module _ (g : Graph) (valid : Valid g) (t : Tree) (is : IsTree g t) where
  -- An edge's number has at most 4 digits.
  edge_few : (e : ℕ) → e ∈ t.edges → length (spaced e) ≤ 5
  unfolding spaced
  edge_few e m = omega (arith, digits_few 3 e (omega (arith, is.edges_inside e m, valid.edges_most)))

  edges_few : length (all_spaced t.edges) ≤ length t.edges * 5
  unfolding all_spaced
  edges_few = omega (arith, length_flat_map spaced t.edges, sum_most (λ e. length (spaced e)) 5 t.edges edge_few)

  weight_few : tree_weight g t ≤ length t.edges * 1000000
  unfolding tree_weight total_weight
  weight_few = sum_most (weight_of g) 1000000 t.edges (λ e m. (valid.each_edge e (is.edges_inside e m)).weight_most)

  -- A tree's line has at most 1,322 bytes: 255 edges of at most 5 with the space, two numbers of at most 21, a word of 4 and the newline.
  tree_few : length (tree_line g t) ≤ 1322
  tree_few =
      let few = tree_edges_few g valid t is in
      rw (tree_parts g t)
      (omega (
        arith,
        edges_few,
        valid.vertices_most,
        spaced_few t.start (omega (arith, is.start_inside, valid.vertices_most)),
        spaced_few (tree_weight g t) (omega (arith, weight_few, valid.vertices_most)),
        length-append (spaced t.start) (from_weight g t),
        length-append (spaced (tree_weight g t)) (from_edges g t),
        length-append (all_spaced t.edges) (bytes_of "\n"),
      ))

module _ (g : Graph) {trees : List Tree} (k : CoverOf g trees) where
  bytes : Bytes (encode trees)
  bytes = rw (encode_fields trees) (fields_bytes (fields trees))

  passed : Passed g k.crews (encode trees)
  passed = quiet_passed g k.crews (encode trees) ((checked_covers g k.valid k.crews k.few (encode trees) bytes).1 (trees, k.cover, refl))

  -- The cover's bytes are read as its trees, and their entries pass the test.
  pub trees_again : decode (encode trees) ≡ trees
  trees_again = cover_read g k.valid k.crews k.few trees k.cover

  pub entries_right_lem : entries_right (edge_count g) (encode trees) ≡ true
  entries_right_lem = passed.entries

  -- There is room for the lines of its trees.
  pub lines_room : 69 + length (tree_lines g trees) ≤ 65536
  unfolding tree_lines
  lines_room =
      omega (
        arith,
        cover_few g k.valid k.crews k.few trees k.cover,
        length_flat_map (tree_line g) trees,
        sum_most (λ t. length (tree_line g t)) 1322 trees (λ t m. tree_few g k.valid t (k.cover.all_covered.are_trees t m)),
      )

  -- Where its bytes are the first of the buffer, the buffer's counts say where they end.
  module _ (buf rest : List ℕ) (first : buf ≡ encode trees ++ rest) where
    pub cover_end : cover_length buf ≡ length (encode trees)
    cover_end =
        let four : 4 ≤ length (encode trees) = omega (arith, length_encode trees) in
        ap cover_length first
        ∙ rw (field_inside (encode trees) rest 0 (omega arith), field_inside (encode trees) rest 2 (omega arith)) (sym passed.sized)

    pub cover_front : take (cover_length buf) buf ≡ encode trees
    cover_front = ap (take (cover_length buf)) first ∙ take_at (encode trees) rest (cover_length buf) (sym cover_end)
