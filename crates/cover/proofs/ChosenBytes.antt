-- The bytes of chosen trees, as they are written: the counts, the starts, the tree numbers and the edges, one behind the other.
-- Assumes nothing.
use Prim.Native.Nat.{ℕ, suc, ◌+◌, ◌*◌, ◌^◌, ◌≤◌, ◌<◌}
use mathlib.Core.Path.{◌≡◌, refl, sym, ap, ap₂, subst, ◌∙◌}
use mathlib.Core.List.Memᴰ
use mathlib.Core.List.{List, [], ◌∷◌, ◌++◌, map}
use native.Mathlib.Omega.{arith}
use lib.ListN.{length, get_or, replicate, length-append, length-replicate, length-map}
use Rattle.lists.specs.Lists.{flat, sum_of}
use Rattle.lists.specs.Put.{PutTo}
use Rattle.lists.specs.Segments.{segment}
use Rattle.lists.proofs.EachPlace.{made_from}
use Rattle.lists.proofs.Places.{at_place}
use Rattle.lists.proofs.Put.{put_length, put_behind}
use Rattle.lists.proofs.SegmentSizes.{segment_length}
use Rattle.graph.specs.Bytes.{Reads}
use Rattle.rules.specs.Cover.{Tree}
use Rattle.rules.specs.CoverBytes.{u16_bytes, u16_list, entry_trees, entry_edges, encode}
use Rattle.rules.specs.Held.{tree_at, trees_at}
use Rattle.rules.proofs.Fields.{field_length, fields_length}
use Rattle.cover_laws.proofs.Writing.{length_encode}
use Rattle.cover.specs.Chosen.{starts_at, edges_at, size_at, entry_count, tree_numbers, IsHeld, Readable, EdgesOf, AllHeld, Writable, EdgesWritable}

-- The number of a tree that is held, where it is read, and its edges, where they are read by that.
pub held_readable : {bounds edges : List ℕ} {c r : ℕ} → IsHeld bounds edges c → Reads c (2 ^ 16) r → Readable bounds edges r
held_readable {bounds} {edges} held read = record { held = subst (λ c. IsHeld bounds edges c) (sym read.is) held; small = omega (arith, read.small) }

pub held_edges : {bounds edges taken : List ℕ} {c n r : ℕ} → Reads c n r → EdgesOf bounds edges r taken → taken ≡ segment bounds edges c
held_edges {bounds} {edges} read of = of.is ∙ ap (segment bounds edges) read.is

-- The number of a chosen tree.
pub chosen_readable : {bounds edges : List ℕ} (chosen : List ℕ) (j : ℕ) → AllHeld bounds edges chosen → j < length chosen
    → get_or chosen j 0 < 2 ^ 16 → Readable bounds edges (get_or chosen j 0)
chosen_readable chosen j held h small = record { held = held (get_or chosen j 0) (at_place 0 chosen j h); small = omega arith }

-- The tree numbers, tree by tree, and how many there are.
module _ (bounds : List ℕ) where
  pub numbers_made : (j : ℕ) (cs : List ℕ) → made_from (λ k c. replicate (size_at bounds c) k) j cs ≡ tree_numbers j bounds cs
  unfolding made_from tree_numbers
  numbers_made j [] = refl
  numbers_made j (c ∷ cs) = ap (λ l. replicate (size_at bounds c) j ++ l) (numbers_made (suc j) cs)

  pub numbers_length : (j : ℕ) (cs : List ℕ) → length (tree_numbers j bounds cs) ≡ entry_count bounds cs
  unfolding tree_numbers entry_count sum_of
  numbers_length j [] = refl
  numbers_length j (c ∷ cs) =
      omega (arith, numbers_length (suc j) cs, length-append (replicate (size_at bounds c) j) (tree_numbers (suc j) bounds cs), length-replicate (size_at bounds c) j)

module _ (starts bounds edges : List ℕ) where
  -- There are as many trees as were chosen, they start where the array says, and their edges are their segments.
  pub chosen_trees : (chosen : List ℕ) → length (trees_at starts bounds edges chosen) ≡ length chosen
  unfolding trees_at
  chosen_trees chosen = length-map chosen (tree_at starts bounds edges)

  pub chosen_starts : (chosen : List ℕ) → map (λ (t : Tree). t.start) (trees_at starts bounds edges chosen) ≡ starts_at starts chosen
  unfolding trees_at tree_at
  chosen_starts [] = refl
  chosen_starts (c ∷ cs) = ap (λ l. get_or starts c 0 ∷ l) (chosen_starts cs)

  pub chosen_edges : (chosen : List ℕ) → entry_edges (trees_at starts bounds edges chosen) ≡ edges_at bounds edges chosen
  unfolding trees_at tree_at entry_edges flat
  chosen_edges [] = refl
  chosen_edges (c ∷ cs) = ap (λ l. segment bounds edges c ++ l) (chosen_edges cs)

  -- Their tree numbers are those that the bounds give.
  pub chosen_numbers : (j : ℕ) (chosen : List ℕ) → AllHeld bounds edges chosen → entry_trees j (trees_at starts bounds edges chosen) ≡ tree_numbers j bounds chosen
  unfolding trees_at tree_at entry_trees tree_numbers
  chosen_numbers j [] h = refl
  chosen_numbers j (c ∷ cs) h =
      ap₂ (λ n l. replicate n j ++ l) (segment_length bounds edges c (h c (Memᴰ.head refl)).inside)
      (chosen_numbers (suc j) cs (λ d m. h d (Memᴰ.tail m)))

-- The chosen trees have so many entries.
pub edges_length : (bounds edges chosen : List ℕ) → AllHeld bounds edges chosen → length (edges_at bounds edges chosen) ≡ entry_count bounds chosen
unfolding flat entry_count sum_of
edges_length bounds edges [] h = refl
edges_length bounds edges (c ∷ cs) h =
    omega (
      arith,
      length-append (segment bounds edges c) (flat (map (segment bounds edges) cs)),
      segment_length bounds edges c (h c (Memᴰ.head refl)).inside,
      edges_length bounds edges cs (λ d m. h d (Memᴰ.tail m)),
    )

-- The bytes, part by part.
pub chosen_bytes : (starts bounds edges chosen : List ℕ) → AllHeld bounds edges chosen
    → encode (trees_at starts bounds edges chosen)
    ≡ u16_bytes (length chosen) ++ (u16_bytes (entry_count bounds chosen) ++ (u16_list (starts_at starts chosen)
    ++ (u16_list (tree_numbers 0 bounds chosen) ++ u16_list (edges_at bounds edges chosen))))
unfolding encode
chosen_bytes starts bounds edges chosen h =
    rw (
      chosen_trees starts bounds edges chosen,
      chosen_edges starts bounds edges chosen,
      chosen_starts starts bounds edges chosen,
      chosen_numbers starts bounds edges 0 chosen h,
      edges_length bounds edges chosen h,
    )

-- How many bytes they are.
pub chosen_length : (starts bounds edges chosen : List ℕ) → AllHeld bounds edges chosen
    → length (encode (trees_at starts bounds edges chosen)) ≡ 4 + 2 * length chosen + 4 * entry_count bounds chosen
chosen_length starts bounds edges chosen h =
    omega (
      arith,
      length_encode (trees_at starts bounds edges chosen),
      chosen_trees starts bounds edges chosen,
      ap length (chosen_edges starts bounds edges chosen),
      edges_length bounds edges chosen h,
    )

-- There is room for so many bytes where the trees may be written.
module _ {starts bounds edges chosen : List ℕ} {room : ℕ} where
  pub room_for_all : Writable starts bounds edges chosen room → 4 + 2 * length chosen + 4 * entry_count bounds chosen ≤ room
  room_for_all h = omega (arith, chosen_length starts bounds edges chosen h.held, h.fits)

-- The parts are written one behind the other: there is room for each, and together they are the bytes.
module _ {starts bounds edges chosen b₀ : List ℕ} (h : Writable starts bounds edges chosen (length b₀)) where
  module _ {b₁ : List ℕ} {n₁ : ℕ} (w₁ : PutTo 0 (u16_bytes (length chosen)) b₀ b₁ n₁) where
    first_put : (n₁ ≡ 2) × (length b₁ ≡ length b₀)
    first_put = omega (arith, w₁.behind, field_length (length chosen), put_length w₁.put)

    pub room_for_count : n₁ + 2 ≤ length b₁
    room_for_count = omega (arith, first_put, room_for_all h)

    module _ {b₂ : List ℕ} {n₂ : ℕ} (w₂ : PutTo n₁ (u16_bytes (entry_count bounds chosen)) b₁ b₂ n₂) where
      counts_put : (n₂ ≡ 4) × (length b₂ ≡ length b₀)
      counts_put = omega (arith, w₂.behind, field_length (entry_count bounds chosen), put_length w₂.put, first_put)

      pub room_for_starts : n₂ + 2 * length chosen ≤ length b₂
      room_for_starts = omega (arith, counts_put, room_for_all h)

      module _ {b₃ : List ℕ} {n₃ : ℕ} (w₃ : PutTo n₂ (u16_list (starts_at starts chosen)) b₂ b₃ n₃) where
        starts_put : (n₃ ≡ 4 + 2 * length chosen) × (length b₃ ≡ length b₀)
        starts_put =
            omega (arith, w₃.behind, fields_length (starts_at starts chosen), length-map chosen (λ c. get_or starts c 0), put_length w₃.put, counts_put)

        pub room_for_numbers : n₃ + 2 * entry_count bounds chosen ≤ length b₃
        room_for_numbers = omega (arith, starts_put, room_for_all h)

        module _ {b₄ : List ℕ} {n₄ : ℕ} (w₄ : PutTo n₃ (u16_list (tree_numbers 0 bounds chosen)) b₃ b₄ n₄) where
          pub room_for_edges : EdgesWritable bounds edges chosen n₄ (length b₄)
          room_for_edges =
              record {
                held = h.held;
                fits =
                    omega (
                      arith,
                      w₄.behind,
                      fields_length (tree_numbers 0 bounds chosen),
                      numbers_length bounds 0 chosen,
                      put_length w₄.put,
                      starts_put,
                      room_for_all h,
                    );
              }

          pub all_written : {b₅ : List ℕ} {n₅ : ℕ} → PutTo n₄ (u16_list (edges_at bounds edges chosen)) b₄ b₅ n₅
              → PutTo 0 (encode (trees_at starts bounds edges chosen)) b₀ b₅ n₅
          all_written w₅ = rw (chosen_bytes starts bounds edges chosen h.held) (put_behind w₁ (put_behind w₂ (put_behind w₃ (put_behind w₄ w₅))))
