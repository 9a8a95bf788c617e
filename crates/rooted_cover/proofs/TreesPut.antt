-- A root's tree, made with its rows of the distances and the last edges, and put behind the trees before it.
-- Assumes nothing.
use Prim.Native.Nat.{ℕ, ◌+◌, ◌*◌, ◌-◌, ◌≤◌, ◌<◌}
use mathlib.Core.Path.{◌≡◌, refl, ap, ◌∙◌}
use mathlib.Core.List.{List, [], ◌++◌, append-nil}
use native.Mathlib.Omega.{arith}
use lib.ListN.{length, get_or, take, drop, length-drop, length-take, drop_of_length-le}
use lib.Seq.{take_all, drop-drop}
use Rattle.lists.specs.Put.{PutTo}
use Rattle.lists.proofs.Put.{put_count, put_front}
use Rattle.graph.specs.Graph.{Graph}
use Rattle.distance_table.specs.Tabled.{row_of}
use Rattle.rooted_state.specs.Placed.{PieceArrays}
use Rattle.rooted_cover.specs.Tree.{RootGiven, RootWritten}
use Rattle.rooted_cover.specs.CoverTrees.{RootTreesGiven, TreePut}
use Rattle.distance_table.proofs.RowPlaces.{row_room}

-- What is put at the front of an array's rest is put behind what stands before it.
put_in_rest : {at size r : ℕ} {xs a rest : List ℕ} → size ≡ length a - at → at ≤ length a → PutTo 0 xs (take size (drop at a)) rest r
    → PutTo at xs a (take at a ++ (rest ++ drop size (drop at a))) (at + r)
put_in_rest {at} {size} {r} {xs} {a} {rest} q h p =
    let long = length-drop at a in
    let whole : take size (drop at a) ≡ drop at a = take_all size (drop at a) (omega arith) in
    let none : drop size (drop at a) ≡ [] = drop_of_length-le (drop at a) {i = size} (omega arith) in
    let count = put_count p in
    let place : at + r ≡ at + length xs = omega arith in
    let front : rest ≡ xs ++ drop (at + length xs) a =
    put_front p ∙ ap (λ l. xs ++ drop r l) whole ∙ ap (λ l. xs ++ l) (drop-drop r at a ∙ ap (λ n. drop n a) place) in
    record {
      put = record { room = omega (arith, p.put.room, length-take size (drop at a)); is = rw (none, front) (ap (λ l. take at a ++ l) (append-nil _)) };
      behind = place;
    }

module _ (rows : List ℕ) (j n : ℕ) where
  -- The row of root j, by the places where it begins and ends.
  abbrev pub row_there : List ℕ
  row_there = take (j * n + n - j * n) (drop (j * n) rows)

  row_is : {m : ℕ} → n ≡ m → row_there ≡ row_of m rows j
  row_is q = let count : j * n + n - j * n ≡ n = omega arith in ap (λ x. take x (drop (j * n) rows)) count ∙ ap (λ x. row_of x rows j) q

-- The row of root j, of k roots, lies in the array.
pub row_fits : (j k n m size : ℕ) → n ≡ m → j < k → k * m ≤ size → j * n + n ≤ size
row_fits j k n m size q h room = rw q (row_room j k m size h room)

module _ {distances lasts roots : List ℕ} {a : PieceArrays} {assignment : List ℕ} {j n root left : ℕ} where
  -- What the tree asks, by the values read.
  pub tree_asked : {g : Graph} {order : List ℕ} → RootTreesGiven g order distances lasts roots a assignment → j < length roots → n ≡ g.vertices → root ≡ get_or roots j 0
      → left ≡ get_or a.lefts j 0 → (room : List ℕ) → g.vertices ≤ length room
      → RootGiven g order (row_there distances j n) (row_there lasts j n) root a.starts a.cuts a.members left a.places assignment j room
  tree_asked given h count is_root is_left room l = rw (row_is distances j n count, row_is lasts j n count, is_root, is_left) (given.each j h room l)

  -- What it is, and where it stands.
  pub tree_put : {g : Graph} → n ≡ g.vertices → root ≡ get_or roots j 0 → left ≡ get_or a.lefts j 0 → {at size r : ℕ} {edges rest : List ℕ} → size ≡ length edges - at
      → at ≤ length edges
      → RootWritten g (row_there distances j n) (row_there lasts j n) root a.starts a.cuts a.members left a.places assignment j (take size (drop at edges)) rest r
      → TreePut g distances lasts roots a assignment j at edges (take at edges ++ (rest ++ drop size (drop at edges))) (at + r)
  tree_put count is_root is_left q h w =
      let there = rw (row_is distances j n count, row_is lasts j n count, is_root, is_left) at w in
      record {
        tree = _;
        is_tree = record { edges = there.edges; assigned = there.assigned; is = refl };
        put = put_in_rest q h there.written;
        fewer = omega (arith, there.fewer);
      }
