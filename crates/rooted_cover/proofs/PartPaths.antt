-- Each part has a path, with which the tree of its root was made: it leads back from one of the part's nearest vertices.
-- Assumes nothing.
use Prim.Native.Nat.{ℕ, ◌<◌}
use mathlib.Core.Path.{◌≡◌, refl, ap, ◌∙◌}
use mathlib.Core.Bool.{true}
use mathlib.Core.List.{List, [], ◌++◌}
use native.Mathlib.Omega.{arith}
use lib.ListN.{length, get_or, take}
use lib.Seq.{get_or-take}
use Rattle.lists.specs.Segments.{segment}
use Rattle.lists.proofs.EachChosen.{each_chosen}
use Rattle.graph.specs.Graph.{Graph}
use Rattle.rules.specs.RootedTrial.{union_tree}
use Rattle.rules.proofs.Linked.{turned}
use Rattle.distance.specs.Trail.{trail_of}
use Rattle.distance_table.specs.Nearest.{Nearest}
use Rattle.distance_table.specs.Tabled.{row_of}
use Rattle.rooted_state.specs.Placed.{TrialArrays, PartsPlaced}
use Rattle.rooted_state.proofs.PlacedPieces.{piece_at, places_many}
use Rattle.rooted_cover.specs.Tree.{AssignedAre, none, part}
use Rattle.rooted_cover.specs.CoverTrees.{RootTree, parts_of}
use Rattle.rooted_cover.proofs.AssignedPart.{byte_is_root, bytes_apart}

-- The path of part i, and the tree of its root: the path leads back from a nearest vertex of the part, and the tree is made with it.
pub record PathFor (g : Graph) (distances lasts roots : List ℕ) (a : TrialArrays) (tree : ℕ → List ℕ) (i : ℕ) (path : List ℕ) : Type 0 where
  pub vertex : ℕ
  pub nearest : Nearest g (row_of g.vertices distances (get_or a.assignment i 0)) (piece_at a.pieces i) vertex
  pub path_is : path ≡ turned (trail_of (row_of g.vertices lasts (get_or a.assignment i 0)) (get_or roots (get_or a.assignment i 0) 0) vertex)
  pub tree_is : tree (get_or a.assignment i 0)
      ≡ (union_tree g (get_or roots (get_or a.assignment i 0) 0)
      ((segment a.pieces.cuts a.pieces.members (get_or a.pieces.places i 0) ++ trail_of (row_of g.vertices lasts (get_or a.assignment i 0)) (get_or roots (get_or a.assignment i 0) 0) vertex)
      ++ segment a.pieces.cuts a.pieces.members (get_or a.pieces.lefts (get_or a.assignment i 0) 0))).edges

module _ {g : Graph} {roots : List ℕ} {limit : ℕ} {a : TrialArrays} {parts : ℕ} (p : PartsPlaced g roots limit a parts true) {distances lasts : List ℕ} {tree : ℕ → List ℕ}
    (trees : (j : ℕ) → j < length roots → RootTree g distances lasts roots (parts_of parts a.pieces) a.assignment j (tree j)) where
  -- Each part has its path.
  path_for : (i : ℕ) → i < parts → (path : List ℕ) × PathFor g distances lasts roots a tree i path
  path_for i h = go (trees j (byte_is_root p i h)).assigned
    where
      j : ℕ
      j = get_or a.assignment i 0

      go : AssignedAre g (row_of g.vertices distances j) (row_of g.vertices lasts j) (get_or roots j 0) a.pieces.starts a.pieces.cuts a.pieces.members (take parts a.pieces.places) a.assignment j (trees j (byte_is_root p i h)).edges
          → (path : List ℕ) × PathFor g distances lasts roots a tree i path
      go (none nobody q) = absurd (nobody i (omega (arith, places_many p.pieces)) refl)
      go (part k v l f n q) =
          let in_parts : k < parts = omega (arith, places_many p.pieces) in
          let same : k ≡ i = bytes_apart p k i in_parts h (f.here l) in
          let place : get_or (take parts a.pieces.places) k 0 ≡ get_or a.pieces.places i 0 = get_or-take parts a.pieces.places k 0 in_parts ∙ ap (λ x. get_or a.pieces.places x 0) same in (
            turned (trail_of (row_of g.vertices lasts j) (get_or roots j 0) v),
            record {
              vertex = v;
              nearest = rw place at n;
              path_is = refl;
              tree_is =
                  (trees j (byte_is_root p i h)).is
                  ∙ ap (λ x. (union_tree g (get_or roots j 0) (x ++ segment a.pieces.cuts a.pieces.members (get_or a.pieces.lefts j 0))).edges)
                  (q ∙ ap (λ c. segment a.pieces.cuts a.pieces.members c ++ trail_of (row_of g.vertices lasts j) (get_or roots j 0) v) place);
            },
          )

  pub paths_for : (paths : List (List ℕ)) × ((i : ℕ) → i < parts → PathFor g distances lasts roots a tree i (get_or paths i []))
  paths_for = each_chosen [] (PathFor g distances lasts roots a tree) parts path_for
