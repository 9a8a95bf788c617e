-- The trees made for the roots are those of the trial's cover: the assignment and the paths that they were made with are good choices
-- (document 01, step 6).
-- Assumes nothing.
use Prim.Native.Nat.{ℕ, ◌<◌}
use mathlib.Core.Path.{◌≡◌, refl, sym, ap, subst, ◌∙◌}
use mathlib.Core.Bool.{true, true≢false}
use mathlib.Core.List.Memᴰ
use mathlib.Core.List.{List, [], ◌∷◌, ◌++◌}
use mathlib.Core.Logic.{◌⊎◌, inl, inr}
use native.Mathlib.Omega.{arith}
use lib.ListN.{length, get_or, take}
use lib.Dec.{eqb}
use borrow.Author.Tests.{eqb-true, eq-eqb}
use Rattle.lists.specs.Lists.{member}
use Rattle.lists.specs.Member.{◌∈◌}
use Rattle.lists.specs.Segments.{segment}
use Rattle.lists.specs.Sort.{rise}
use Rattle.lists.proofs.Chosen.{in_chosen, of_chosen}
use Rattle.lists.proofs.Sorting.{in_rise, of_rise}
use Rattle.graph.specs.Graph.{Graph}
use Rattle.graph.specs.Valid.{Valid}
use Rattle.matching.specs.Assignment.{IsAssignment}
use Rattle.rules.specs.Cover.{Tree}
use Rattle.rules.specs.Held.{risen}
use Rattle.rules.specs.RootedTrial.{rooted_pieces, rooted_parts, part_of, may_go, Choices, GoodChoices, union_tree, assigned_edges, left_at}
use Rattle.rules.proofs.Linked.{turned, of_turned}
use Rattle.distance.specs.Trail.{trail_of}
use Rattle.distance.specs.Shortest.{unreached}
use Rattle.distance_table.specs.Tabled.{DistancesTabled, LastsTabled, row_of}
use Rattle.rooted_state.specs.Placed.{TrialArrays, PartsPlaced}
use Rattle.rooted_cover.specs.Tree.{AssignedAre, none, part}
use Rattle.rooted_cover.specs.CoverTrees.{RootTree, parts_of}
use Rattle.rooted_state.proofs.PlacedPieces.{places_many, parts_count, part_is}
use Rattle.rooted_state.proofs.NearMeansMayGo.{any_alike}
use Rattle.unions.proofs.UnionEdges.{union_same}
use Rattle.rooted_cover.proofs.AssignedPart.{given, byte, byte_is_root, bytes_apart, part_path}
use Rattle.rooted_cover.proofs.PartPaths.{PathFor}

-- A list turned round has all its elements.
in_turned : {x : ℕ} {p : List ℕ} → x ∈ p → x ∈ turned p
unfolding turned
in_turned {p = []} x3 = elim x3 [ ]
in_turned {p = e ∷ p} (Memᴰ.head q) = Memᴰ.append_right (turned p) (Memᴰ.head q)
in_turned {p = e ∷ p} (Memᴰ.tail m) = Memᴰ.append_left _ (in_turned m)

-- Unions of the same edges have the same tree.
union_alike : (g : Graph) (root : ℕ) (xs ys : List ℕ) → ((e : ℕ) → e ∈ xs → e ∈ ys) → ((e : ℕ) → e ∈ ys → e ∈ xs) → union_tree g root xs ≡ union_tree g root ys
unfolding member
union_alike g root xs ys to back = union_same g root xs ys (λ e. any_alike (eqb e) (eqb e) xs ys to back (λ x m. refl))

-- What stands in one of two joined lists stands in one of two others, where that holds of each.
either_list : (ws xs ys zs : List ℕ) → ((e : ℕ) → e ∈ ws → e ∈ ys) → ((e : ℕ) → e ∈ xs → e ∈ zs) → (e : ℕ) → e ∈ (ws ++ xs) → e ∈ (ys ++ zs)
either_list ws xs ys zs one other e m = go (Memᴰ.append_cases ws m)
  where
    go : (e ∈ ws) ⊎ (e ∈ xs) → e ∈ (ys ++ zs)
    go (inl i) = Memᴰ.append_left _ (one e i)
    go (inr i) = Memᴰ.append_right ys (other e i)

-- The assignment that was found, and the paths. No set is deficient.
abbrev pub choices_of : List ℕ → List (List ℕ) → Choices
choices_of assignment paths = record { assignment = assignment; paths = paths; marks = [] }

module _ {g : Graph} {roots : List ℕ} {limit : ℕ} {a : TrialArrays} {parts : ℕ} (p : PartsPlaced g roots limit a parts true) {distances lasts : List ℕ} {tree : ℕ → List ℕ}
    (paths : List (List ℕ)) (path_of : (i : ℕ) → i < parts → PathFor g distances lasts roots a tree i (get_or paths i [])) where
  abbrev choices : Choices
  choices = choices_of (take parts a.assignment) paths

  -- They are good choices.
  pub choices_good : Valid g → DistancesTabled g roots distances → limit < unreached → LastsTabled g roots distances lasts
      → ((j : ℕ) → j < length roots → get_or roots j 0 < g.vertices) → GoodChoices g roots limit choices
  choices_good valid tabled small last inside =
      record {
        assigned = λ t. subst (λ n. IsAssignment n (length roots) (may_go g roots limit) (take parts a.assignment)) (parts_count p.pieces) (given p);
        shortest =
            λ t i l.
            let h : i < parts = omega (arith, parts_count p.pieces) in
            let x = path_of i h in
            rw (byte p i h, x.path_is) (part_path p valid tabled small i h last x.nearest (inside (get_or a.assignment i 0) (byte_is_root p i h)));
        deficient = λ t. absurd (true≢false (p.rows.assigned_is ∙ t));
      }

  module _ (j : ℕ) (h : j < length roots) where
    abbrev left : List ℕ
    left = segment a.pieces.cuts a.pieces.members (get_or a.pieces.lefts j 0)

    abbrev own : List ℕ
    own = assigned_edges (rooted_parts g roots limit) choices j

    abbrev piece : ℕ → List ℕ
    piece i = segment a.pieces.cuts a.pieces.members (get_or a.pieces.places i 0)

    -- What is left at the root, in either order.
    to_left : (e : ℕ) → e ∈ left → e ∈ left_at (rooted_pieces g roots limit) j
    to_left e m = of_rise (left_at (rooted_pieces g roots limit) j) (rw (p.pieces.lefts_are j h) at (in_rise m))

    of_left : (e : ℕ) → e ∈ left_at (rooted_pieces g roots limit) j → e ∈ left
    of_left e m = of_rise left (rw (p.pieces.lefts_are j h) (in_rise m))

    -- The root's edges by the choices are those of a part whose byte is the root's, and of its path.
    part_edges : (i : ℕ) → i < parts → (part_of (rooted_parts g roots limit) i).edges ≡ rise (piece i)
    unfolding risen
    part_edges i l = ap (λ (t : Tree). t.edges) (part_is p.pieces i l)

    in_own : (i : ℕ) → i < parts → get_or a.assignment i 0 ≡ j → (e : ℕ) → e ∈ (rise (piece i) ++ get_or paths i []) → e ∈ own
    unfolding assigned_edges
    in_own i l q e m =
        in_chosen (λ i. (part_of (rooted_parts g roots limit) i).edges ++ get_or paths i []) (λ i. eqb (get_or (take parts a.assignment) i 0) j) (length (rooted_parts g roots limit))
        i (omega (arith, parts_count p.pieces)) (eq-eqb _ _ (byte p i l ∙ q)) (rw (part_edges i l) m)

    of_own : {e : ℕ} → e ∈ own → (i : ℕ) × (i < parts) × (get_or a.assignment i 0 ≡ j) × (e ∈ (rise (piece i) ++ get_or paths i []))
    unfolding assigned_edges
    of_own m =
        let (i, k, t, n) =
        of_chosen (λ i. (part_of (rooted_parts g roots limit) i).edges ++ get_or paths i []) (λ i. eqb (get_or (take parts a.assignment) i 0) j) (length (rooted_parts g roots limit)) m in
        let l : i < parts = omega (arith, parts_count p.pieces) in
        (i, l, sym (byte p i l) ∙ eqb-true _ _ t, rw (part_edges i l) at n)

    -- So the root's tree is the cover's, where the root has a part,
    with_part : (i : ℕ) → i < parts → get_or a.assignment i 0 ≡ j → tree j ≡ (union_tree g (get_or roots j 0) (own ++ left_at (rooted_pieces g roots limit) j)).edges
    with_part i l q =
        let x = path_of i l in
        let trail : List ℕ = trail_of (row_of g.vertices lasts j) (get_or roots j 0) x.vertex in
        let path : get_or paths i [] ≡ turned trail = rw q at x.path_is in
        let made : tree j ≡ (union_tree g (get_or roots j 0) ((piece i ++ trail) ++ left)).edges = rw q at x.tree_is in
        made
        ∙ ap (λ (t : Tree). t.edges)
        (union_alike g (get_or roots j 0) ((piece i ++ trail) ++ left) (own ++ left_at (rooted_pieces g roots limit) j)
        (either_list (piece i ++ trail) left own (left_at (rooted_pieces g roots limit) j)
        (λ e m. in_own i l q e (either_list (piece i) trail (rise (piece i)) (get_or paths i []) (λ _. in_rise) (λ _ k. rw path (in_turned k)) e m))
        to_left)
        (either_list own (left_at (rooted_pieces g roots limit) j) (piece i ++ trail) left
        (λ e m.
        let (k, b, r, n) = of_own m in
        let same : k ≡ i = bytes_apart p k i b l (r ∙ sym q) in
        either_list (rise (piece i)) (get_or paths i []) (piece i) trail (λ _. of_rise (piece i)) (λ _ k. of_turned trail (rw path at k)) e (rw same at n))
        of_left))

    -- and where it has none.
    without_part : ((i : ℕ) → i < parts → get_or a.assignment i 0 ≡ j → ⊥) → tree j ≡ (union_tree g (get_or roots j 0) left).edges
        → tree j ≡ (union_tree g (get_or roots j 0) (own ++ left_at (rooted_pieces g roots limit) j)).edges
    without_part nobody made =
        made
        ∙ ap (λ (t : Tree). t.edges)
        (union_alike g (get_or roots j 0) ([] ++ left) (own ++ left_at (rooted_pieces g roots limit) j)
        (either_list [] left own (left_at (rooted_pieces g roots limit) j) (λ e m. absurd (Memᴰ.not-nil m)) to_left)
        (either_list own (left_at (rooted_pieces g roots limit) j) [] left (λ e m. let (i, l, q, n) = of_own m in absurd (nobody i l q)) of_left))

    pub tree_of_cover : RootTree g distances lasts roots (parts_of parts a.pieces) a.assignment j (tree j)
        → tree j ≡ (union_tree g (get_or roots j 0) (own ++ left_at (rooted_pieces g roots limit) j)).edges
    tree_of_cover r = go r.assigned
      where
        go : AssignedAre g (row_of g.vertices distances j) (row_of g.vertices lasts j) (get_or roots j 0) a.pieces.starts a.pieces.cuts a.pieces.members (take parts a.pieces.places) a.assignment j r.edges
            → tree j ≡ (union_tree g (get_or roots j 0) (own ++ left_at (rooted_pieces g roots limit) j)).edges
        go (none nobody q) = without_part (λ i l. nobody i (omega (arith, places_many p.pieces))) (r.is ∙ ap (λ x. (union_tree g (get_or roots j 0) (x ++ left)).edges) q)
        go (part i v l f n q) = with_part i (omega (arith, places_many p.pieces)) (f.here l)
