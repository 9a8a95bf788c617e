-- What holds of every branch: a relation of the vertex above, the edge and the child. Branches "hang" at a vertex where each edge
-- joins the vertex above it and its child; then each child is linked to that vertex by the edges of the branches.
-- Assumes nothing.
use Prim.Native.Nat.{ℕ}
use mathlib.Core.Path.{◌≡◌, refl, sym, subst}
use mathlib.Core.List.Memᴰ
use mathlib.Core.List.{List, [], ◌∷◌, ◌++◌}
use mathlib.Core.Logic.{◌⊎◌, inl, inr}
use Rattle.lists.specs.Member.{◌∈◌}
use Rattle.graph.specs.Graph.{Graph}
use Rattle.rules.specs.Walk.{Joins, Linked}
use Rattle.rules.specs.Grow.{Branches, none, branch, branch_edges}
use Rattle.rules.proofs.Linked.{linked_same, linked_on, linked_edge, linked_more}

-- R holds of the vertex above, the edge and the child of each branch; v is the vertex above the first ones.
pub data Along (R : ℕ → ℕ → ℕ → Type 0) : ℕ → Branches → Type 0 where
  bare : {v : ℕ} → Along R v none
  fork : {v e child : ℕ} {under later : Branches} → R v e child → Along R child under → Along R v later → Along R v (branch e child under later)

-- The child vertices: each child, those below it, those of the later children.
unfoldable pub children : Branches → List ℕ
children none = []
children (branch e child under later) = child ∷ children under ++ children later

-- The branches hang at v: each edge joins the vertex above it and its child.
abbrev pub Hangs : Graph → ℕ → Branches → Type 0
Hangs g v b = Along (λ u e child. Joins g e u child) v b

-- Two relations hold along the branches together.
pub along_both : {R S : ℕ → ℕ → ℕ → Type 0} {v : ℕ} {b : Branches} → Along R v b → Along S v b → Along (λ u e child. R u e child × S u e child) v b
along_both bare bare = bare
along_both (fork r x y) (fork s z w) = fork (r, s) (along_both x z) (along_both y w)

-- What holds of every edge of the branches holds along them.
pub along_edges : (S : ℕ → Type 0) (v : ℕ) (b : Branches) → ((e : ℕ) → e ∈ branch_edges b → S e) → Along (λ u e child. S e) v b
unfolding branch_edges
along_edges S v none all = bare
along_edges S v (branch e child under later) all =
    fork (all e (Memᴰ.head refl))
    (along_edges S child under (λ f m. all f (Memᴰ.tail (Memᴰ.append_left (branch_edges later) m))))
    (along_edges S v later (λ f m. all f (Memᴰ.tail (Memᴰ.append_right (branch_edges under) m))))

-- What holds of v and every child holds of both vertices along the branches.
pub along_children : (S : ℕ → Type 0) (v : ℕ) (b : Branches) → S v → ((c : ℕ) → c ∈ children b → S c) → Along (λ u e child. S u × S child) v b
unfolding children
along_children S v none here all = bare
along_children S v (branch e child under later) here all =
    let below : S child = all child (Memᴰ.head refl) in
    fork (here, below)
    (along_children S child under below (λ c m. all c (Memᴰ.tail (Memᴰ.append_left (children later) m))))
    (along_children S v later here (λ c m. all c (Memᴰ.tail (Memᴰ.append_right (children under) m))))

-- C holds of branches among which c is a child: where c is the first child, where C holds below the first, and where C holds of the later.
record ChildPlace (R : ℕ → ℕ → ℕ → Type 0) (c : ℕ) (C : ℕ → Branches → Type 0) : Type 0 where
  here : {v e child : ℕ} {under later : Branches} → R v e child → c ≡ child → C v (branch e child under later)
  below : {v e child : ℕ} {under later : Branches} → R v e child → C child under → C v (branch e child under later)
  beside : {v e child : ℕ} {under later : Branches} → C v later → C v (branch e child under later)

child_place : {R : ℕ → ℕ → ℕ → Type 0} {c : ℕ} {C : ℕ → Branches → Type 0} → ChildPlace R c C → {v : ℕ} {b : Branches} → Along R v b → c ∈ children b → C v b
unfolding children
child_place at bare m = absurd (Memᴰ.not-nil m)
child_place {c = c} {C} at (fork {v = v} {e = e} {child = child} {under = under} {later = later} r x y) m = go (λ n. child_place at x n) (λ n. child_place at y n) m
  where
    deeper : (c ∈ children under → C child under) → (c ∈ children later → C v later) → (c ∈ children under) ⊎ (c ∈ children later) → C v (branch e child under later)
    deeper a b (inl n) = at.below r (a n)
    deeper a b (inr n) = at.beside (b n)

    go : (c ∈ children under → C child under) → (c ∈ children later → C v later) → c ∈ (child ∷ children under ++ children later) → C v (branch e child under later)
    go a b (Memᴰ.head q) = at.here r q
    go a b (Memᴰ.tail n) = deeper a b (Memᴰ.append_cases (children under) n)

-- Each child has its branch.
has_branch : (R : ℕ → ℕ → ℕ → Type 0) (c : ℕ) → ChildPlace R c (λ v b. (u e : ℕ) × (e ∈ branch_edges b) × R u e c)
unfolding branch_edges
has_branch R c = record {
  here = λ {v} {e} r q. (v, e, Memᴰ.head refl, subst (λ (w : ℕ). R v e w) (sym q) r);
  below = λ {v} {e} {child} {under} {later} r (u, f, i, s). (u, f, Memᴰ.tail (Memᴰ.append_left (branch_edges later) i), s);
  beside = λ {v} {e} {child} {under} {later} (u, f, i, s). (u, f, Memᴰ.tail (Memᴰ.append_right (branch_edges under) i), s);
}

pub child_branch : {R : ℕ → ℕ → ℕ → Type 0} {v : ℕ} {b : Branches} → Along R v b → {c : ℕ} → c ∈ children b → (u e : ℕ) × (e ∈ branch_edges b) × R u e c
child_branch {R} x {c} m = child_place (has_branch R c) x m

-- Each child of branches that hang at v is linked to v by their edges.
is_linked : (g : Graph) (c : ℕ) → ChildPlace (λ u e child. Joins g e u child) c (λ v b. Linked g (branch_edges b) v c)
unfolding branch_edges
is_linked g c = record {
  here = λ j q. linked_on (linked_edge (Memᴰ.head refl) j) (linked_same (sym q));
  below = λ {v} {e} {child} {under} {later} j l. linked_on (linked_edge (Memᴰ.head refl) j) (linked_more (λ f i. Memᴰ.tail (Memᴰ.append_left (branch_edges later) i)) l);
  beside = λ {v} {e} {child} {under} {later} l. linked_more (λ f i. Memᴰ.tail (Memᴰ.append_right (branch_edges under) i)) l;
}

pub children_linked : {g : Graph} {v : ℕ} {b : Branches} → Hangs g v b → {c : ℕ} → c ∈ children b → Linked g (branch_edges b) v c
children_linked {g} x {c} m = child_place (is_linked g c) x m
