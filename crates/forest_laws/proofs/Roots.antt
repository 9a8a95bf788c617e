-- Labels mean walks also where a list of roots is joined from the start: two vertices have equal labels exactly where the edges link them, or
-- link each of them to a root. So a vertex has the roots' label exactly where the edges link it to a root.
-- Assumes nothing.
use Prim.Native.Nat.{ℕ, ◌≤◌}
use mathlib.Core.Path.{◌≡◌, refl, sym, ◌∙◌}
use mathlib.Core.Bool.{Bool, true, false, cond}
use mathlib.Core.List.Memᴰ
use mathlib.Core.List.{List, [], ◌∷◌, head_d}
use mathlib.Core.Logic.{◌⊎◌, inl, inr, Equivalence, ◌↔◌}
use native.Mathlib.Omega.{arith}
use lib.ListN.{length}
use Rattle.lists.specs.Lists.{any, member}
use Rattle.lists.specs.Member.{◌∈◌}
use Rattle.lists.proofs.Member.{member_in, in_member}
use Rattle.graph.specs.Graph.{Graph}
use Rattle.rules.specs.Walk.{Linked}
use Rattle.rules.specs.Labels.{apart, together, merge_all}
use Rattle.rules.proofs.Linked.{linked_same, linked_back, linked_on, linked_ends}
use Rattle.forest_laws.proofs.Merging.{merged_coarser, merged_least}
use Rattle.forest_laws.proofs.Walks.{linked_merged}

-- the first of a list stands in it
pub head_in : {x : ℕ} {roots : List ℕ} → x ∈ roots → head_d roots 0 ∈ roots
unfolding head_d
head_in (Memᴰ.head e) = Memᴰ.head refl
head_in (Memᴰ.tail m) = Memᴰ.head refl

pub some_head : (roots : List ℕ) → 1 ≤ length roots → head_d roots 0 ∈ roots
unfolding head_d
some_head [] h = absurd (omega arith)
some_head (r ∷ roots) h = Memᴰ.head refl

-- without roots all vertices are apart
pub together_none : together [] ≡ apart
unfolding together apart member any
together_none = refl

-- the roots are joined
pub together_joins : (roots : List ℕ) {r s : ℕ} → r ∈ roots → s ∈ roots → together roots r ≡ together roots s
unfolding together
together_joins roots m n = rw (in_member m, in_member n)

-- and nothing else is
pub together_cases : (roots : List ℕ) (u v : ℕ) → together roots u ≡ together roots v → (u ≡ v) ⊎ ((u ∈ roots) × (v ∈ roots))
unfolding together
together_cases roots u v = go (member u roots) (member v roots) refl refl
  where
    go : (s t : Bool) → member u roots ≡ s → member v roots ≡ t → cond s (head_d roots 0) u ≡ cond t (head_d roots 0) v → (u ≡ v) ⊎ ((u ∈ roots) × (v ∈ roots))
    go true true p q e = inr (member_in u roots p, member_in v roots q)
    go true false p q e = let m : u ∈ roots = member_in u roots p in inr (m, Memᴰ.cast (sym e) (head_in m))
    go false true p q e = let m : v ∈ roots = member_in v roots q in inr (Memᴰ.cast e (head_in m), m)
    go false false p q e = inl e

-- the edges link v to a root
abbrev pub Reached : Graph → List ℕ → List ℕ → ℕ → Type 0
Reached g roots E v = (r : ℕ) × (r ∈ roots) × Linked g E r v

-- the edges link u and v, or each of them to a root
abbrev pub LinkedOrReached : Graph → List ℕ → List ℕ → ℕ → ℕ → Type 0
LinkedOrReached g roots E u v = Linked g E u v ⊎ (Reached g roots E u × Reached g roots E v)

module _ (g : Graph) (roots E : List ℕ) where
  -- what is linked to a reached vertex is reached
  pub reached_on : {u v : ℕ} → Linked g E u v → Reached g roots E u → Reached g roots E v
  reached_on l (r, m, k) = (r, m, linked_on k l)

  linked_or_reached : Equivalence (LinkedOrReached g roots E)
  linked_or_reached = record { refl = λ x. inl (linked_same refl); symm = turn; trans = on }
    where
      turn : (u v : ℕ) → LinkedOrReached g roots E u v → LinkedOrReached g roots E v u
      turn u v (inl l) = inl (linked_back l)
      turn u v (inr (p, q)) = inr (q, p)

      on : (u v w : ℕ) → LinkedOrReached g roots E u v → LinkedOrReached g roots E v w → LinkedOrReached g roots E u w
      on u v w (inl l) (inl k) = inl (linked_on l k)
      on u v w (inl l) (inr (p, q)) = inr (reached_on (linked_back l) p, q)
      on u v w (inr (p, q)) (inl k) = inr (p, reached_on k q)
      on u v w (inr (p, q)) (inr (r, s)) = inr (p, s)

  -- what is joined, with the roots joined at the start, is linked, or each is linked to a root
  pub together_linked : (u v : ℕ) → merge_all g (together roots) E u ≡ merge_all g (together roots) E v → LinkedOrReached g roots E u v
  together_linked u v p = merged_least g linked_or_reached (together roots) (λ x y q. go x y (together_cases roots x y q)) E (λ e m. inl (linked_ends m)) u v p
    where
      go : (x y : ℕ) → (x ≡ y) ⊎ ((x ∈ roots) × (y ∈ roots)) → LinkedOrReached g roots E x y
      go x y (inl q) = inl (linked_same q)
      go x y (inr (m, n)) = inr ((x, m, linked_same refl), (y, n, linked_same refl))

  -- vertices linked to roots are joined
  pub reached_joined : {u v : ℕ} → Reached g roots E u → Reached g roots E v → merge_all g (together roots) E u ≡ merge_all g (together roots) E v
  reached_joined (r, m, l) (s, n, k) =
      sym (linked_merged g E (together roots) l) ∙ merged_coarser g (together roots) E r s (together_joins roots m n) ∙ linked_merged g E (together roots) k

  -- equal labels, both ways
  pub together_is_linked : (u v : ℕ) → (merge_all g (together roots) E u ≡ merge_all g (together roots) E v) ↔ LinkedOrReached g roots E u v
  together_is_linked u v = (together_linked u v, back)
    where
      back : LinkedOrReached g roots E u v → merge_all g (together roots) E u ≡ merge_all g (together roots) E v
      back (inl l) = linked_merged g E (together roots) l
      back (inr (p, q)) = reached_joined p q

  -- a vertex has a root's label exactly where the edges link it to a root
  pub root_is_reached : {r : ℕ} → r ∈ roots → (v : ℕ) → (merge_all g (together roots) E r ≡ merge_all g (together roots) E v) ↔ Reached g roots E v
  root_is_reached {r} m v = (λ p. go (together_linked r v p), λ q. reached_joined (r, m, linked_same refl) q)
    where
      go : LinkedOrReached g roots E r v → Reached g roots E v
      go (inl l) = (r, m, l)
      go (inr (p, q)) = q
