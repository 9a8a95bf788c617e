-- Parts and leftovers are connected: where the branches hang at v and the bunch is joined to v, each part is joined to the vertex at which
-- it was split off, which is an end of one of its edges, and what is left is joined to v. A piece is joined to the vertex above it through
-- its own edge, and pieces joined to the same vertex make a bunch joined to that vertex.
-- Assumes nothing.
use Prim.Native.Nat.{ℕ}
use mathlib.Core.Path.{refl}
use mathlib.Core.List.Memᴰ
use mathlib.Core.List.{List, ◌∷◌, ◌++◌}
use mathlib.Core.Logic.{◌⊎◌, inl, inr}
use Rattle.lists.specs.Member.{◌∈◌}
use Rattle.lists.specs.Sort.{rise}
use Rattle.lists.proofs.Sorting.{in_rise, of_rise}
use Rattle.graph.specs.Graph.{Graph, one_end}
use Rattle.rules.specs.Walk.{Joins, Linked}
use Rattle.rules.specs.Cover.{Tree}
use Rattle.rules.specs.Grow.{Branches}
use Rattle.rules.specs.Split.{part_at, split_at}
use Rattle.rules.proofs.Linked.{linked_on, linked_edge, linked_more}
use Rattle.rules.proofs.Joined.{JoinedTo, linked_one_end}
use Rattle.split_laws.proofs.Along.{Hangs, children, along_both, along_children}
use Rattle.split_laws.proofs.Rules.{Rules, PiecesHold, split_holds}

-- A connected part whose start is one of the vertices S and an end of one of its edges.
pub record Connected (g : Graph) (S : ℕ → Type 0) (t : Tree) : Type 0 where
  pub joined : JoinedTo g t.start t.edges
  pub at_edge : (e far : ℕ) × (e ∈ t.edges) × Joins g e t.start far
  pub start_in_lem : S t.start

module _ {g : Graph} where
  -- What is joined to a child is joined, with the child's edge, to the vertex above.
  piece_joined : {v e child : ℕ} {below : List ℕ} → Joins g e v child → JoinedTo g child below → JoinedTo g v (e ∷ below)
  piece_joined j q f (Memᴰ.head same) = rw same (linked_one_end (Memᴰ.head refl) j)
  piece_joined j q f (Memᴰ.tail m) = linked_on (linked_edge (Memᴰ.head refl) j) (linked_more (λ _ n. Memᴰ.tail n) (q f m))

  -- Two lists joined to v are so together, and sorted.
  append_joined : {v : ℕ} {xs ys : List ℕ} → JoinedTo g v xs → JoinedTo g v ys → JoinedTo g v (xs ++ ys)
  append_joined {v} {xs} {ys} a b e m = go (Memᴰ.append_cases xs m)
    where
      go : (e ∈ xs) ⊎ (e ∈ ys) → Linked g (xs ++ ys) v (one_end g e)
      go (inl n) = linked_more (λ _ i. Memᴰ.append_left ys i) (a e n)
      go (inr n) = linked_more (λ _ i. Memᴰ.append_right xs i) (b e n)

  pub rise_joined : {v : ℕ} {xs : List ℕ} → JoinedTo g v xs → JoinedTo g v (rise xs)
  rise_joined {v} {xs} a e m = linked_more (λ _ i. in_rise i) (a e (of_rise xs m))

  -- A list joined to v with an edge at v makes a connected part.
  part_connected : {S : ℕ → Type 0} {v e child : ℕ} {xs : List ℕ} → Joins g e v child → S v → e ∈ xs → JoinedTo g v xs → Connected g S (part_at v xs)
  unfolding part_at
  part_connected {e = e} {child = child} j s m a = record { joined = rise_joined a; at_edge = (e, child, in_rise m, j); start_in_lem = s }

-- Settling keeps the bunch joined to v, and makes connected parts.
connected_rules : (g : Graph) (H : ℕ) (S : ℕ → Type 0) → Rules g H (λ u e child. Joins g e u child × (S u × S child)) (Connected g S) (λ v bunch. JoinedTo g v bunch)
connected_rules g H S = record {
  empty = λ v e m. absurd (Memᴰ.not-nil m);
  alone = λ r q a. part_connected r.0 r.1.0 (Memᴰ.head refl) (piece_joined r.0 q);
  full = λ {v} {e} {child} {bunch} {below} r q s a b. part_connected r.0 r.1.0 (Memᴰ.append_right bunch (Memᴰ.head refl)) (append_joined q (piece_joined r.0 s));
  more = λ r q s b. append_joined q (piece_joined r.0 s);
}

module _ (g : Graph) (H v : ℕ) (bunch : List ℕ) (b : Branches) (hangs : Hangs g v b) (start : JoinedTo g v bunch) where
  both : PiecesHold (Connected g (λ x. x ∈ (v ∷ children b))) (JoinedTo g v) (split_at g H v bunch b)
  both = split_holds (connected_rules g H (λ x. x ∈ (v ∷ children b)))
      (along_both hangs (along_children (λ x. x ∈ (v ∷ children b)) v b (Memᴰ.head refl) (λ c m. Memᴰ.tail m)))
      start

  -- Each part is joined to its start, which is v or a child, and an end of one of its edges;
  pub parts_connected : {t : Tree} → t ∈ (split_at g H v bunch b).parts → Connected g (λ x. x ∈ (v ∷ children b)) t
  parts_connected {t} m = both.of_parts t m

  -- what is left is joined to v.
  pub left_connected : JoinedTo g v (split_at g H v bunch b).left
  left_connected = both.of_left
