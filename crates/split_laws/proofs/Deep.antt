-- Enough depth: while fewer vertices are left unpassed than the depth, growing stops at no vertex early, so that every edge at a newly
-- passed vertex has both ends passed at the end. Each child is one vertex fewer.
-- Assumes nothing.
use Prim.Native.Nat.{ℕ, zero, suc, ◌≤◌, ◌<◌}
use mathlib.Core.Path.{◌≡◌, refl, subst}
use mathlib.Core.Bool.{Bool, true, false, cond, not}
use mathlib.Core.List.Memᴰ
use mathlib.Core.List.{List, [], ◌∷◌}
use mathlib.Core.Logic.{◌⊎◌, inl, inr}
use native.Mathlib.Omega.{arith}
use Rattle.lists.specs.Count.{count}
use Rattle.lists.specs.Lists.{member}
use Rattle.lists.specs.Member.{◌∈◌}
use Rattle.lists.proofs.Member.{in_member, member_out, out_member}
use Rattle.lists.proofs.Fewer.{count_no_more, count_fewer, count_bounded}
use Rattle.graph.specs.Graph.{Graph, one_end, other_end}
use Rattle.rules.specs.Walk.{Joins}
use Rattle.rules.specs.Grow.{branch, Grown, far_end, leads_on, grow_children, grow_node}
use Rattle.rules.proofs.Joined.{joins_below}
use Rattle.split_laws.proofs.Leads.{leads_on_lem}
use Rattle.split_laws.proofs.Grown.{kept, node_grows, children_grow}
use Rattle.split_laws.proofs.PassedAround.{node_met}

-- How many vertices of the graph were not passed.
unfoldable pub unpassed : Graph → List ℕ → ℕ
unpassed g passed = count g.vertices (λ v. not (member v passed))

-- Every edge at a vertex newly passed has both ends passed at the end.
abbrev pub Finished : Graph → List ℕ → List ℕ → List ℕ → Type 0
Finished g edges before after = (e u w : ℕ) → e ∈ edges → Joins g e u w → u ∈ after → (u ∈ before) ⊎ (w ∈ after)

-- Both ends of each edge are vertices of the graph.
abbrev pub Inside : Graph → List ℕ → Type 0
Inside g edges = (e : ℕ) → e ∈ edges → (one_end g e < g.vertices) × (other_end g e < g.vertices)

module _ (g : Graph) where
  narrower : (passed more : List ℕ) → ((x : ℕ) → x ∈ passed → x ∈ more) → (v : ℕ) → not (member v more) ≡ true → not (member v passed) ≡ true
  narrower passed more sub v t = out_member v passed (λ m. member_out v more t (sub v m))

  -- With more passed no more are unpassed, and one fewer with one more.
  pub unpassed_more : (passed more : List ℕ) → ((x : ℕ) → x ∈ passed → x ∈ more) → unpassed g more ≤ unpassed g passed
  unfolding unpassed
  unpassed_more passed more sub = count_no_more g.vertices (λ v. not (member v more)) (λ v. not (member v passed)) (λ v _. narrower passed more sub v)

  pub unpassed_fewer : (c : ℕ) (passed : List ℕ) → c < g.vertices → (c ∈ passed → ⊥) → unpassed g (c ∷ passed) < unpassed g passed
  unfolding unpassed
  unpassed_fewer c passed inside new =
      count_fewer g.vertices (λ v. not (member v (c ∷ passed))) (λ v. not (member v passed)) (λ v _. narrower passed (c ∷ passed) (λ x m. Memᴰ.tail m) v) c inside
      (rw (in_member {v = c} {xs = c ∷ passed} (Memᴰ.head refl))) (out_member c passed new)

  -- Where one vertex was passed, fewer than all are unpassed.
  pub unpassed_below : (c : ℕ) (passed : List ℕ) → c < g.vertices → unpassed g (c ∷ passed) < g.vertices
  unfolding unpassed
  unpassed_below c passed inside =
      let test : ℕ → Bool = λ v. not (member v (c ∷ passed)) in
      let all : ℕ → Bool = λ _. true in
      omega (arith, count_bounded g.vertices all, count_fewer g.vertices test all (λ _ _ _. refl) c inside (rw (in_member {v = c} {xs = c ∷ passed} (Memᴰ.head refl))) refl)

module _ {g : Graph} where
  -- One growth after the other.
  finished_on : {edges before middle after : List ℕ} → ((x : ℕ) → x ∈ middle → x ∈ after)
      → Finished g edges before middle → Finished g edges middle after → Finished g edges before after
  finished_on {before = before} {middle} {after} kept a b e u w m j i = later (b e u w m j i)
    where
      earlier : (u ∈ before) ⊎ (w ∈ middle) → (u ∈ before) ⊎ (w ∈ after)
      earlier (inl n) = inl n
      earlier (inr n) = inr (kept w n)

      later : (u ∈ middle) ⊎ (w ∈ after) → (u ∈ before) ⊎ (w ∈ after)
      later (inl n) = earlier (a e u w m j n)
      later (inr n) = inr n

module _ (g : Graph) (edges : List ℕ) (inside : Inside g edges) where
  -- What an edge leads to is a vertex of the graph.
  far_inside : {e u w : ℕ} → e ∈ edges → Joins g e u w → w < g.vertices
  far_inside {e} m j = joins_below (inside e m).0 (inside e m).1 j

  -- With this depth every node is finished, where fewer vertices than that are unpassed.
  abbrev NodesFinish : ℕ → Type 0
  NodesFinish depth = (c : ℕ) (passed : List ℕ) → c < g.vertices → unpassed g (c ∷ passed) < depth → Finished g edges passed (grow_node depth g edges c passed).passed

  -- Then so are the children of a vertex.
  children_finish : (depth : ℕ) → NodesFinish depth → (v : ℕ) (es : List ℕ) → ((e : ℕ) → e ∈ es → e ∈ edges)
      → (passed : List ℕ) → v ∈ passed → unpassed g passed ≤ depth
      → Finished g edges passed (grow_children (grow_node depth g edges) g v es passed).passed
  unfolding grow_children
  children_finish depth nodes v [] known passed old enough = λ e u w m j i. inl i
  children_finish depth nodes v (e ∷ es) known passed old enough =
      go (leads_on g passed v e) refl (λ more i h. children_finish depth nodes v es later_known more i h)
    where
      later_known : (f : ℕ) → f ∈ es → f ∈ edges
      later_known f m = known f (Memᴰ.tail m)

      c : ℕ
      c = far_end g e v

      child : Grown
      child = grow_node depth g edges c passed

      rest : List ℕ → Grown
      rest more = grow_children (grow_node depth g edges) g v es more

      go : (b : Bool) → leads_on g passed v e ≡ b
          → ((more : List ℕ) → v ∈ more → unpassed g more ≤ depth → Finished g edges more (rest more).passed)
          → Finished g edges passed (cond b (record { branches = branch e c child.branches (rest child.passed).branches; passed = (rest child.passed).passed }) (rest passed)).passed
      go true t later =
          let a = leads_on_lem passed v e t in
          let c_inside = far_inside (known e (Memᴰ.head refl)) a.0 in
          let deeper = nodes c passed c_inside (omega (arith, unpassed_fewer g c passed c_inside a.1)) in
          let child_keeps = kept (node_grows g edges depth c passed) in
          let v_kept = child_keeps v (Memᴰ.tail old) in
          finished_on (kept (children_grow g edges depth v es later_known child.passed v_kept)) deeper
          (later child.passed v_kept (omega (arith, unpassed_more g passed child.passed (λ x m. child_keeps x (Memᴰ.tail m)))))
      go false t later = later passed old enough

  -- With depth above the number of vertices unpassed once v is passed, every edge at a newly passed vertex has both ends passed at the end.
  pub node_finishes : (depth v : ℕ) (passed : List ℕ) → v < g.vertices → unpassed g (v ∷ passed) < depth → Finished g edges passed (grow_node depth g edges v passed).passed
  unfolding grow_node
  node_finishes zero v passed within enough e u w m j i = absurd (omega arith)
  node_finishes (suc depth) v passed within enough e u w m j i =
      go (children_finish depth (node_finishes depth) v edges (λ f n. n) (v ∷ passed) (Memᴰ.head refl) (omega arith) e u w m j i)
    where
      after : List ℕ
      after = (grow_node (suc depth) g edges v passed).passed

      go : (u ∈ (v ∷ passed)) ⊎ (w ∈ after) → (u ∈ passed) ⊎ (w ∈ after)
      go (inl (Memᴰ.head q)) = inr (node_met g edges (suc depth) v passed (omega arith) e w m (subst (λ (x : ℕ). Joins g e x w) q j))
      go (inl (Memᴰ.tail n)) = inl n
      go (inr n) = inr n

  -- As many levels as there are vertices are enough wherever it starts.
  pub vertices_deep : (v : ℕ) (passed : List ℕ) → v < g.vertices → Finished g edges passed (grow_node g.vertices g edges v passed).passed
  vertices_deep v passed within = node_finishes g.vertices v passed within (unpassed_below g v passed within)
