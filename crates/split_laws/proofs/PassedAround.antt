-- Once a vertex is grown, all that the edges join it with is passed. Nothing is asked of the graph or the depth, but that there is some depth.
-- Assumes nothing.
use Prim.Native.Nat.{ℕ, zero, suc, ◌≤◌}
use mathlib.Core.Path.{◌≡◌, refl, sym, subst}
use mathlib.Core.Bool.{Bool, true, false, cond}
use mathlib.Core.List.Memᴰ
use mathlib.Core.List.{List, [], ◌∷◌}
use native.Mathlib.Omega.{arith}
use Rattle.lists.specs.Member.{◌∈◌}
use Rattle.graph.specs.Graph.{Graph}
use Rattle.rules.specs.Walk.{Joins}
use Rattle.rules.specs.Grow.{branch, Grown, far_end, leads_on, grow_children, grow_node}
use Rattle.rules.proofs.FarEnd.{far_end_lem}
use Rattle.split_laws.proofs.Leads.{leads_nowhere}
use Rattle.split_laws.proofs.Grown.{kept, node_grows, children_grow}

-- All that the edges join v with is passed.
abbrev pub Met : Graph → List ℕ → ℕ → List ℕ → Type 0
Met g edges v passed = (e w : ℕ) → e ∈ edges → Joins g e v w → w ∈ passed

module _ (g : Graph) (edges : List ℕ) where
  -- The children of v are grown along some edges: all that these join v with is passed.
  children_met : (depth v : ℕ) (es : List ℕ) → ((e : ℕ) → e ∈ es → e ∈ edges) → (passed : List ℕ) → v ∈ passed
      → Met g es v (grow_children (grow_node depth g edges) g v es passed).passed
  unfolding grow_children
  children_met depth v [] known passed old e w m j = absurd (Memᴰ.not-nil m)
  children_met depth v (d ∷ es) known passed old e w m j = go (leads_on g passed v d) refl (λ more i n. children_met depth v es later_known more i e w n j) m
    where
      later_known : (f : ℕ) → f ∈ es → f ∈ edges
      later_known f n = known f (Memᴰ.tail n)

      c : ℕ
      c = far_end g d v

      child : Grown
      child = grow_node depth g edges c passed

      rest : List ℕ → Grown
      rest more = grow_children (grow_node depth g edges) g v es more

      go : (b : Bool) → leads_on g passed v d ≡ b → ((more : List ℕ) → v ∈ more → e ∈ es → w ∈ (rest more).passed) → e ∈ (d ∷ es)
          → w ∈ (cond b (record { branches = branch d c child.branches (rest child.passed).branches; passed = (rest child.passed).passed }) (rest passed)).passed
      go true t later (Memᴰ.head q) =
          let child_keeps = kept (node_grows g edges depth c passed) in
          let rest_keeps = kept (children_grow g edges depth v es later_known child.passed (child_keeps v (Memᴰ.tail old))) in
          Memᴰ.cast (sym (far_end_lem (subst (λ (x : ℕ). Joins g x v w) q j))) (rest_keeps c (child_keeps c (Memᴰ.head refl)))
      go true t later (Memᴰ.tail n) = later child.passed (kept (node_grows g edges depth c passed) v (Memᴰ.tail old)) n
      go false t later (Memᴰ.head q) =
          kept (children_grow g edges depth v es later_known passed old) w (leads_nowhere passed v d t (subst (λ (x : ℕ). Joins g x v w) q j))
      go false t later (Memᴰ.tail n) = later passed old n

  pub node_met : (depth v : ℕ) (passed : List ℕ) → 1 ≤ depth → Met g edges v (grow_node depth g edges v passed).passed
  unfolding grow_node
  node_met zero v passed h e w m j = absurd (omega arith)
  node_met (suc depth) v passed h e w m j = children_met depth v edges (λ e m. m) (v ∷ passed) (Memᴰ.head refl) e w m j
