-- Where a vertex is listed as a root again, its second tree has no branches: all that its edges lead to was passed by the first. Nothing is asked of
-- the graph or the roots.
-- Assumes nothing.
use Prim.Native.Nat.{ℕ, zero, suc, ◌≤◌, ◌<◌}
use mathlib.Core.Path.{◌≡◌, refl, sym, subst}
use mathlib.Core.Bool.{Bool, true, false, cond}
use mathlib.Core.List.Memᴰ
use mathlib.Core.List.{List, [], ◌∷◌}
use native.Mathlib.Omega.{arith}
use lib.ListN.{length, get_or}
use Rattle.graph.specs.Graph.{Graph}
use Rattle.rules.specs.Grow.{none, Rooted, Grown, far_end, leads_on, grow_children, grow_node, grow_from}
use Rattle.split_laws.proofs.Leads.{leads_on_lem}
use Rattle.split_laws.proofs.Grown.{kept, node_grows}
use Rattle.split_laws.proofs.PassedAround.{Met, node_met}

-- Where all that the edges join v with is passed, v gets no branches.
children_bare : (g : Graph) (node : ℕ → List ℕ → Grown) (v : ℕ) (es passed : List ℕ) → Met g es v passed → (grow_children node g v es passed).branches ≡ none
unfolding grow_children
children_bare g node v [] passed met = refl
children_bare g node v (d ∷ es) passed met = go (leads_on g passed v d) refl _ (children_bare g node v es passed (λ e w m j. met e w (Memᴰ.tail m) j))
  where
    go : (b : Bool) → leads_on g passed v d ≡ b → (x : Grown) → (grow_children node g v es passed).branches ≡ none → (cond b x (grow_children node g v es passed)).branches ≡ none
    go true t x ih = let a = leads_on_lem passed v d t in absurd (a.1 (met d (far_end g d v) (Memᴰ.head refl) a.0))
    go false t x ih = ih

-- A root without branches.
abbrev pub branchless : Rooted
branchless = record { root = 0; branches = none }

module _ (g : Graph) (edges : List ℕ) where
  -- The vertex is done with. (Without any depth nothing is grown.)
  abbrev Done : ℕ → List ℕ → ℕ → Type 0
  Done depth passed v = 1 ≤ depth → Met g edges v passed

  node_bare : (depth v : ℕ) (passed : List ℕ) → Done depth passed v → (grow_node depth g edges v passed).branches ≡ none
  unfolding grow_node
  node_bare zero v passed done = refl
  node_bare (suc depth) v passed done =
      children_bare g (grow_node depth g edges) v edges (v ∷ passed) (λ e w m j. Memᴰ.tail (done (omega arith) e w m j))

  -- It stays so.
  done_on : (v r : ℕ) (passed : List ℕ) → Done g.vertices passed v → Done g.vertices (grow_node g.vertices g edges r passed).passed v
  done_on v r passed done h e w m j = kept (node_grows g edges g.vertices r passed) w (Memᴰ.tail (done h e w m j))

  -- A root that is done with gets no branches,
  done_bare : (roots passed : List ℕ) (r : ℕ) → Done g.vertices passed r → (j : ℕ) → j < length roots → get_or roots j 0 ≡ r
      → (get_or (grow_from g edges roots passed) j branchless).branches ≡ none
  unfolding grow_from
  done_bare [] passed r done j h q = absurd (omega arith)
  done_bare (s ∷ roots) passed r done zero h q = node_bare g.vertices s passed (subst (λ (x : ℕ). Done g.vertices passed x) (sym q) done)
  done_bare (s ∷ roots) passed r done (suc j) h q = done_bare roots (grow_node g.vertices g edges s passed).passed r (done_on r s passed done) j (omega arith) q

  -- and so does one that stands in the list before.
  pub again_bare : (roots passed : List ℕ) (i j : ℕ) → i < j → j < length roots → get_or roots i 0 ≡ get_or roots j 0
      → (get_or (grow_from g edges roots passed) j branchless).branches ≡ none
  unfolding grow_from
  again_bare [] passed i j l h q = absurd (omega arith)
  again_bare (s ∷ roots) passed i zero l h q = absurd (omega arith)
  again_bare (s ∷ roots) passed zero (suc j) l h q =
      done_bare roots (grow_node g.vertices g edges s passed).passed s (node_met g edges g.vertices s passed) j (omega arith) (sym q)
  again_bare (s ∷ roots) passed (suc i) (suc j) l h q = again_bare roots (grow_node g.vertices g edges s passed).passed i j (omega arith) (omega arith) q
