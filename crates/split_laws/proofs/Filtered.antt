-- The children of a vertex are grown alike along all edges and along those of them that pass a test, where no edge leads on that fails it:
-- so it is enough to look at the edges that have the vertex as an end.
-- Assumes nothing.
use Prim.Native.Nat.{ℕ}
use mathlib.Core.Path.{◌≡◌, refl, ap, fun_ext}
use mathlib.Core.Bool.{Bool, true, false, cond}
use mathlib.Core.List.{List, [], ◌∷◌}
use Rattle.lists.specs.Lists.{filter}
use Rattle.graph.specs.Graph.{Graph}
use Rattle.rules.specs.Grow.{branch, Grown, far_end, leads_on, grow_children}

module _ (node : ℕ → List ℕ → Grown) (g : Graph) (v : ℕ) (test : ℕ → Bool)
    (fails : (e : ℕ) (passed : List ℕ) → test e ≡ false → leads_on g passed v e ≡ false) where
  -- one edge, and the later ones as given
  first : ℕ → List ℕ → (List ℕ → Grown) → Grown
  first e passed later =
      let child = node (far_end g e v) passed in
      let rest = later child.passed in
      let branched : Grown = record { branches = branch e (far_end g e v) child.branches rest.branches; passed = rest.passed } in
      let skipped = later passed in
      cond (leads_on g passed v e) branched skipped

  pub grow_filtered : (es passed : List ℕ) → grow_children node g v es passed ≡ grow_children node g v (filter test es) passed
  unfolding grow_children filter first
  grow_filtered [] passed = refl
  grow_filtered (e ∷ es) passed = go (test e) refl (λ more. grow_filtered es more)
    where
      go : (b : Bool) → test e ≡ b → ((more : List ℕ) → grow_children node g v es more ≡ grow_children node g v (filter test es) more)
          → grow_children node g v (e ∷ es) passed ≡ grow_children node g v (cond b (e ∷ filter test es) (filter test es)) passed
      go true t later = ap (first e passed) (fun_ext later)
      go false t later = rw (fails e passed t) (later passed)
