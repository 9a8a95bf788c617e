-- What is grown from a vertex: the branches hang there, their edges are edges of the list, the vertices newly passed are the children,
-- none was passed before and none is passed twice. No edge is taken twice either: when an edge is taken its far end is new,
-- and from then on both its ends are passed.
-- Assumes nothing.
use Prim.Native.Nat.{ℕ, zero, suc, ◌+◌, ◌-◌, ◌≤◌, min}
use mathlib.Core.Path.{◌≡◌, refl, sym}
use mathlib.Core.Bool.{Bool, true, false, cond}
use mathlib.Core.List.Memᴰ
use mathlib.Core.List.{List, [], ◌∷◌, ◌++◌}
use mathlib.Core.Logic.{◌⊎◌, inl, inr}
use native.Mathlib.Omega.{arith}
use Rattle.lists.specs.Lists.{times}
use Rattle.lists.specs.Member.{◌∈◌}
use Rattle.lists.proofs.Below.{equal_or_not}
use Rattle.lists.proofs.Times.{times_none, times_append, times_cons, times_one, times_other, in_times, times_in, not_in_times}
use Rattle.graph.specs.Graph.{Graph, one_end, other_end}
use Rattle.rules.specs.Walk.{Joins, onward, back}
use Rattle.rules.specs.Grow.{none, branch, branch_edges, Grown, far_end, leads_on, grow_children, grow_node}
use Rattle.split_laws.proofs.Along.{Hangs, bare, fork, children}
use Rattle.split_laws.proofs.Leads.{leads_on_lem}

-- How often both ends of the edge were passed.
unfoldable pub both_passed : Graph → List ℕ → ℕ → ℕ
both_passed g passed e = min (times (one_end g e) passed) (times (other_end g e) passed)

-- What was grown from v, already passed, along edges of the list.
pub record Grows (g : Graph) (edges : List ℕ) (v : ℕ) (passed : List ℕ) (r : Grown) : Type 0 where
  -- the branches hang at v, and are made of edges of the list
  pub hangs : Hangs g v r.branches
  pub edges_of_lem : (e : ℕ) → e ∈ branch_edges r.branches → e ∈ edges
  -- the children are the vertices newly passed, and each of them is once
  pub adds : (x : ℕ) → times x r.passed ≡ times x passed + times x (children r.branches)
  pub fresh : (x : ℕ) → times x (children r.branches) ≤ 1 - times x passed
  -- an edge is taken at most once, not where both its ends were passed, and then both are
  pub edge_fresh : (e : ℕ) → times e (branch_edges r.branches) ≤ 1 - both_passed g passed e
  pub edge_passed : (e : ℕ) → times e (branch_edges r.branches) ≤ both_passed g r.passed e

-- What was passed stays passed.
pub kept : {g : Graph} {edges : List ℕ} {v : ℕ} {passed : List ℕ} {r : Grown} → Grows g edges v passed r → (x : ℕ) → x ∈ passed → x ∈ r.passed
kept {r = r} grown x m = times_in x r.passed (omega (arith, in_times m, grown.adds x))

module _ (g : Graph) where
  -- With more passed, both ends are passed no less often.
  pub both_more : (passed more : List ℕ) → ((x : ℕ) → times x passed ≤ times x more) → (e : ℕ) → both_passed g passed e ≤ both_passed g more e
  unfolding both_passed
  both_more passed more le e = omega (arith, le (one_end g e), le (other_end g e))

  -- An edge that joins a passed vertex with a new one: both its ends were not passed before, and are then.
  both_new : {e v c : ℕ} (passed : List ℕ) → Joins g e v c → 1 ≤ times v passed → times c passed ≡ 0 → (both_passed g passed e ≡ 0) × (1 ≤ both_passed g (c ∷ passed) e)
  unfolding both_passed
  both_new {e} {v} {c} passed (onward p q) old new = rw (sym p, sym q) (omega (arith, times_one c, times_cons c c passed, times_cons v c passed))
  both_new {e} {v} {c} passed (back p q) old new = rw (sym p, sym q) (omega (arith, times_one c, times_cons c c passed, times_cons v c passed))

  -- So an edge taken is not one whose ends were both passed, and is one then.
  taken : {e v c : ℕ} (passed : List ℕ) → Joins g e v c → 1 ≤ times v passed → times c passed ≡ 0
      → (x : ℕ) → (times x (e ∷ []) ≤ 1 - both_passed g passed x) × (times x (e ∷ []) ≤ both_passed g (c ∷ passed) x)
  taken {e} {v} {c} passed j old new x = go (equal_or_not x e)
    where
      go : (x ≡ e) ⊎ (x ≡ e → ⊥) → (times x (e ∷ []) ≤ 1 - both_passed g passed x) × (times x (e ∷ []) ≤ both_passed g (c ∷ passed) x)
      go (inl q) = rw q (omega (arith, times_one e, both_new passed j old new))
      go (inr n) = omega (arith, times_other x e n)

  -- A vertex not yet passed.
  new_vertex : (c : ℕ) (passed : List ℕ) → times c passed ≡ 0 → (z : ℕ) → times z (c ∷ []) ≤ 1 - times z passed
  new_vertex c passed new z = go (equal_or_not z c)
    where
      go : (z ≡ c) ⊎ (z ≡ c → ⊥) → times z (c ∷ []) ≤ 1 - times z passed
      go (inl q) = rw q (omega (arith, times_one c))
      go (inr n) = omega (arith, times_other z c n)

  module _ (edges : List ℕ) where
    -- Nothing grown.
    grows_none : {v : ℕ} (passed : List ℕ) → Grows g edges v passed (record { branches = none; passed = passed })
    unfolding branch_edges children
    grows_none passed = record {
      hangs = bare;
      edges_of_lem = λ e m. absurd (Memᴰ.not-nil m);
      adds = λ x. omega (arith, times_none x);
      fresh = λ x. omega (arith, times_none x);
      edge_fresh = λ e. omega (arith, times_none e);
      edge_passed = λ e. omega (arith, times_none e);
    }

    -- One child, with what is grown from it, and then the later ones.
    grows_branch : {e v c : ℕ} {passed : List ℕ} {child later : Grown} → e ∈ edges → Joins g e v c → 1 ≤ times v passed → times c passed ≡ 0
        → Grows g edges c (c ∷ passed) child → Grows g edges v child.passed later
        → Grows g edges v passed (record { branches = branch e c child.branches later.branches; passed = later.passed })
    unfolding branch_edges children
    grows_branch {e} {v} {c} {passed} {child} {later} known j old new x y = record {
      hangs = fork j x.hangs y.hangs;
      edges_of_lem = from;
      adds = λ z. (vertex z).0;
      fresh = λ z. (vertex z).1;
      edge_fresh = λ f. (edge f).0;
      edge_passed = λ f. (edge f).1;
    }
      where
        eu : List ℕ
        eu = branch_edges child.branches

        el : List ℕ
        el = branch_edges later.branches

        cu : List ℕ
        cu = children child.branches

        cl : List ℕ
        cl = children later.branches

        from : (f : ℕ) → f ∈ (e ∷ eu ++ el) → f ∈ edges
        from f (Memᴰ.head q) = Memᴰ.cast q known
        from f (Memᴰ.tail m) = go (Memᴰ.append_cases eu m)
          where
            go : (f ∈ eu) ⊎ (f ∈ el) → f ∈ edges
            go (inl n) = x.edges_of_lem f n
            go (inr n) = y.edges_of_lem f n

        vertex : (z : ℕ) → (times z later.passed ≡ times z passed + times z (c ∷ cu ++ cl)) × (times z (c ∷ cu ++ cl) ≤ 1 - times z passed)
        vertex z = omega (arith, new_vertex c passed new z, times_cons z c (cu ++ cl), times_append z cu cl, times_cons z c passed, x.adds z, x.fresh z, y.adds z, y.fresh z)

        edge : (f : ℕ) → (times f (e ∷ eu ++ el) ≤ 1 - both_passed g passed f) × (times f (e ∷ eu ++ el) ≤ both_passed g later.passed f)
        edge f =
            omega (
              arith,
              taken passed j old new f,
              times_cons f e (eu ++ el),
              times_append f eu el,
              x.edge_fresh f,
              x.edge_passed f,
              y.edge_fresh f,
              y.edge_passed f,
              both_more passed (c ∷ passed) (λ z. omega (arith, times_cons z c passed)) f,
              both_more (c ∷ passed) child.passed (λ z. omega (arith, x.adds z)) f,
              both_more child.passed later.passed (λ z. omega (arith, y.adds z)) f,
            )

    -- What is grown from v by its children, where `node` grows each child.
    grows_children : (node : ℕ → List ℕ → Grown) → ((c : ℕ) (passed : List ℕ) → Grows g edges c (c ∷ passed) (node c passed))
        → (v : ℕ) (es : List ℕ) → ((e : ℕ) → e ∈ es → e ∈ edges) → (passed : List ℕ) → 1 ≤ times v passed → Grows g edges v passed (grow_children node g v es passed)
    unfolding grow_children
    grows_children node each v [] known passed old = grows_none passed
    grows_children node each v (e ∷ es) known passed old =
        go (leads_on g passed v e) refl (λ more h. grows_children node each v es (λ f m. known f (Memᴰ.tail m)) more h)
      where
        child : Grown
        child = node (far_end g e v) passed

        go : (b : Bool) → leads_on g passed v e ≡ b
            → ((more : List ℕ) → 1 ≤ times v more → Grows g edges v more (grow_children node g v es more))
            → Grows g edges v passed (cond b
            (record { branches = branch e (far_end g e v) child.branches (grow_children node g v es child.passed).branches; passed = (grow_children node g v es child.passed).passed })
            (grow_children node g v es passed))
        go true t rest =
            let a = leads_on_lem passed v e t in
            let grown = each (far_end g e v) passed in
            grows_branch (known e (Memᴰ.head refl)) a.0 old (not_in_times (far_end g e v) passed a.1) grown
            (rest child.passed (omega (arith, grown.adds v, times_cons v (far_end g e v) passed)))
        go false t rest = rest passed old

    -- What is grown from a node.
    pub node_grows : (depth v : ℕ) (passed : List ℕ) → Grows g edges v (v ∷ passed) (grow_node depth g edges v passed)
    unfolding grow_node
    node_grows zero v passed = grows_none (v ∷ passed)
    node_grows (suc depth) v passed =
        grows_children (grow_node depth g edges) (node_grows depth) v edges (λ e m. m) (v ∷ passed) (in_times (Memᴰ.head refl))

    -- The same of children grown from v along some of the edges.
    pub children_grow : (depth v : ℕ) (es : List ℕ) → ((e : ℕ) → e ∈ es → e ∈ edges) → (passed : List ℕ) → v ∈ passed
        → Grows g edges v passed (grow_children (grow_node depth g edges) g v es passed)
    children_grow depth v es known passed old = grows_children (grow_node depth g edges) (node_grows depth) v es known passed (in_times old)
