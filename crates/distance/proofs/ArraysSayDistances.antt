-- Once the search is over, the arrays say the distances and the shortest paths of the graph whose arcs they are.
-- Assumes nothing.
use Prim.Native.Nat.{ℕ, suc, ◌+◌, ◌≤◌, ◌<◌}
use mathlib.Core.Path.{◌≡◌, refl, sym, ap, ◌∙◌}
use mathlib.Core.List.Memᴰ
use mathlib.Core.List.{List, [], ◌∷◌}
use mathlib.Core.Logic.{dite}
use mathlib.Core.Option.{some, none, none-ne-some}
use native.Mathlib.Decide.{ℕ_discrete}
use native.Mathlib.Omega.{arith}
use lib.ListN.{length, get_or}
use Rattle.lists.specs.Count.{below}
use Rattle.lists.specs.Lists.{sum_of}
use Rattle.lists.specs.Member.{◌∈◌}
use Rattle.lists.specs.InOrder as order
use Rattle.graph.specs.Graph.{Graph, edge_count, weight_of}
use Rattle.rules.specs.Walk.{Joins, Walk, stay, step, total_weight}
use Rattle.rules.specs.ClosedWalk.{stops_from}
use Rattle.rules.specs.Distance.{Distance}
use Rattle.rules.proofs.Linked.{joins_back, walk_back}
use Rattle.rules.proofs.FarEnd.{far_end_lem}
use Rattle.distance_laws.proofs.Nearer.{AtMost}
use Rattle.distance_laws.proofs.Shortening.{shortened}
use Rattle.distance_laws.proofs.Bounding.{joins_inside}
use Rattle.distance_laws.proofs.Least.{distance_to, distance_reached, distance_most}
use Rattle.distance_laws.proofs.PathWeights.{turned_weight, weight_most}
use Rattle.edges.specs.Around.{arc_edge, arc_head, arc_weight, Around}
use Rattle.waiting.specs.Last.{last_of, last_edge, vertex_before}
use Rattle.distance.specs.Trail.{IsTrail, home, over, HasTrail}
use Rattle.distance.specs.Shortest.{unreached, SaysDistance, nowhere, there, IsPathBack, Shortest}
use Rattle.distance.proofs.Trails.{trail_of_lem, one_trail}
use Rattle.distance.proofs.ArcEdges.{IsEdge, arc_edges, edge_arcs}
use Rattle.distance.proofs.SettledInvariant as settling

-- The last edge and the vertex before it are read from their number again.
last_edge_lem : (a u : ℕ) → last_edge (last_of (arc_edge a) u) ≡ arc_edge a
unfolding last_of last_edge arc_edge
last_edge_lem a u = omega arith

vertex_before_lem : (a u : ℕ) → vertex_before (last_of (arc_edge a) u) ≡ u
unfolding last_of vertex_before arc_edge
vertex_before_lem a u = omega arith

-- A trail of at most that many edges, which is a path back of that weight. The vertices on it have no longer trails, so that none stands on it twice.
record Traced (g : Graph) (last : List ℕ) (root v most weight : ℕ) : Type 0 where
  edges : List ℕ
  is : IsTrail last root edges v
  few : length edges ≤ most
  path : IsPathBack g root v edges weight
  passed : (x : ℕ) → x ∈ stops_from g v edges → HasTrail (suc (length edges)) last root x

module _ {g : Graph} {bounds arcs : List ℕ} (around : Around g (below (edge_count g)) bounds arcs) {root : ℕ} {dist last : List ℕ}
    (room : g.vertices ≤ length last) (s : settling.Settled g.vertices bounds arcs root dist last)
  where
    -- The root has the trail of no edge.
    traced_home : {v most : ℕ} → v ≡ root → Traced g last root v most (get_or dist v 0)
    unfolding total_weight sum_of stops_from
    traced_home q = record {
      edges = [];
      is = home q;
      few = omega arith;
      path = record {
        inside = λ e m. absurd (Memᴰ.not-nil m);
        leads = stay q;
        once = order.next (λ x m. absurd (Memᴰ.not-nil m)) order.none;
        weighs = rw q (sym s.root_zero);
      };
      passed = λ x m. record { edges = []; is = home (Memᴰ.eq_of_singleton m ∙ q); few = omega arith };
    }

    -- A vertex has the trail of the vertex before it, with its last edge.
    module _ {v u a most less : ℕ} (inside : v < g.vertices) (away : v ≡ root → ⊥) (edge : IsEdge g u a) (head : v ≡ arc_head a)
        (is_last : get_or last v 0 ≡ last_of (arc_edge a) u) (sum : get_or dist v 0 ≡ get_or dist u 0 + arc_weight a) (more : less < most)
        (t : Traced g last root u less (get_or dist u 0))
      where
        edges_inside : (e : ℕ) → e ∈ (arc_edge a ∷ t.edges) → e < edge_count g
        edges_inside e (Memᴰ.head q) = omega (arith, edge.inside)
        edges_inside e (Memᴰ.tail m) = t.path.inside e m

        joins : Joins g (arc_edge a) v u
        joins = joins_back (rw (sym head) at edge.joins)

        own : IsTrail last root (arc_edge a ∷ t.edges) v
        own = over {edges = t.edges} away (omega arith) (sym (ap last_edge is_last ∙ last_edge_lem a u)) (rw (ap vertex_before is_last ∙ vertex_before_lem a u) t.is)

        -- It does not stand on that trail, its own being longer.
        not_passed : (x : ℕ) → x ∈ stops_from g u t.edges → v ≡ x → ⊥
        not_passed x m q = longer (t.passed x m)
          where
            longer : HasTrail (suc (length t.edges)) last root x → ⊥
            longer p = omega (arith, p.few, ap length (one_trail own (rw (sym q) at p.is)))

        passed_over : (x : ℕ) → x ∈ (v ∷ stops_from g u t.edges) → HasTrail (suc (suc (length t.edges))) last root x
        passed_over x (Memᴰ.head q) = record { edges = arc_edge a ∷ t.edges; is = rw q own; few = omega arith }
        passed_over x (Memᴰ.tail m) = let p = t.passed x m in record { edges = p.edges; is = p.is; few = omega (arith, p.few) }

        traced_over : Traced g last root v most (get_or dist v 0)
        unfolding total_weight sum_of stops_from
        traced_over = record {
          edges = arc_edge a ∷ t.edges;
          is = own;
          few = omega (arith, t.few);
          path = record {
            inside = edges_inside;
            leads = step joins t.path.leads;
            once = rw (far_end_lem joins) (order.next not_passed t.path.once);
            weighs = omega (arith, edge.weighs, t.path.weighs);
          };
          passed = rw (far_end_lem joins) passed_over;
        }

    -- So has each vertex from which the last edges lead back.
    traced : {k v : ℕ} → v < g.vertices → settling.Back g.vertices bounds arcs root (λ _. ⊥) dist last k v → Traced g last root v k (get_or dist v 0)
    traced h (settling.home q) = traced_home q
    traced {v = v} h (settling.over {u = u} u_inside out arc head edge sum b less) =
        let t = traced u_inside b in
        dite (ℕ_discrete v root) traced_home (λ away. traced_over h away (arc_edges around u_inside arc) head edge sum less t)

    -- No walk over edges of the graph that is light enough to tell from none leads to a vertex at less than its distance.
    along : {path : List ℕ} {x v c : ℕ} → x < g.vertices → Walk g path x v → ((e : ℕ) → e ∈ path → e < edge_count g) → get_or dist x 0 ≤ c
        → c + total_weight g path < unreached → get_or dist v 0 ≤ c + total_weight g path
    unfolding total_weight sum_of
    along h (stay q) inside low light = rw (sym q) (omega arith)
    along {c = c} h (step {e = e} {path = path} {w = w} j walk) inside low light =
        let e_inside = inside e (Memᴰ.head refl) in
        let arc = edge_arcs around h e_inside j in
        let near = s.relaxed _ arc.arc h (omega arith) arc.at in
        let near_head : get_or dist w 0 ≤ c + weight_of g e = omega (arith, near, arc.weighs, ap (λ x. get_or dist x 0) arc.head) in
        omega (arith, along {c = c + weight_of g e} (joins_inside around.valid j) walk (λ f m. inside f (Memᴰ.tail m)) near_head (omega arith))

    module _ (start : root < g.vertices) where
      -- Where a walk leads, the vertex is reached, at no more than the walk's weight.
      walk_bounds : {path : List ℕ} {v : ℕ} → Walk g path root v → (get_or dist v 0 ≤ total_weight g path) × (get_or dist v 0 < unreached)
      walk_bounds {path} {v} walk =
          let short = shortened around.valid start walk in
          let most = weight_most around.valid short.path in
          let light : total_weight g short.path < unreached = omega (arith, most, short.few, around.valid.vertices_most) in
          let low = along {c = 0} start short.leads short.inside (omega (arith, s.root_zero)) (omega arith) in
          (omega (arith, short.light), omega arith)

      -- What stands for a vertex, and its trail where it is reached.
      trace : (v : ℕ) → v < g.vertices → get_or dist v 0 < unreached → (k : ℕ) × (k < g.vertices) × Traced g last root v k (get_or dist v 0)
      trace v h low = let (k, few, b) = s.reached v h low in (k, few, traced h b)

      -- The trail of a vertex reached is a walk, so that there is a distance, and no more than stands in the array.
      reached_most : (v : ℕ) → v < g.vertices → get_or dist v 0 < unreached → AtMost (distance_to g root v) (get_or dist v 0)
      reached_most v h low =
          let (k, few, t) = trace v h low in
          let m = distance_most around.valid start (walk_back t.path.leads) in
          record { value = m.value; is = m.is; low = omega (arith, m.low, turned_weight g t.edges, t.path.weighs) }

      says : (v : ℕ) → v < g.vertices → SaysDistance (get_or dist v 0) (distance_to g root v)
      says v h = go (distance_to g root v) refl
        where
          go : (x : Distance) → distance_to g root v ≡ x → SaysDistance (get_or dist v 0) (distance_to g root v)
          go none q =
              dite (ℕ_discrete (get_or dist v 0) unreached) (λ e. nowhere e q)
              (λ low. absurd (none-ne-some _ (sym q ∙ (reached_most v h (omega (arith, s.bounded v h))).is)))
          go (some d) q =
              let w = distance_reached g root v q in
              let b = walk_bounds w.leads in
              let m = reached_most v h b.1 in
              let same : m.value ≡ d = cc m.is in
              there b.1 (q ∙ ap some (omega (arith, b, m.low, w.weighs)))

      pub traced_all : Shortest g root dist last
      traced_all = record {
        distance = says;
        trail = λ v h low. let (k, few, t) = trace v h low in record { edges = t.edges; is = t.is; few = omega (arith, t.few) };
        path = λ v h low. let (k, few, t) = trace v h low in rw (trail_of_lem t.is (omega (arith, t.few))) t.path;
      }
