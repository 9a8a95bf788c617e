-- What is grown and split over arcs is what the rules grow and split: where the arrays hold the edges around each vertex, over a list of
-- edges, the relation `SplitBelow` says what `grow_node` and `split_at` say. The depth that the rules are given suffices, since each level
-- leaves one vertex fewer to be passed.
-- Assumes nothing.
use Prim.Native.Nat.{ℕ, zero, suc, ◌+◌, ◌≤◌, ◌<◌}
use mathlib.Core.Path.{◌≡◌, refl, sym, ap, ◌∙◌}
use mathlib.Core.Bool.{true, false, not}
use mathlib.Core.List.Memᴰ
use mathlib.Core.List.{List, [], ◌∷◌, ◌++◌, map}
use mathlib.Core.Logic.{dite}
use native.Mathlib.Decide.{ℕ_discrete}
use native.Mathlib.Omega.{arith}
use borrow.Author.Tests.{eq-eqb, ne_eqb}
use lib.ListN.{length, length-set}
use Rattle.lists.specs.Lists.{any, filter, member}
use Rattle.lists.specs.Member.{◌∈◌}
use Rattle.lists.specs.Segments.{segment}
use Rattle.lists.proofs.Member.{of_filter}
use Rattle.graph.specs.Graph.{Graph, weight_of}
use Rattle.rules.specs.Walk.{total_weight}
use Rattle.rules.specs.Cover.{Tree}
use Rattle.rules.specs.Grow.{Grown, far_end, touches, leads_on, grow_children, grow_node}
use Rattle.rules.specs.Split.{reaches, settle, split_at}
use Rattle.split_laws.proofs.Weights.{weight_none, weight_cons, weight_append}
use Rattle.split_laws.proofs.Leads.{leads_on_lem}
use Rattle.split_laws.proofs.Filtered.{grow_filtered}
use Rattle.split_laws.proofs.Grown.{kept, node_grows}
use Rattle.split_laws.proofs.Deep.{unpassed, unpassed_more, unpassed_fewer, unpassed_below}
use Rattle.edges.specs.Around.{arc_of, arc_edge, arc_head, arc_weight, arcs_at, Around}
use Rattle.edges.proofs.Arcs.{arc_edge_lem, far_end_below, valid_arc_head, valid_arc_weight}
use Rattle.bunches.specs.Settles.{Load, load, Settles, alone, full, joins}
use Rattle.split.specs.SplitBelow.{unmarked, passing, piece_of, SplitBelow, done, past, child}
use Rattle.split.proofs.Unvisited.{marks_kept, marked_now}

-- The marks are those of the vertices passed.
pub record MarksAre (n : ℕ) (marks passed : List ℕ) : Type 0 where
  pub size : length marks ≡ n
  pub at : (v : ℕ) → v < n → unmarked marks v ≡ not (member v passed)

-- one vertex more
agrees_more : {n : ℕ} {marks passed : List ℕ} → MarksAre n marks passed → (v : ℕ) → v < n → MarksAre n (passing v marks) (v ∷ passed)
unfolding member any
agrees_more {marks = marks} {passed = passed} a v h =
    record {
      size = length-set marks v 1 ∙ a.size;
      at =
          λ u l.
          dite (ℕ_discrete u v)
          (λ e. rw (e, marked_now marks v (omega (arith, a.size)), eq-eqb v v refl))
          (λ e. rw (marks_kept marks v u e, ne_eqb u v e) (a.at u l));
    }

-- The edges weigh what they are said to weigh.
abbrev pub Weighs : Graph → Load → Type 0
Weighs g l = l.weight ≡ total_weight g l.edges

module _ (g : Graph) {H v : ℕ} where
  -- Settling by weights is settling by the rules.
  settles_as_rules : {bunch piece left : Load} {parts : List Tree} → Settles H v bunch piece parts left → Weighs g bunch → Weighs g piece
      → (settle g H v bunch.edges piece.edges ≡ record { parts = parts; left = left.edges }) × Weighs g left
  unfolding settle reaches
  settles_as_rules {bunch} {piece} (alone p) x y = (rw (sym y, p), x)
  settles_as_rules {bunch} {piece} (full p q) x y =
      let sum : total_weight g (bunch.edges ++ piece.edges) ≡ bunch.weight + piece.weight = weight_append g bunch.edges piece.edges ∙ rw (x, y) in
      (rw (sym y, sum, p, q), sym (weight_none g))
  settles_as_rules {bunch} {piece} (joins p q) x y =
      let sum : total_weight g (bunch.edges ++ piece.edges) ≡ bunch.weight + piece.weight = weight_append g bunch.edges piece.edges ∙ rw (x, y) in
      (rw (sym y, sum, p, q), sym sum)

-- What the rules grew is split into these parts and what is left, and the marks are those of the vertices passed then.
pub record Gives (g : Graph) (H v : ℕ) (bunch : Load) (parts : List Tree) (left : Load) (last : List ℕ) (grown : Grown) : Type 0 where
  pub agrees : MarksAre g.vertices last grown.passed
  pub splits : split_at g H v bunch.edges grown.branches ≡ record { parts = parts; left = left.edges }
  pub weighs : Weighs g left

module _ {g : Graph} {H v : ℕ} (node : ℕ → List ℕ → Grown) (e : ℕ) (es passed : List ℕ) {bunch left : Load} {last : List ℕ} where
  -- an edge that leads nowhere is passed by
  gives_past : {parts : List Tree} → leads_on g passed v e ≡ false → Gives g H v bunch parts left last (grow_children node g v es passed)
      → Gives g H v bunch parts left last (grow_children node g v (e ∷ es) passed)
  unfolding grow_children
  gives_past q x = rw q x

  -- an edge to a child: first the child's node, then its piece meets the bunch, then the edges after it
  gives_child : {below met : Load} {inner own later : List Tree} {middle : List ℕ} → leads_on g passed v e ≡ true
      → Gives g H (far_end g e v) (load [] 0) inner below middle (node (far_end g e v) passed)
      → settle g H v bunch.edges (e ∷ below.edges) ≡ record { parts = own; left = met.edges }
      → Gives g H v met later left last (grow_children node g v es (node (far_end g e v) passed).passed)
      → Gives g H v bunch (inner ++ (own ++ later)) left last (grow_children node g v (e ∷ es) passed)
  unfolding grow_children split_at
  gives_child q x met y = rw q (record { agrees = y.agrees; splits = rw (x.splits, met, y.splits); weighs = y.weighs })

-- The arc is that of e, an edge of the list, at its end v.
record IsArc (g : Graph) (edges : List ℕ) (v e arc : ℕ) : Type 0 where
  is : arc ≡ arc_of g v e
  known : e ∈ edges
  at_v : touches g v e ≡ true

module _ {g : Graph} {edges bounds arcs : List ℕ} (around : Around g edges bounds arcs) {v e arc : ℕ} (x : IsArc g edges v e arc) where
  edge_fits : e < 65536
  edge_fits = omega (arith, around.inside e x.known, around.valid.edges_most)

  -- the arc holds its edge
  head_is : arc_head arc ≡ far_end g e v
  head_is = ap arc_head x.is ∙ valid_arc_head around.valid v e edge_fits

  edge_is : arc_edge arc ≡ e
  edge_is = ap arc_edge x.is ∙ arc_edge_lem g v e edge_fits

  weight_is : arc_weight arc ≡ weight_of g e
  weight_is = ap arc_weight x.is ∙ valid_arc_weight around.valid v e edge_fits

  -- it leads on where its head has no mark
  leads_same : {marks passed : List ℕ} → MarksAre g.vertices marks passed → leads_on g passed v e ≡ unmarked marks (arc_head arc)
  unfolding leads_on touches
  leads_same a = rw (x.at_v, head_is) (sym (a.at (far_end g e v) (far_end_below around.valid v e)))

  -- with its edge, what is left below its head weighs what it is said to weigh
  piece_weighs : (below : Load) → Weighs g below → Weighs g (piece_of arc below)
  piece_weighs below w = rw (edge_is, weight_is, weight_cons) (ap (λ (n : ℕ). weight_of g e + n) w)

-- The rules' node, where it is enough to look at the edges around v.
node_around : (g : Graph) (edges : List ℕ) (depth v : ℕ) (passed : List ℕ)
    → grow_node (suc depth) g edges v passed ≡ grow_children (grow_node depth g edges) g v (filter (touches g v) edges) (v ∷ passed)
unfolding grow_node
node_around g edges depth v passed = grow_filtered (grow_node depth g edges) g v (touches g v) fails edges (v ∷ passed)
  where
    fails : (e : ℕ) (passed : List ℕ) → touches g v e ≡ false → leads_on g passed v e ≡ false
    fails e passed q = unfold leads_on touches in rw q

-- The arcs are those of these edges around v.
pub record AreArcs (g : Graph) (edges : List ℕ) (v : ℕ) (es rest : List ℕ) : Type 0 where
  pub are : rest ≡ map (arc_of g v) es
  pub around : (e : ℕ) → e ∈ es → (e ∈ edges) × (touches g v e ≡ true)

module _ {g : Graph} {edges : List ℕ} {v : ℕ} where
  first_arc : {e arc : ℕ} {es rest : List ℕ} → AreArcs g edges v (e ∷ es) (arc ∷ rest) → IsArc g edges v e arc
  first_arc {e} x = let k = x.around e (Memᴰ.head refl) in record { is = let q = x.are in cc; known = k.0; at_v = k.1 }

  later_arcs : {e arc : ℕ} {es rest : List ℕ} → AreArcs g edges v (e ∷ es) (arc ∷ rest) → AreArcs g edges v es rest
  later_arcs x = record { are = let q = x.are in cc; around = λ f m. x.around f (Memᴰ.tail m) }

  -- there are as many arcs as edges
  no_edge : {arc : ℕ} {rest : List ℕ} → AreArcs g edges v [] (arc ∷ rest) → ⊥
  no_edge x = let q = x.are in let z : ◌≡◌ {A = ℕ} 0 1 = cc in omega arith

  no_arc : {e : ℕ} {es : List ℕ} → AreArcs g edges v (e ∷ es) [] → ⊥
  no_arc x = let q = x.are in let z : ◌≡◌ {A = ℕ} 0 1 = cc in omega arith

module _ {g : Graph} {edges bounds arcs : List ℕ} (around : Around g edges bounds arcs) where
  all_arcs : {v : ℕ} → v < g.vertices → AreArcs g edges v (filter (touches g v) edges) (segment bounds arcs v)
  unfolding arcs_at
  all_arcs {v} h = record { are = around.are v h; around = λ e m. of_filter (touches g v) edges m }

  below_as_rules : {H v : ℕ} {rest marks last : List ℕ} {bunch left : Load} {parts : List Tree} → SplitBelow bounds arcs H v rest marks bunch parts left last
      → (es : List ℕ) → AreArcs g edges v es rest → {passed : List ℕ} → MarksAre g.vertices marks passed
      → (depth : ℕ) → unpassed g passed ≤ depth → Weighs g bunch
      → Gives g H v bunch parts left last (grow_children (grow_node depth g edges) g v es passed)
  unfolding grow_children split_at
  below_as_rules done [] k a depth l w = record { agrees = a; splits = refl; weighs = w }
  below_as_rules done (e ∷ es) k a depth l w = absurd (no_arc k)
  below_as_rules (past p x) [] k a depth l w = absurd (no_edge k)
  below_as_rules (past p x) (e ∷ es) k {passed} a depth l w =
      gives_past (grow_node depth g edges) e es passed (leads_same around (first_arc k) a ∙ p) (below_as_rules x es (later_arcs k) a depth l w)
  below_as_rules (child p x s y) [] k a depth l w = absurd (no_edge k)
  below_as_rules (child {v = v} p x s y) (e ∷ es) k {passed} a zero l w =
      let on = leads_on_lem {g = g} passed v e (leads_same around (first_arc k) a ∙ p) in
      absurd (omega (arith, unpassed_fewer g (far_end g e v) passed (far_end_below around.valid v e) on.1))
  below_as_rules {H} (child {v = v} {arc = arc} {marks = marks} {middle = middle} {below = below} {inner = inner} p x s y) (e ∷ es) k {passed} a (suc depth) l w =
      let i = first_arc k in
      let h : ℕ = arc_head arc in
      let c : ℕ = far_end g e v in
      let head : arc_head arc ≡ c = head_is around i in
      let inside : h < g.vertices = rw head (far_end_below around.valid v e) in
      let leads : leads_on g passed v e ≡ true = leads_same around i a ∙ p in
      let deeper : unpassed g (h ∷ passed) < unpassed g passed = rw head (unpassed_fewer g c passed (far_end_below around.valid v e) (leads_on_lem {g = g} passed v e leads).1) in
      let at_head : Gives g H h (load [] 0) inner below middle (grow_node (suc depth) g edges h passed) =
      rw (node_around g edges depth h passed)
      (below_as_rules x (filter (touches g h) edges) (all_arcs inside) (agrees_more a h inside) depth (omega arith) (sym (weight_none g)))
      in
      let grown : Grown = grow_node (suc depth) g edges c passed in
      let first : Gives g H c (load [] 0) inner below middle grown = rw head at at_head in
      let met = settles_as_rules g s w (piece_weighs around i below first.weighs) in
      let no_more : unpassed g grown.passed ≤ unpassed g passed = unpassed_more g passed grown.passed (λ u m. kept (node_grows g edges (suc depth) c passed) u (Memᴰ.tail m)) in
      gives_child (grow_node (suc depth) g edges) e es passed leads first (rw (edge_is around i) at met.0)
      (below_as_rules y es (later_arcs k) first.agrees (suc depth) (omega arith) met.1)

  -- The node of a root.
  pub node_as_rules : {H v : ℕ} {marks last : List ℕ} {left : Load} {parts : List Tree}
      → SplitBelow bounds arcs H v (segment bounds arcs v) (passing v marks) (load [] 0) parts left last → v < g.vertices
      → {passed : List ℕ} → MarksAre g.vertices marks passed → Gives g H v (load [] 0) parts left last (grow_node g.vertices g edges v passed)
  node_as_rules {H} {v} {marks} {last} {left} {parts} x inside {passed} a = go g.vertices refl
    where
      go : (n : ℕ) → n ≡ g.vertices → Gives g H v (load [] 0) parts left last (grow_node n g edges v passed)
      go zero q = absurd (omega arith)
      go (suc depth) q =
          rw (node_around g edges depth v passed)
          (below_as_rules x (filter (touches g v) edges) (all_arcs inside) (agrees_more a v inside) depth (omega (arith, unpassed_below g v passed inside)) (sym (weight_none g)))
