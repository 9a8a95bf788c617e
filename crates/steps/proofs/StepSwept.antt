-- One step of the pass settles the child's piece as the rules do. At each vertex the pass keeps the weight of what is left there, and whether the
-- test holds at an end of one of its edges; of each part it says whether the test holds at one of its vertices.
-- Assumes nothing.
use Prim.Native.Nat.{ℕ, ◌+◌, ◌<◌}
use mathlib.Core.Path.{◌≡◌, refl, sym, ap, ◌∙◌}
use mathlib.Core.Bool.{Bool, true, false, cond, ◌||◌, or_assoc, or_comm, or_self_left}
use mathlib.Core.List.{List, [], ◌∷◌, ◌++◌, map, append-nil}
use native.Mathlib.Omega.{arith}
use lib.ListN.{length, get_or, set, length-set}
use lib.Seq.{get_or-set_same, get_or-set_other}
use Rattle.lists.specs.Lists.{any}
use Rattle.lists.proofs.AnyOn.{any_on}
use Rattle.graph.specs.Graph.{Graph}
use Rattle.rules.specs.Cover.{Tree}
use Rattle.rules.specs.Split.{reaches_weight, part_at}
use Rattle.edges.specs.Around.{arc_edge, arc_head, arc_weight}
use Rattle.bunches.specs.Settles.{Load, load, Settles, alone, full, joins}
use Rattle.split.specs.SplitBelow.{piece_of}
use Rattle.steps.specs.Steps.{step_of, step_child, step_above, step_weight}
use Rattle.steps.specs.Touched.{Sweep, touches_piece, sweep_step}
use Rattle.steps.proofs.PartTouched.{or_swap, edge_touched, part_touched, part_by_edges}

-- A step holds its child, the vertex above and the weight.
module _ (c a w : ℕ) (child_fits : c < 65536) (above_fits : a < 65536) where
  pub step_child_lem : step_child (step_of c a w) ≡ c
  unfolding arc_edge step_of
  step_child_lem = omega arith

  pub step_above_lem : step_above (step_of c a w) ≡ a
  unfolding arc_head step_of
  step_above_lem = omega arith

  step_weight_lem : step_weight (step_of c a w) ≡ w
  unfolding arc_weight step_of
  step_weight_lem = omega arith

-- There is a place for each of 256 vertices.
pub record Sized (s : Sweep) : Type 0 where
  pub left : length s.left ≡ 256
  pub touched : length s.touched ≡ 256

-- What the pass keeps at a vertex, and what is to be kept of the edges left there.
abbrev pub kept_at : Sweep → ℕ → ℕ × Bool
kept_at s u = (get_or s.left u 0, get_or s.touched u false)

abbrev pub kept_of : Graph → (ℕ → Bool) → Load → ℕ × Bool
kept_of g test l = (l.weight, any (edge_touched g test) l.edges)

-- One step settles the child's piece: the parts split off at v, and what is left there then.
pub record Stepped (g : Graph) (test : ℕ → Bool) (H v : ℕ) (bunch piece : Load) (s t : Sweep) : Type 0 where
  pub own : List Tree
  pub met : Load
  pub settles : Settles H v bunch piece own met
  pub at_v : kept_at t v ≡ kept_of g test met
  pub more : t.parts ≡ s.parts ++ map (part_touched g test) own
  pub sized : Sized t
  pub others : (u : ℕ) → (u ≡ v → ⊥) → kept_at t u ≡ kept_at s u

-- Where two values are stored at v they are kept there, and nothing changes at the others.
module _ {s : Sweep} (sized : Sized s) {v : ℕ} (inside : v < 256) (w : ℕ) (b : Bool) (parts : List Bool) where
  abbrev stored : Sweep
  stored = record { left = set s.left v w; touched = set s.touched v b; parts = parts }

  stored_sized : Sized stored
  stored_sized =
      record { left = length-set s.left v w ∙ sized.left; touched = length-set s.touched v b ∙ sized.touched }

  stored_at : kept_at stored v ≡ (w, b)
  stored_at =
      rw (get_or-set_same s.left v w 0 (omega (arith, sized.left)), get_or-set_same s.touched v b false (omega (arith, sized.touched)))

  stored_others : (u : ℕ) → (u ≡ v → ⊥) → kept_at stored u ≡ kept_at s u
  stored_others u e = rw (get_or-set_other s.left v u w 0 e, get_or-set_other s.touched v u b false e)

-- The bunch at v, and the piece of a child along an arc: its edge, whose ends are v and the child, and what is left below the child.
module _ (g : Graph) (test : ℕ → Bool) (H v : ℕ) (bunch : Load) (arc : ℕ) (below : Load)
    (ends : edge_touched g test (arc_edge arc) ≡ test v || test (arc_head arc)) where
  abbrev piece : Load
  piece = piece_of arc below

  abbrev of_bunch : Bool
  of_bunch = any (edge_touched g test) bunch.edges

  abbrev of_piece : Bool
  of_piece = any (edge_touched g test) piece.edges

  both_touched : any (edge_touched g test) (bunch.edges ++ piece.edges) ≡ of_bunch || of_piece
  both_touched = any_on (edge_touched g test) bunch.edges piece.edges

  -- v is a vertex of the piece, and adds nothing to its test as a part's start.
  v_adds_nothing : test v || of_piece ≡ of_piece
  unfolding any
  v_adds_nothing =
      let rest : Bool = any (edge_touched g test) below.edges in
      rw ends (sym (or_assoc (test v) (test v || test (arc_head arc)) rest) ∙ ap (λ t. t || rest) (or_self_left (test v) (test (arc_head arc))))

  alone_touched : part_touched g test (part_at v piece.edges) ≡ of_piece
  alone_touched = part_by_edges g test v piece.edges ∙ v_adds_nothing

  full_touched : part_touched g test (part_at v (bunch.edges ++ piece.edges)) ≡ of_bunch || of_piece
  full_touched =
      part_by_edges g test v (bunch.edges ++ piece.edges)
      ∙ ap (λ t. test v || t) both_touched
      ∙ or_swap (test v) of_bunch of_piece
      ∙ ap (λ t. of_bunch || t) v_adds_nothing

  module _ (s : Sweep) (sized : Sized s) (inside : v < 256) (at_v : kept_at s v ≡ kept_of g test bunch) where
    -- by the two tests of weights
    by_weights : (a b : Bool) → reaches_weight H piece.weight ≡ a → reaches_weight H (bunch.weight + piece.weight) ≡ b
        → Stepped g test H v bunch piece s
        (cond a (record { left = s.left; touched = s.touched; parts = s.parts ++ (of_piece ∷ []) })
        (cond b (record { left = set s.left v 0; touched = set s.touched v false; parts = s.parts ++ ((of_bunch || of_piece) ∷ []) })
        (record { left = set s.left v (bunch.weight + piece.weight); touched = set s.touched v (of_bunch || of_piece); parts = s.parts })))
    unfolding any
    by_weights true b p q =
        record {
          own = part_at v piece.edges ∷ [];
          met = bunch;
          settles = alone p;
          at_v = at_v;
          more = ap (λ t. s.parts ++ (t ∷ [])) (sym alone_touched);
          sized = record { left = sized.left; touched = sized.touched };
          others = λ u e. refl;
        }
    by_weights false true p q =
        let parts : List Bool = s.parts ++ ((of_bunch || of_piece) ∷ []) in
        record {
          own = part_at v (bunch.edges ++ piece.edges) ∷ [];
          met = load [] 0;
          settles = full p q;
          at_v = stored_at sized inside 0 false parts;
          more = ap (λ t. s.parts ++ (t ∷ [])) (sym full_touched);
          sized = stored_sized sized inside 0 false parts;
          others = stored_others sized inside 0 false parts;
        }
    by_weights false false p q =
        let w : ℕ = bunch.weight + piece.weight in
        record {
          own = [];
          met = load (bunch.edges ++ piece.edges) w;
          settles = joins p q;
          at_v = stored_at sized inside w (of_bunch || of_piece) s.parts ∙ ap (λ (t : Bool). (w, t)) (sym both_touched);
          more = sym (append-nil s.parts);
          sized = stored_sized sized inside w (of_bunch || of_piece) s.parts;
          others = stored_others sized inside w (of_bunch || of_piece) s.parts;
        }

    module _ (child_inside : arc_head arc < 256) (at_child : kept_at s (arc_head arc) ≡ kept_of g test below) where
      abbrev step : ℕ
      step = step_of (arc_head arc) v (arc_weight arc)

      child_is : step_child step ≡ arc_head arc
      child_is = step_child_lem (arc_head arc) v (arc_weight arc) (omega arith) (omega arith)

      above_is : step_above step ≡ v
      above_is = step_above_lem (arc_head arc) v (arc_weight arc) (omega arith) (omega arith)

      weight_is : step_weight step ≡ arc_weight arc
      weight_is = step_weight_lem (arc_head arc) v (arc_weight arc) (omega arith) (omega arith)

      -- the test at the piece, by what is kept at the child
      piece_touched : touches_piece test step s ≡ of_piece
      unfolding touches_piece any
      piece_touched =
          let rest : Bool = any (edge_touched g test) below.edges in
          let kept : get_or s.touched (arc_head arc) false ≡ rest = ap (λ (k : ℕ × Bool). k.1) at_child in
          rw (child_is, above_is, ends, kept)
          (or_comm rest (test (arc_head arc) || test v) ∙ ap (λ t. t || rest) (or_comm (test (arc_head arc)) (test v)))

      pub stepped : Stepped g test H v bunch piece s (sweep_step H test step s)
      unfolding sweep_step
      stepped =
          let below_left : get_or s.left (arc_head arc) 0 ≡ below.weight = ap (λ (k : ℕ × Bool). k.0) at_child in
          let left : get_or s.left v 0 ≡ bunch.weight = ap (λ (k : ℕ × Bool). k.0) at_v in
          let touched : get_or s.touched v false ≡ of_bunch = ap (λ (k : ℕ × Bool). k.1) at_v in
          rw (piece_touched, child_is, above_is, weight_is, below_left, left, touched)
          (by_weights (reaches_weight H piece.weight) (reaches_weight H (bunch.weight + piece.weight)) refl refl)
