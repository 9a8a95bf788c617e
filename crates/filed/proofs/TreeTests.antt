-- The tests of the trees (34) as the code makes them: a run's edges against the start, one tree, all trees.
-- Assumes nothing.
use Prim.Native.Nat.{ℕ, ◌+◌, ◌-◌, ◌≤◌, ◌<◌}
use mathlib.Core.Path.{◌≡◌, sym, ap, ◌∙◌}
use mathlib.Core.Bool.{Bool, true, false, ◌&&◌}
use mathlib.Core.List.{List}
use native.Mathlib.Omega.{arith}
use borrow.Author.Tests.{eq-eqb, ne_eqb}
use Rattle.lists.specs.Count as Count
use Rattle.lists.specs.Lists.{all}
use Rattle.lists.proofs.AfterStore.{at_or_not}
use Rattle.lists.proofs.Below.{of_from, in_from, of_below, in_below}
use Rattle.lists.proofs.Every.{no_and, each_all, one_fails}
use Rattle.lists.proofs.Member.{in_map, of_map}
use Rattle.graph.specs.Graph.{Graph, one_end}
use Rattle.rules.specs.Cover.{Tree}
use Rattle.rules.specs.CoverBytes.{trees_in, start_in, entry_edge, tree_in, decode}
use Rattle.rules.specs.Labels.{Labels, joined, apart, merge_all}
use Rattle.rules.specs.CheckCover.{all_joined, tree_right, trees_right}
use Rattle.cover.specs.Runs.{run_edges}
use Rattle.filed.specs.Parents.{Stands, Spells, Shortened, Found}
use Rattle.filed.specs.Trees.{RunTaken, RunJoined}
use Rattle.filed.proofs.JoinedByParents.{short_none, short_then}

-- The edges of a run against the start, for which `home` was found to stand.
module _ (g : Graph) (c : List ℕ) (from to : ℕ) {start home : ℕ} {before after : List ℕ} (f : Found start before after home) where
  -- One that is not joined to it.
  pub run_apart : (k : ℕ) → from ≤ k → k < to → ((label : Labels) → Spells after label → label home ≡ label (one_end g (entry_edge c k)) → ⊥)
      → {last : List ℕ} → Shortened after last → RunJoined g c from to start before last false
  unfolding joined
  run_apart k h l d short =
      record {
        is = λ label w.
            sym (one_fails (λ e. joined label start (one_end g e)) (in_map (entry_edge c) (in_from from (to - from) h (omega arith)))
            (ne_eqb (label start) (label (one_end g (entry_edge c k))) (λ q. d label (f.short.spells label w) (f.same label w ∙ q))));
        short = short_then f.short short;
      }

  -- Each joined to it.
  pub run_together : ((label : Labels) → Spells after label → (k : ℕ) → from ≤ k → k < to → label home ≡ label (one_end g (entry_edge c k)))
      → {last : List ℕ} → Shortened after last → RunJoined g c from to start before last true
  unfolding joined
  run_together same short =
      record {
        is = λ label w. sym (each_all (λ e. joined label start (one_end g e)) (run_edges c from to) (λ e m. one label w e (of_map (entry_edge c) (Count.from from (to - from)) m)));
        short = short_then f.short short;
      }
    where
      one : (label : Labels) → Spells before label → (e : ℕ)
          → (k : ℕ) × (mathlib.Core.List.Memᴰ k (Count.from from (to - from))) × (e ≡ entry_edge c k) → joined label start (one_end g e) ≡ true
      one label w e (k, m, q) =
          let s = of_from from (to - from) m in
          rw q (eq-eqb (label start) (label (one_end g (entry_edge c k)))
          (sym (f.same label w) ∙ same label (f.short.spells label w) k (omega arith) (omega arith)))

-- The edges of the entries before i are joined to `home`, which stands for others.
pub record HeldSoFar (g : Graph) (c : List ℕ) (from home i : ℕ) (before after : List ℕ) : Type 0 where
  pub short : Shortened before after
  pub stands : Stands after home
  pub below : home < 256
  pub held : (label : Labels) → Spells before label → (k : ℕ) → from ≤ k → k < i → label home ≡ label (one_end g (entry_edge c k))

pub held_none : (g : Graph) (c : List ℕ) (from : ℕ) {start home : ℕ} {before after : List ℕ} → start < 256 → Found start before after home
    → HeldSoFar g c from home from after after
held_none g c from inside f =
    record { short = short_none f.short.parents; stands = f.stands; below = omega (arith, f.below); held = λ label w k h l. absurd (omega arith) }

-- Who stands for an end of entry i's edge was found.
module _ (g : Graph) (c : List ℕ) (from : ℕ) {home i r : ℕ} {before between after : List ℕ} (s : HeldSoFar g c from home i before between)
    (f : Found (one_end g (entry_edge c i)) between after r) where
  -- The same vertex.
  pub held_more : r ≡ home → HeldSoFar g c from home (i + 1) before after
  held_more q =
      record {
        short = short_then s.short f.short;
        stands = f.short.stand home s.below s.stands;
        below = s.below;
        held = λ label w k h l.
            at_or_not (λ x. label home ≡ label (one_end g (entry_edge c x))) i k
            (ap label (sym q) ∙ f.same label (s.short.spells label w))
            (λ d. s.held label w k h (omega arith));
      }

  -- Another one: the end is not joined to it.
  pub held_not : one_end g (entry_edge c i) < 256 → (r ≡ home → ⊥) → (label : Labels) → Spells before label → label home ≡ label (one_end g (entry_edge c i)) → ⊥
  held_not inside d label w q =
      let v = s.short.spells label w in
      d ((f.short.spells label v).once r home (omega (arith, f.below)) s.below f.stands (f.short.stand home s.below s.stands)
      (f.same label v ∙ sym q))

-- One tree, where nothing was joined.
module _ (g : Graph) (c : List ℕ) (j from to : ℕ) {before after : List ℕ} {r : Bool}
    (unjoined : Spells before apart) (taken : RunTaken g c from to before after r) where
  abbrev tree : Tree
  tree = record { start = start_in c j; edges = run_edges c from to }

  -- Its edges close a loop.
  pub tree_loop : r ≡ false → false ≡ tree_right g tree
  tree_loop q = sym (no_and (all_joined g tree) (sym (taken.free apart unjoined) ∙ q))

  -- They close none: whether they are joined to the start decides.
  pub tree_joined : r ≡ true → {s : Bool} {last : List ℕ} → RunJoined g c from to (start_in c j) after last s → s ≡ tree_right g tree
  unfolding all_joined
  tree_joined q {s} run =
      run.is (merge_all g apart (run_edges c from to)) (taken.labels apart unjoined q)
      ∙ ap (λ t. t && all (λ e. joined (merge_all g apart (run_edges c from to)) (start_in c j) (one_end g e)) (run_edges c from to))
      (sym q ∙ taken.free apart unjoined)

-- All trees: one that is not right, or each right.
module _ (g : Graph) (c : List ℕ) where
  pub tree_wrong : (j : ℕ) → j < trees_in c → tree_right g (tree_in c j) ≡ false → trees_right g (decode c) ≡ false
  unfolding trees_right decode
  tree_wrong j h q = one_fails (λ (t : Tree). tree_right g t) (in_map (tree_in c) (in_below (trees_in c) h)) q

  pub all_trees : ((j : ℕ) → j < trees_in c → tree_right g (tree_in c j) ≡ true) → trees_right g (decode c) ≡ true
  unfolding trees_right decode
  all_trees h =
      each_all (λ (t : Tree). tree_right g t) (decode c)
      (λ t m. let r = of_map (tree_in c) (Count.below (trees_in c)) m in ap (λ (s : Tree). tree_right g s) r.2 ∙ h r.0 (of_below (trees_in c) r.1))
