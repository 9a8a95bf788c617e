-- The check test by test, in the order of document 01: what each test that fails, and each that passes, makes of the answer.
-- Assumes nothing.
use Prim.Native.Nat.{ℕ, ◌≤◌, ◌<◌}
use mathlib.Core.Path.{◌≡◌, sym, ap, ◌∙◌}
use mathlib.Core.Bool.{true, false, ◌&&◌}
use mathlib.Core.List.{List, [], ◌∷◌}
use mathlib.Core.Option.{some, none}
use native.Mathlib.Omega.{arith}
use lib.ListN.{length}
use borrow.Author.Tests.{le-leb, lt-leb, eq-eqb, ne_eqb}
use Rattle.std.proofs.Common.{Result, Ok, Err}
use Rattle.graph.specs.Graph.{Graph, edge_count}
use Rattle.graph.proofs.Faults.{one_fault}
use Rattle.graph.specs.Fault.{fault_unless, first_fault, refused_or}
use Rattle.rules.specs.Cover.{Crews, heaviest}
use Rattle.rules.specs.CoverBytes.{cover_length, decode}
use Rattle.rules.specs.CheckCover.{starts_right, starts_below, entries_right, trees_right, vertices_covered, cover_fault}
use Rattle.rules.specs.Reply as reply
use Rattle.rules.specs.Questions.{Question, graph_in, crews_in, question_fault, check_fault, ask_check}
use Rattle.rules.proofs.Fields.{Bytes}
use Rattle.cover_laws.proofs.CheckQuestion.{yes_exactly_covers}
use Rattle.admit.specs.declared.refusal.Refusal.{Refusal}
use Rattle.filed.specs.Promise.{says, answer, trees_fault, CheckPromise}

-- The cover's bytes, for a graph and crews.
module _ (g : Graph) (crews : Crews) (c : List ℕ) where
  -- 31
  pub short_cover : length c < 4 → reply.number 31 ≡ answer g c (cover_fault g crews c)
  unfolding cover_fault first_fault fault_unless refused_or
  short_cover h = rw (lt-leb 4 (length c) h)

  module _ (h : 4 ≤ length c) where
    pub other_length : (length c ≡ cover_length c → ⊥) → reply.number 31 ≡ answer g c (cover_fault g crews c)
    unfolding cover_fault first_fault fault_unless refused_or
    other_length d = rw (le-leb 4 (length c) h, ne_eqb (length c) (cover_length c) d)

    module _ (q : length c ≡ cover_length c) where
      -- What is tried after the length.
      sized : answer g c (first_fault (fault_unless (starts_right crews c && starts_below g.vertices c) 32
          ∷ fault_unless (entries_right (edge_count g) c) 33 ∷ fault_unless (trees_right g (decode c)) 34 ∷ fault_unless (vertices_covered g (decode c)) 35 ∷ []))
          ≡ answer g c (cover_fault g crews c)
      unfolding cover_fault first_fault fault_unless refused_or
      sized = rw (le-leb 4 (length c) h, eq-eqb (length c) (cover_length c) q)

      -- 32
      pub other_starts : starts_right crews c ≡ false → reply.number 32 ≡ answer g c (cover_fault g crews c)
      unfolding first_fault fault_unless refused_or
      other_starts s = rw s at sized

      module _ (s : starts_right crews c ≡ true) where
        pub starts_above : starts_below g.vertices c ≡ false → reply.number 32 ≡ answer g c (cover_fault g crews c)
        unfolding first_fault fault_unless refused_or
        starts_above b = rw (s, b) at sized

        module _ (b : starts_below g.vertices c ≡ true) where
          -- 33
          pub entries_wrong : entries_right (edge_count g) c ≡ false → reply.number 33 ≡ answer g c (cover_fault g crews c)
          unfolding first_fault fault_unless refused_or
          entries_wrong t = rw (s, b, t) at sized

          -- The trees and the vertices decide.
          pub entries_pass : entries_right (edge_count g) c ≡ true → answer g c (trees_fault g c) ≡ answer g c (cover_fault g crews c)
          unfolding trees_fault first_fault fault_unless refused_or
          entries_pass t = rw (s, b, t) at sized

-- 34 and 35
module _ (g : Graph) (c : List ℕ) where
  pub trees_wrong : trees_right g (decode c) ≡ false → reply.number 34 ≡ answer g c (trees_fault g c)
  unfolding trees_fault first_fault fault_unless refused_or
  trees_wrong t = rw t

  module _ (t : trees_right g (decode c) ≡ true) where
    pub vertex_uncovered : vertices_covered g (decode c) ≡ false → reply.number 35 ≡ answer g c (trees_fault g c)
    unfolding trees_fault first_fault fault_unless refused_or
    vertex_uncovered u = rw (t, u)

    pub all_pass : vertices_covered g (decode c) ≡ true → reply.yes (heaviest g (decode c)) ≡ answer g c (trees_fault g c)
    unfolding trees_fault first_fault fault_unless refused_or
    all_pass u = rw (t, u)

-- The question: what every question brings comes first, then the cover's bytes.
module _ (q : Question) (c : List ℕ) where
  pub question_refused : {k : ℕ} → some k ≡ question_fault q → reply.number k ≡ ask_check q c
  unfolding ask_check check_fault first_fault refused_or
  question_refused e = rw (sym e)

  pub cover_decides : none ≡ question_fault q → {said : reply.Verdict} → said ≡ answer (graph_in q) c (cover_fault (graph_in q) (crews_in q) c) → said ≡ ask_check q c
  unfolding ask_check check_fault first_fault
  cover_decides e d = rw (sym e) (d ∙ ap (answer (graph_in q) c) (sym (one_fault (cover_fault (graph_in q) (crews_in q) c))))

-- Yes is no number.
not_number : {h k : ℕ} → reply.yes h ≡ reply.number k → ⊥
not_number q = let z : ◌≡◌ {A = ℕ} 0 1 = cc in omega arith

-- Only one answer says yes.
says_yes : (r : Result ℕ Refusal) (h : ℕ) → says r ≡ reply.yes h → r ≡ Ok h
says_yes (Ok k) h q = cc
says_yes (Err f) h q = absurd (not_number (sym q))

-- An answer by the rules is yes exactly to covers.
pub promised : (q : Question) (c : List ℕ) (r : Result ℕ Refusal) → Bytes c → says r ≡ ask_check q c → CheckPromise q c r
promised q c r bytes e =
    let exactly = yes_exactly_covers q c bytes in
    record {
      rule = e;
      exactly = λ h. (λ y. (exactly h).0 (sym e ∙ ap says y), λ f. says_yes r h (e ∙ (exactly h).1 f));
    }
