-- The question of the check, from the bytes of the graph and of the cover: the answer is yes with h exactly where the bytes are those of a
-- cover whose heaviest tree weighs h.
-- Assumes nothing.
use Prim.Native.Nat.{ℕ}
use mathlib.Core.Path.{◌≡◌, refl, sym, ap, ◌∙◌}
use mathlib.Core.List.Memᴰ
use mathlib.Core.List.{List, [], ◌∷◌}
use mathlib.Core.Logic.{◌↔◌}
use mathlib.Core.Option.{some, none}
use native.Mathlib.Omega.{arith}
use Rattle.graph.specs.Graph.{Graph}
use Rattle.graph.specs.Fault.{Fault, first_fault, refused_or}
use Rattle.rules.specs.Cover.{Crews, heaviest}
use Rattle.rules.specs.CoverBytes.{decode}
use Rattle.rules.specs.CheckCover.{cover_fault}
use Rattle.rules.specs.Reply.{Verdict, number}
use Rattle.rules.specs.Questions.{Question, graph_in, crews_in, question_fault, check_fault, ask_check}
use Rattle.rules.specs.Filed.{Filed}
use Rattle.rules.proofs.Fields.{Bytes}
use Rattle.graph.proofs.Faults.{quiet_each, first_quiet, none_quiet}
use Rattle.rules.proofs.Admitted.{admitted}
use Rattle.cover_laws.proofs.CheckedCovers.{heaviest_read, checked_covers}

-- An answer of yes says that nothing is refused, and what it says; an answer of a number, that it is refused.
pub yes_says : (f : Fault) (h k : ℕ) → refused_or number f (Verdict.yes k) ≡ Verdict.yes h → (f ≡ none) × (h ≡ k)
unfolding refused_or
yes_says none h k e = (refl, cc)
yes_says (some n) h k e = absurd (let z : ◌≡◌ {A = ℕ} 0 1 = cc in omega arith)

pub number_says : (f : Fault) (n k : ℕ) → refused_or number f (Verdict.yes k) ≡ number n → f ≡ some n
unfolding refused_or
number_says none n k e = absurd (let z : ◌≡◌ {A = ℕ} 0 1 = cc in omega arith)
number_says (some m) n k e = cc

-- Where nothing is refused, the answer stands.
quiet_says : {f : Fault} {a : Verdict} → f ≡ none → refused_or number f a ≡ a
unfolding refused_or
quiet_says e = rw e

-- The check answers yes with h exactly where the bytes are those of a cover whose heaviest tree weighs h.
pub yes_exactly_covers : (q : Question) (b : List ℕ) → Bytes b → (h : ℕ) → (ask_check q b ≡ Verdict.yes h) ↔ Filed q b h
unfolding ask_check check_fault
yes_exactly_covers q b bytes h = (one, other)
  where
    g : Graph
    g = graph_in q

    crews : Crews
    crews = crews_in q

    faults : List Fault
    faults = question_fault q ∷ cover_fault g crews b ∷ []

    one : refused_or number (first_fault faults) (Verdict.yes (heaviest g (decode b))) ≡ Verdict.yes h → Filed q b h
    one e =
        let says = yes_says (first_fault faults) h (heaviest g (decode b)) e in
        let quiet = quiet_each faults says.0 (Memᴰ.head refl) in
        let a = admitted q quiet in
        let r = (checked_covers g a.valid crews a.few b bytes).0 (quiet_each faults says.0 (Memᴰ.tail (Memᴰ.head refl))) in
        record {
          admitted = quiet;
          trees = r.0;
          cover = r.1;
          bytes = r.2;
          weighs = says.1 ∙ heaviest_read g a.valid crews a.few r.0 r.1 b r.2;
        }

    other : Filed q b h → refused_or number (first_fault faults) (Verdict.yes (heaviest g (decode b))) ≡ Verdict.yes h
    other f =
        let a = admitted q f.admitted in
        let cover_right = (checked_covers g a.valid crews a.few b bytes).1 (f.trees, f.cover, f.bytes) in
        quiet_says (first_quiet _ f.admitted (first_quiet _ cover_right none_quiet))
        ∙ ap Verdict.yes (heaviest_read g a.valid crews a.few f.trees f.cover b f.bytes ∙ sym f.weighs)
