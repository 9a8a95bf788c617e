-- A question of which nothing is refused is about a valid graph, by crews that are 1 to 32 and fit it.
-- Assumes nothing.
use Prim.Native.Nat.{◌≤◌}
use mathlib.Core.Path.{◌≡◌, refl}
use mathlib.Core.List.Memᴰ
use mathlib.Core.List.{List, [], ◌∷◌}
use mathlib.Core.Option.{none}
use native.Mathlib.Omega.{arith}
use Rattle.graph.specs.Bytes.{sheet_graph, graph_of}
use Rattle.graph.specs.Fault.{Fault}
use Rattle.graph.specs.Valid.{Valid}
use Rattle.graph.proofs.Faults.{quiet_each}
use Rattle.graph.proofs.Surfaced.{surfaced_valid}
use Rattle.rules.specs.Questions.{Question, listed, graph_in, crews_in, sheet_fault, surface_fault, crew_fault, van_fault, question_fault}
use Rattle.rules.specs.Fit.{crew_count, CrewsFit}
use Rattle.rules.proofs.SheetRight.{sheet_right}
use Rattle.rules.proofs.Surfaces.{weights_light}
use Rattle.rules.proofs.CrewsRight.{crew_count_lem, quiet_crews, crews_fit}

pub record Admitted (q : Question) : Type 0 where
  pub valid : Valid (graph_in q)
  pub few : crew_count (crews_in q) ≤ 32
  pub fit : CrewsFit (graph_in q) (crews_in q)

pub admitted : (q : Question) → question_fault q ≡ none → Admitted q
unfolding question_fault graph_of
admitted q e =
    let n = (graph_in q).vertices in
    let crews : Fault = crew_fault q.kind q.k q.vans n in
    let faults : List Fault = sheet_fault q.sheet ∷ surface_fault q.sheet q.classes ∷ crews ∷ van_fault q.kind q.k q.vans n ∷ [] in
    let sheet = (sheet_right q.sheet).0 (quiet_each faults e (Memᴰ.head refl)) in
    let light = weights_light q (quiet_each faults e (Memᴰ.tail (Memᴰ.head refl))) in
    let number_right = quiet_each faults e (Memᴰ.tail (Memᴰ.tail (Memᴰ.head refl))) in
    let vans_right = quiet_each faults e (Memᴰ.tail (Memᴰ.tail (Memᴰ.tail (Memᴰ.head refl)))) in
    record {
      valid = surfaced_valid (sheet_graph q.sheet) (listed q.classes) sheet.valid light;
      few = omega (arith, crew_count_lem q.kind q.k q.vans, (quiet_crews q.kind q.k q.vans n number_right).1);
      fit = crews_fit (graph_in q) q.kind q.k q.vans number_right vans_right;
    }
