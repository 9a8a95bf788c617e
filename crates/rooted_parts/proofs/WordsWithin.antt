-- The words of the vertices have the roots within the limit, by the table of distances. What stands behind the words stays as it came.
-- Assumes nothing.
use Prim.Native.Nat.{ℕ, ◌+◌}
use mathlib.Core.Path.{◌≡◌, ap, ◌∙◌}
use mathlib.Core.List.{List, ◌++◌}
use native.Mathlib.Omega.{arith}
use lib.Dec.{leb}
use lib.ListN.{length, take, drop, replicate, length-replicate, get_or-append}
use lib.Seq.{get_or-take, length-take-le}
use Rattle.lists.proofs.OnlyFirst.{only_front}
use Rattle.lists.proofs.Zeros.{zeros_at}
use Rattle.graph.specs.Graph.{Graph}
use Rattle.distance_table.specs.Tabled.{distance_in}
use Rattle.distance_table.proofs.SameRows.{rows_alike}
use Rattle.near.specs.Bits.{bit_at}
use Rattle.near.specs.Vertices.{NearAsked, NearVertices}
use Rattle.rooted_state.specs.Prepared.{LimitReady}
use Rattle.rooted_parts.specs.Near.{WithinAsked, WithinDone}
use Rattle.rooted_state.proofs.NearMeansMayGo.{says_within}

-- 256 words of zero are enough.
pub within_asked : {g : Graph} {roots : List ℕ} {limit : ℕ} {distances : List ℕ} → LimitReady g roots limit distances → WithinAsked g roots limit distances (replicate 256 0)
within_asked ready =
    record {
      ready = ready;
      room = omega (arith, ready.given.valid.vertices_most, length-replicate {A = ℕ} 256 0);
      zeros = λ v _. zeros_at 256 v;
    }

module _ {g : Graph} {roots : List ℕ} {limit : ℕ} {distances words : List ℕ} (a : WithinAsked g roots limit distances words) where
  -- The words of the vertices are lent, which stand first.
  module _ (n : ℕ) (n_is : n ≡ g.vertices) where
    pub lent : length (take n words) ≡ n
    lent = length-take-le n words (omega (arith, a.room))

    pub front_asked : NearAsked (length roots) distances (take n words) roots
    front_asked =
        record {
          roots_few = a.ready.given.few;
          roots_given = omega arith;
          room = rw (lent, n_is) a.ready.distances_are.room;
          zeros = λ v h. get_or-take n words v 0 (omega (arith, lent)) ∙ a.zeros v (omega (arith, lent, a.room));
          same_rows =
              λ j h q v l.
              rw (lent, n_is) (rows_alike a.ready.distances_are j (j + 1) (omega arith) h q v (omega (arith, lent)));
        }

    pub front_near : (front : List ℕ) → NearVertices (length roots) limit distances (take n words) front → WithinDone g roots limit words (front ++ drop n words)
    front_near front near =
        record {
          near =
              record {
                each =
                    λ v j h l.
                    ap (bit_at j) (get_or-append front (drop n words) 0 v (omega (arith, near.size, lent)))
                    ∙ near.each v j (omega (arith, lent)) l
                    ∙ ap (λ n. leb (distance_in distances n v j) limit) (lent ∙ n_is)
                    ∙ says_within limit _ _ (omega (arith, a.ready.limit_most)) (a.ready.distances_are.each v j h l);
              };
          rest = rw (← n_is) (only_front n front words (near.size ∙ lent) (omega (arith, a.room)));
        }
