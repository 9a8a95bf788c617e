-- The words of the vertices: one root's bit, or the bits of a run of roots, added to all of them, and one root after the other.
-- Assumes nothing.
use Prim.Native.Nat.{ℕ, zero, suc, ◌+◌, ◌*◌, ◌-◌, ◌≤◌, ◌<◌}
use mathlib.Core.Path.{◌≡◌, refl, ap, ◌∙◌}
use mathlib.Core.Bool.{Bool, cond}
use mathlib.Core.List.{List}
use native.Mathlib.Omega.{arith}
use lib.Dec.{leb}
use lib.ListN.{length, get_or, take, drop, set}
use Rattle.lists.proofs.AfterStore.{at_or_not}
use Rattle.lists.proofs.SetUpTo.{SetUpTo, set_more}
use Rattle.distance_table.specs.Tabled.{distance_in}
use Rattle.distance_table.proofs.RowPlaces.{part_at}
use Rattle.near.specs.Vertices.{RootAsked, RootAdded, RunFound, with_run, RunAsked, RunAdded, NearAsked, NearVertices}
use Rattle.near.proofs.BitsMade.{Gathering, gather_none, gather_fits, gather_more, gather_run, gather_all}

-- The word of vertex v with one root more.
abbrev pub word_with : ℕ → List ℕ → List ℕ → ℕ → ℕ
word_with limit row near v = 2 * get_or near v 0 + cond (leb (get_or row v 0) limit) 1 0

-- The word of vertex v with a run of r roots more.
abbrev pub word_with_run : ℕ → ℕ → List ℕ → List ℕ → ℕ → ℕ
word_with_run r limit row near v = with_run r (leb (get_or row v 0) limit) (get_or near v 0)

-- The root is added to the words one after the other: to the next,
module _ (limit : ℕ) (row : List ℕ) {v : ℕ} {before after : List ℕ} (m : SetUpTo (word_with limit row before) v before after) where
  pub root_more : {x : ℕ} → v < length before → x ≡ word_with limit row after v → SetUpTo (word_with limit row before) (v + 1) before (set after v x)
  root_more h q = set_more m (omega (arith, m.size)) (q ∙ ap (λ w. 2 * w + cond (leb (get_or row v 0) limit) 1 0) (m.rest v (omega arith)))

  -- and to all.
  pub root_all : length before ≤ v → RootAdded limit row before after
  root_all h = record { size = m.size; each = λ u l. m.done u (omega arith) }

-- A run of roots likewise.
module _ (r limit : ℕ) (row : List ℕ) {v : ℕ} {before after : List ℕ} (m : SetUpTo (word_with_run r limit row before) v before after) where
  pub run_more : {x : ℕ} → v < length before → x ≡ word_with_run r limit row after v → SetUpTo (word_with_run r limit row before) (v + 1) before (set after v x)
  run_more h q = set_more m (omega (arith, m.size)) (q ∙ ap (with_run r (leb (get_or row v 0) limit)) (m.rest v (omega arith)))

  pub run_all : length before ≤ v → RunAdded r limit row before after
  run_all h = record { size = m.size; each = λ u l. m.done u (omega arith) }

-- A run is found from its end: with the root before it, where that is at the same vertex.
module _ {roots : List ℕ} {to : ℕ} where
  pub run_found : RunFound roots to to
  run_found = record { within = omega arith; same = λ i h l. absurd (omega arith) }

  pub run_back : {from : ℕ} → RunFound roots to from → 0 < from → get_or roots (from - 1) 0 ≡ get_or roots (from - 1 + 1) 0 → RunFound roots to (from - 1)
  run_back {from} f some q =
      record {
        within = omega (arith, f.within);
        same =
            λ i h l.
            at_or_not (λ i. get_or roots i 0 ≡ get_or roots (i + 1) 0) (from - 1) i q (λ other. f.same i (omega arith) l);
      }

-- What each place of a run has in common with the next, all have in common with the last.
run_agrees : (f : ℕ → ℕ) (from to : ℕ) → ((i : ℕ) → from ≤ i → i < to → f i ≡ f (i + 1)) → (d i : ℕ) → from ≤ i → i + d ≡ to → f i ≡ f to
run_agrees f from to step zero i h q = ap f (omega arith)
run_agrees f from to step (suc d) i h q = step i h (omega arith) ∙ run_agrees f from to step d (i + 1) (omega arith) (omega arith)

-- The roots from j on are added to the word of each vertex.
pub record RootsAdding (k limit : ℕ) (distances : List ℕ) (j : ℕ) (before after : List ℕ) : Type 0 where
  pub within : j ≤ k
  pub size : length after ≡ length before
  pub each : (v : ℕ) → v < length before → Gathering k (λ i. leb (distance_in distances (length before) v i) limit) j (get_or after v 0)

-- A row is lent, whose size is said in another way.
lent_at : (distances : List ℕ) {n size m : ℕ} → n ≡ m → size ≡ n → (j v : ℕ) → v < m → get_or (take size (drop (j * n) distances)) v 0 ≡ distance_in distances m v j
lent_at distances {n} {size} n_is same j v h = part_at (j * n) size distances v (omega arith) ∙ ap (λ x. distance_in distances x v j) n_is

module _ {k limit : ℕ} {distances : List ℕ} where
  pub roots_none : {before roots : List ℕ} → NearAsked k distances before roots → RootsAdding k limit distances k before before
  roots_none asked = record { within = omega arith; size = refl; each = λ v h. rw (asked.zeros v h) gather_none }

  module _ {j : ℕ} {before after : List ℕ} (m : RootsAdding k limit distances j before after) (some : 0 < j) where
    pub root_asked : {row : List ℕ} → k ≤ 32 → length after ≤ length row → RootAsked row after
    root_asked few room = record { room = room; low = λ v h. gather_fits (m.each v (omega (arith, m.size))) 1 some few }

    pub run_asked : {row : List ℕ} (r : ℕ) → r ≤ j → k ≤ 32 → length after ≤ length row → RunAsked r row after
    run_asked r h few room =
        record { few = omega (arith, m.within); room = room; low = λ v l. gather_fits (m.each v (omega (arith, m.size))) r h few }

    module _ {n size : ℕ} {next : List ℕ} (n_is : n ≡ length before) (same : size ≡ n) where
      -- One root more, the one before.
      pub roots_more : RootAdded limit (take size (drop ((j - 1) * n) distances)) after next → RootsAdding k limit distances (j - 1) before next
      roots_more added =
          record {
            within = omega (arith, m.within);
            size = added.size ∙ m.size;
            each =
                λ v h.
                let word : get_or next v 0 ≡ 2 * get_or after v 0 + cond (leb (distance_in distances (length before) v (j - 1)) limit) 1 0 =
                added.each v (omega (arith, m.size)) ∙ ap (λ d. 2 * get_or after v 0 + cond (leb d limit) 1 0) (lent_at distances n_is same (j - 1) v h) in
                rw word (gather_more (m.each v h) some);
          }

      -- A run of roots more, those before: all have the distances of the last, whose row is lent.
      pub roots_run : {roots : List ℕ} → NearAsked k distances before roots → {first : ℕ} → RunFound roots (j - 1) first
          → RunAdded (j - first) limit (take size (drop ((j - 1) * n) distances)) after next → RootsAdding k limit distances first before next
      roots_run asked {first} found added =
          record {
            within = omega (arith, m.within, found.within);
            size = added.size ∙ m.size;
            each =
                λ v h.
                rw (word v h)
                (rw back at
                (gather_run (m.each v h) (test v (j - 1)) (j - first) (omega arith) (λ i l b. ap (λ d. leb d limit) (agrees v h i (omega arith) b))));
          }
        where
          test : ℕ → ℕ → Bool
          test v i = leb (distance_in distances (length before) v i) limit

          back : j - (j - first) ≡ first
          back = omega (arith, found.within)

          word : (v : ℕ) → v < length before → get_or next v 0 ≡ with_run (j - first) (test v (j - 1)) (get_or after v 0)
          word v h =
              added.each v (omega (arith, m.size))
              ∙ ap (λ d. with_run (j - first) (leb d limit) (get_or after v 0)) (lent_at distances n_is same (j - 1) v h)

          agrees : (v : ℕ) → v < length before → (i : ℕ) → first ≤ i → i < j
              → distance_in distances (length before) v i ≡ distance_in distances (length before) v (j - 1)
          agrees v h i l b =
              run_agrees (distance_in distances (length before) v) first (j - 1)
              (λ i l b. asked.same_rows i (omega (arith, m.within)) (found.same i l b) v h) (j - 1 - i) i l (omega arith)

  pub roots_all : {j : ℕ} {before after : List ℕ} → RootsAdding k limit distances j before after → j ≡ 0 → NearVertices k limit distances before after
  roots_all m q = record { size = m.size; each = λ v i h l. gather_all (m.each v h) q i l }
