-- The word of a tree, joined vertex by vertex; and the words of several trees, one after the other.
-- Assumes nothing.
use Prim.Native.Nat.{ℕ, ◌+◌, ◌≤◌, ◌<◌}
use mathlib.Core.Path.{◌≡◌, sym, ap, ◌∙◌}
use mathlib.Core.Bool.{Bool, ◌||◌, or-false}
use mathlib.Core.List.{List, ◌∷◌, map}
use native.Mathlib.Omega.{arith}
use borrow.Author.Count.{below_none, below_more}
use lib.Bits.{bit_or}
use lib.ListN.{length, get_or, take, set}
use lib.Seq.{take_all, get_or-set_same, get_or-set_other}
use Rattle.lists.specs.Lists.{any, flat}
use Rattle.lists.specs.Put.{OnlyFirst}
use Rattle.lists.proofs.AnyOn.{any_on}
use Rattle.lists.proofs.FlatMap.{flat_map_next}
use Rattle.lists.proofs.OnlyFirst.{only_first_none, only_first_store}
use Rattle.graph.specs.Graph.{Graph, one_end, other_end}
use Rattle.rules.specs.Distance.{tree_vertices}
use Rattle.rules.specs.Held.{tree_at}
use Rattle.pieces.specs.Pieces.{tree_of, ends_of}
use Rattle.near.specs.Bits.{bit_at}
use Rattle.near.specs.Held.{NearTree, NearPieces}
use Rattle.near.proofs.BitsLaws.{bit_or_lem}

module _ (g : Graph) (near : List ℕ) where
  -- Some word of these vertices has root j.
  abbrev some_near : ℕ → List ℕ → Bool
  some_near j vertices = any (λ v. bit_at j (get_or near v 0)) vertices

  -- The word has the roots near the start, and those near the ends of the first i edges.
  pub record Joining (start : ℕ) (edges : List ℕ) (i word : ℕ) : Type 0 where
    pub within : i ≤ length edges
    pub each : (j : ℕ) → bit_at j word ≡ some_near j (start ∷ flat (map (ends_of g) (take i edges)))

  pub joining_start : (start : ℕ) (edges : List ℕ) → Joining start edges 0 (get_or near start 0)
  unfolding any flat
  joining_start start edges = record { within = omega arith; each = λ j. sym (or-false (bit_at j (get_or near start 0))) }

  module _ {start : ℕ} {edges : List ℕ} {i word : ℕ} (m : Joining start edges i word) where
    -- One edge more: the words of its ends.
    module _ {u v : ℕ} (h : i < length edges) (p : u ≡ one_end g (get_or edges i 0)) (q : v ≡ other_end g (get_or edges i 0)) where
      abbrev e : ℕ
      e = get_or edges i 0

      abbrev both : ℕ
      both = bit_or (get_or near u 0) (get_or near v 0)

      ends : (j : ℕ) → bit_at j both ≡ some_near j (ends_of g e)
      unfolding any
      ends j =
          bit_or_lem j (get_or near u 0) (get_or near v 0)
          ∙ ap (λ x. bit_at j (get_or near x 0) || bit_at j (get_or near v 0)) p
          ∙ ap (λ x. bit_at j (get_or near (one_end g e) 0) || bit_at j (get_or near x 0)) q
          ∙ ap (λ t. bit_at j (get_or near (one_end g e) 0) || t) (sym (or-false (bit_at j (get_or near (other_end g e) 0))))

      pub joining_more : Joining start edges (i + 1) (bit_or word both)
      joining_more =
          let sofar : List ℕ = start ∷ flat (map (ends_of g) (take i edges)) in
          record {
            within = omega arith;
            each =
                λ j.
                bit_or_lem j word both
                ∙ ap (λ t. t || bit_at j both) (m.each j)
                ∙ ap (λ t. some_near j sofar || t) (ends j)
                ∙ sym (any_on (λ x. bit_at j (get_or near x 0)) sofar (ends_of g e))
                ∙ ap (λ l. some_near j (start ∷ l)) (sym (flat_map_next (ends_of g) edges i 0 h));
          }

    -- All edges.
    pub joining_all : length edges ≤ i → NearTree g near (tree_of start edges) word
    unfolding tree_vertices
    joining_all h =
        let all : take i edges ≡ edges = take_all i edges (omega arith) in
        record { each = λ j. m.each j ∙ ap (λ l. some_near j (start ∷ flat (map (ends_of g) l))) all }

module _ (g : Graph) (near starts cuts members places : List ℕ) where
  -- The trees of the first i places have their words; only these changed.
  pub record Wording (i : ℕ) (before after : List ℕ) : Type 0 where
    pub within : i ≤ length places
    pub done : (h : ℕ) → h < i → NearTree g near (tree_at starts cuts members (get_or places h 0)) (get_or after h 0)
    pub only : OnlyFirst (length places) before after

  pub wording_none : (before : List ℕ) → Wording 0 before before
  wording_none before = record { within = omega arith; done = below_none _; only = only_first_none (length places) before }

  module _ {i : ℕ} {before after : List ℕ} (m : Wording i before after) where
    pub wording_more : {word : ℕ} → i < length places → i < length after → NearTree g near (tree_at starts cuts members (get_or places i 0)) word
        → Wording (i + 1) before (set after i word)
    wording_more {word} h room tree =
        record {
          within = omega arith;
          done =
              below_more (λ x. NearTree g near (tree_at starts cuts members (get_or places x 0)) (get_or (set after i word) x 0)) i
              (λ x l. rw (get_or-set_other after i x word 0 (omega arith)) (m.done x l))
              (rw (get_or-set_same after i word 0 room) tree);
          only = only_first_store m.only i word h;
        }

    pub wording_all : length places ≤ i → NearPieces g near starts cuts members places before after
    wording_all h = record { each = λ x l. m.done x (omega arith); rest = m.only }
