-- Keys in blocks: the least of some keys, looked for place by place, and one key stored, with the least of its block.
-- Assumes nothing.
use Prim.Native.Nat.{ℕ, ◌+◌, ◌*◌, ◌/◌, ◌≤◌, ◌<◌}
use mathlib.Core.Bool.{true, false}
use mathlib.Core.Path.{◌≡◌, refl, sym, ap, ◌∙◌}
use mathlib.Core.List.{List}
use mathlib.Core.Logic.{◌⊎◌, inl, inr, ⊎_elim, dite}
use native.Mathlib.Decide.{ℕ_discrete}
use native.Mathlib.Omega.{arith}
use lib.ListN.{length, get_or, set, replicate, length-set, length-replicate, get_or-replicate}
use lib.Seq.{get_or-set_same, get_or-set_other}
use lib.Dec.{leb, ltb}
use borrow.Author.Tests.{leb-true, leb-false, ltb-true, ltb-false}
use Rattle.std.specs.Prelude.{min}
use Rattle.lists.proofs.AfterStore.{at_or_not}
use Rattle.lists.proofs.Member.{either}
use Rattle.waiting.specs.Waiting.{nobody, LeastFrom, InBlock, Blocks}

-- r is the lower of two keys: no higher than either, and one of them.
pub record Lower (one other r : ℕ) : Type 0 where
  pub first : r ≤ one
  pub second : r ≤ other
  pub one_of : (r ≡ one) ⊎ (r ≡ other)

pub min_lower : {one other r : ℕ} → r ≡ min one other → Lower one other r
min_lower {one} {other} {r} is = record { first = omega arith; second = omega arith; one_of = go (either (leb one other)) }
  where
    go : (leb one other ≡ true) ⊎ (leb one other ≡ false) → (r ≡ one) ⊎ (r ≡ other)
    go (inl t) = let h : one ≤ other = leb-true one other t in inl (omega arith)
    go (inr t) = let h : other < one = leb-false one other t in inr (omega arith)

-- The least of one key, and of one key more.
pub least_one : {keys : List ℕ} {from : ℕ} → LeastFrom keys from 1 (get_or keys from 0)
least_one {keys} {from} = record {
  lowest = λ i l h. let same : i ≡ from = omega arith in rw same (omega arith);
  place = from;
  after = omega arith;
  before = omega arith;
  is = refl;
}

pub least_more : {keys : List ℕ} {from many r x q : ℕ} → LeastFrom keys from many r → x ≡ get_or keys (from + many) 0 → Lower r x q → LeastFrom keys from (many + 1) q
least_more {keys} {from} {many} {r} {x} {q} k is l = go l.one_of
  where
    lowest_now : (i : ℕ) → from ≤ i → i < from + (many + 1) → q ≤ get_or keys i 0
    lowest_now i h m =
        at_or_not (λ j. q ≤ get_or keys j 0) (from + many) i (omega (arith, l.second)) (λ away. omega (arith, l.first, k.lowest i h (omega arith)))

    go : (q ≡ r) ⊎ (q ≡ x) → LeastFrom keys from (many + 1) q
    go (inl e) = record { lowest = lowest_now; place = k.place; after = k.after; before = omega (arith, k.before); is = k.is ∙ sym e }
    go (inr e) = record { lowest = lowest_now; place = from + many; after = omega arith; before = omega arith; is = sym is ∙ sym e }

-- The lower of the least of two halves is the least of all.
pub least_joined : {keys : List ℕ} {from half many more p q r : ℕ} → half ≡ from + many → LeastFrom keys from many p → LeastFrom keys half more q → Lower p q r
    → LeastFrom keys from (many + more) r
least_joined {keys} {from} {half} {many} {more} {p} {q} {r} next k j l = go l.one_of
  where
    below_half : (i : ℕ) → from ≤ i → (i < half) ⊎ (half ≤ i) → i < from + (many + more) → r ≤ get_or keys i 0
    below_half i h (inl b) m = omega (arith, l.first, k.lowest i h (omega arith))
    below_half i h (inr b) m = omega (arith, l.second, j.lowest i b (omega arith))

    all : (i : ℕ) → from ≤ i → i < from + (many + more) → r ≤ get_or keys i 0
    all i h m = below_half i h (⊎_elim (λ t. inl (ltb-true i half t)) (λ t. inr (ltb-false i half t)) (either (ltb i half))) m

    go : (r ≡ p) ⊎ (r ≡ q) → LeastFrom keys from (many + more) r
    go (inl e) = record { lowest = all; place = k.place; after = k.after; before = omega (arith, k.before); is = k.is ∙ sym e }
    go (inr e) = record { lowest = all; place = j.place; after = omega (arith, j.after); before = omega (arith, j.before); is = j.is ∙ sym e }

-- A key is stored for v, and m for its block.
module _ {wait low : List ℕ} (b : Blocks wait low) {v : ℕ} (vertex : v < 256) where
  in_low : v / 16 < length low
  in_low = omega (arith, b.low_size)

  -- No other block's least changes.
  pub low_set : (m : ℕ) → set low (v / 16) m ≡ set low (v / 16) (get_or (set low (v / 16) m) (v / 16) 0)
  low_set m = ap (set low (v / 16)) (sym (get_or-set_same low (v / 16) m 0 in_low))

  module _ (key : ℕ) where
    abbrev now_waits : List ℕ
    now_waits = set wait v key

    stored : get_or now_waits v 0 ≡ key
    stored = get_or-set_same wait v key 0 (omega (arith, b.wait_size))

    old : (w : ℕ) → (w ≡ v → ⊥) → get_or now_waits w 0 ≡ get_or wait w 0
    old w away = get_or-set_other wait v w key 0 away

    -- Where m is the least of the block, each block still has its least.
    pub blocks_stored : {m : ℕ} → ((w : ℕ) → w / 16 ≡ v / 16 → m ≤ get_or now_waits w 0) → InBlock now_waits (v / 16) m
        → Blocks now_waits (set low (v / 16) m)
    blocks_stored {m} lowest_in held_in = record {
      wait_size = length-set wait v key ∙ b.wait_size;
      low_size = length-set low (v / 16) m ∙ b.low_size;
      lowest =
          λ w h.
          dite (ℕ_discrete (w / 16) (v / 16)) (λ e. rw (e, get_or-set_same low (v / 16) m 0 in_low) (lowest_in w e))
          (λ away. rw (get_or-set_other low (v / 16) (w / 16) m 0 away, old w (λ e. away (ap (λ x. x / 16) e))) (b.lowest w h));
      held =
          λ g h.
          at_or_not (λ x. InBlock now_waits x (get_or (set low (v / 16) m) x 0)) (v / 16) g
          (rw (get_or-set_same low (v / 16) m 0 in_low) held_in)
          (λ away.
          let k = b.held g h in
          record {
            vertex = k.vertex;
            block = k.block;
            is = old k.vertex (λ e. away (sym k.block ∙ ap (λ x. x / 16) e)) ∙ k.is ∙ sym (get_or-set_other low (v / 16) g m 0 away);
          });
    }

    -- A key that is no higher than what stood for v.
    pub blocks_put : key ≤ get_or wait v 0 → {m : ℕ} → Lower (get_or low (v / 16) 0) key m → Blocks now_waits (set low (v / 16) m)
    blocks_put no_higher {m} l =
        blocks_stored
        (λ w e.
        at_or_not (λ x. x / 16 ≡ v / 16 → m ≤ get_or now_waits x 0) v w (λ _. omega (arith, stored, l.second))
        (λ away q. omega (arith, old w away, l.first, ap (λ x. get_or low x 0) q, b.lowest w (omega arith))) e)
        (go l.one_of)
      where
        go : (m ≡ get_or low (v / 16) 0) ⊎ (m ≡ key) → InBlock now_waits (v / 16) m
        go (inr e) = record { vertex = v; block = refl; is = stored ∙ sym e }
        go (inl e) =
            let k = b.held (v / 16) (omega arith) in
            record {
              vertex = k.vertex;
              block = k.block;
              is =
                  at_or_not (λ x. get_or wait x 0 ≡ get_or low (v / 16) 0 → get_or now_waits x 0 ≡ m) v k.vertex (λ q. omega (arith, stored, l.second))
                  (λ away q. old k.vertex away ∙ q ∙ sym e) k.is;
            }

    -- Any key, where the least of the block is looked for anew.
    pub blocks_sought : {m : ℕ} → LeastFrom now_waits (v / 16 * 16) 16 m → Blocks now_waits (set low (v / 16) m)
    blocks_sought k =
        blocks_stored (λ w e. k.lowest w (omega arith) (omega arith))
        (record { vertex = k.place; block = omega (arith, k.after, k.before); is = k.is })

-- Where none waits, each block has `nobody`.
pub blocks_none : Blocks (replicate 256 nobody) (replicate 16 nobody)
blocks_none = record {
  wait_size = length-replicate 256 nobody;
  low_size = length-replicate 16 nobody;
  lowest = λ v h. rw (get_or-replicate 16 (v / 16) nobody 0 (omega arith), get_or-replicate 256 v nobody 0 h) (omega arith);
  held =
      λ g h.
      record { vertex = g * 16; block = omega arith; is = get_or-replicate 256 (g * 16) nobody 0 (omega arith) ∙ sym (get_or-replicate 16 g nobody 0 h) };
}
