-- The search, turn by turn: who waits, the invariant of those settled, and what stands beyond the vertices.
-- Assumes nothing.
use Prim.Native.Nat.{ℕ, suc, ◌+◌, ◌-◌, ◌≤◌, ◌<◌}
use mathlib.Core.Path.{◌≡◌, sym, ◌∙◌, subst}
use mathlib.Core.Bool.{true, false}
use mathlib.Core.List.{List}
use mathlib.Core.Logic.{◌⊎◌, inl, inr}
use native.Mathlib.Omega.{arith}
use lib.ListN.{length, get_or, drop, length-drop}
use lib.Seq.{get_or-drop, ext_get_or, get_or-set_other}
use lib.Dec.{ltb}
use borrow.Author.Tests.{ltb-true, ltb-false}
use Rattle.lists.specs.Put.{OnlyFirst}
use Rattle.lists.proofs.Member.{either}
use Rattle.lists.proofs.OnlyFirst.{is_only_first, only_first_none, only_first_on}
use Rattle.lists.proofs.Put.{only_first_length}
use Rattle.edges.specs.Around.{arc_head, Arcs}
use Rattle.waiting.specs.Waiting.{key_of, vertex_of, nobody, LeastFrom, Blocks, KeyPut}
use Rattle.distance.specs.Shortest.{unreached, Searchable, Searched}
use Rattle.distance.specs.Start.{Started}
use Rattle.distance.specs.Relaxing.{ArcAt, Becomes, same, nearer, Relaxed, Relaxable, Rekeyed, key_kept, key_new, AllRelaxed}
use Rattle.distance.proofs.SettledInvariant.{Settling, settling_none, settling_more, Settled, settled_all}
use Rattle.distance.proofs.ArraysSayDistances.{traced_all}
use Rattle.distance.proofs.WhoWaits.{Keyed, Open, Nearest, settled_at, settled_count, key_low, keyed_start, open_start, keyed_taken, keyed_no_lower, keyed_nobody, nearest_is, taken_at, taken_other, settled_yes, settled_not, settled_same, count_most, count_more}

-- Some vertices are reached, and of these some are settled and the others wait; the nearest has the key `least`.
pub record Searching (n : ℕ) (bounds arcs : List ℕ) (root : ℕ) (dist₀ last₀ : List ℕ) (least : ℕ) (dist last wait low : List ℕ) : Type 0 where
  pub ready : Searchable n bounds arcs root dist last
  pub blocks : Blocks wait low
  pub keyed : Keyed n dist wait
  pub state : Settling n bounds arcs root (Open n dist wait) (settled_count n dist wait) dist last
  pub nearest : LeastFrom low 0 16 least
  pub dist_rest : OnlyFirst n dist₀ dist
  pub last_rest : OnlyFirst n last₀ last

module _ {n : ℕ} {bounds arcs : List ℕ} {root : ℕ} where
  -- The start.
  pub searching_start : {dist₀ last₀ dist none wait low₀ low : List ℕ} {least key : ℕ} → Searchable n bounds arcs root dist₀ last₀ → Started n root dist₀ dist
      → length none ≡ 256 → ((v : ℕ) → v < 256 → get_or none v 0 ≡ nobody) → key ≡ key_of 0 root
      → KeyPut root key none wait low₀ low → LeastFrom low 0 16 least → Searching n bounds arcs root dist last₀ least dist last₀ wait low
  searching_start {last₀ = last₀} {dist = dist} {none = none} p s size all is put near = record {
    ready = record { sound = p.sound; root_inside = p.root_inside; dist_room = omega (arith, p.dist_room, only_first_length s.rest); last_room = p.last_room };
    blocks = put.blocks;
    keyed = rw (put.stored, is) (keyed_start dist none p.sound.few size p.root_inside all s.root_zero);
    state = settling_none (rw (put.stored, is) (open_start dist none p.sound.few size p.root_inside s.others)) s.root_zero s.others;
    nearest = near;
    dist_rest = only_first_none n dist;
    last_rest = only_first_none n last₀;
  }

  -- What was searched since the start was searched since before it.
  pub searched_since : {dist₀ last₀ dist d l : List ℕ} → Started n root dist₀ dist → Searched n bounds arcs root dist last₀ d l → Searched n bounds arcs root dist₀ last₀ d l
  searched_since s r = record { of_graph = r.of_graph; dist_rest = only_first_on s.rest r.dist_rest; last_rest = r.last_rest }

-- The arcs of a vertex lead to vertices.
arc_inside : {n : ℕ} {bounds arcs : List ℕ} → Arcs n bounds arcs → {u : ℕ} → u < n → (a : ℕ) → ArcAt bounds arcs u a → arc_head a < n
arc_inside sound {u} h a i = rw i.is (sound.heads u i.place h i.from i.to)

-- An array that keeps its length and what stands from n on changed among the first n alone.
kept_beyond : (n : ℕ) (a b : List ℕ) → length b ≡ length a → ((v : ℕ) → n ≤ v → get_or b v 0 ≡ get_or a v 0) → OnlyFirst n a b
kept_beyond n a b size kept =
    is_only_first n size
    (ext_get_or 0 (drop n b) (drop n a) (omega (arith, length-drop n b, length-drop n a))
    (λ i h. get_or-drop n b i 0 ∙ kept (n + i) (omega arith) ∙ sym (get_or-drop n a i 0)))

-- What stands beyond the vertices is kept.
module _ {n : ℕ} {bounds arcs : List ℕ} (sound : Arcs n bounds arcs) {u : ℕ} {d l e m : List ℕ} (vertex : u < n)
    (r : Relaxed arcs (get_or bounds u 0) (get_or bounds (u + 1) 0) u d l e m)
  where
    kept_outside : (v : ℕ) → n ≤ v → (get_or e v 0 ≡ get_or d v 0) × (get_or m v 0 ≡ get_or l v 0)
    kept_outside v h = go (r.each v)
      where
        go : Becomes arcs (get_or bounds u 0) (get_or bounds (u + 1) 0) u v d l e m → (get_or e v 0 ≡ get_or d v 0) × (get_or m v 0 ≡ get_or l v 0)
        go (same x y) = (x, y)
        go (nearer {a = a} at head x less y) = absurd (omega (arith, arc_inside sound vertex a at))

module _ {n : ℕ} {bounds arcs : List ℕ} {root : ℕ} {dist₀ last₀ : List ℕ} {least : ℕ} {dist last wait low : List ℕ}
    (k : Searching n bounds arcs root dist₀ last₀ least dist last wait low)
  where
    few : n ≤ 256
    few = k.ready.sound.few

    -- The search is over where none waits.
    pub searched_all : least ≡ nobody → Searched n bounds arcs root dist₀ last₀ dist last
    searched_all none =
        let far : (v : ℕ) → Open n dist wait v → unreached ≤ get_or dist v 0 =
        λ v o. o.1 (keyed_nobody k.blocks k.keyed few k.nearest none v o.0) in
        let settled : Settled n bounds arcs root dist last = settled_all k.state (count_most n dist wait) far in
        record {
          of_graph =
              λ g around q.
              traced_all around (omega (arith, k.ready.last_room)) (subst (λ x. Settled x bounds arcs root dist last) (sym q) settled)
              (omega (arith, k.ready.root_inside));
          dist_rest = k.dist_rest;
          last_rest = k.last_rest;
        }

    -- The nearest that waits, u, waits no longer, and its arcs are relaxed.
    module _ {u : ℕ} (some : least ≡ nobody → ⊥) (is : u ≡ vertex_of least) where
      near : Nearest n dist wait u
      near = rw is (nearest_is k.blocks k.keyed few k.nearest some)

      pub searching_vertex : u < n
      searching_vertex = near.inside

      open_now : Open n dist wait u
      open_now = (near.inside, λ q. absurd (near.waits q))

      module _ {taken low_taken : List ℕ} (t : KeyPut u nobody wait taken low low_taken) where
        keyed_now : Keyed n dist taken
        keyed_now = rw t.stored (keyed_taken k.keyed (omega (arith, k.blocks.wait_size, few, near.inside)))

        pub searching_relaxable : Relaxable bounds arcs u dist last taken low_taken
        searching_relaxable =
            let p = k.ready in
            record {
              vertices = n;
              few = few;
              vertex = near.inside;
              bounded = omega (arith, near.inside, p.sound.bounds_room);
              rising = p.sound.rising u near.inside;
              within = p.sound.within (u + 1) (omega (arith, near.inside));
              heads = arc_inside p.sound near.inside;
              dist_room = p.dist_room;
              last_room = p.last_room;
              blocks = t.blocks;
              no_lower = keyed_no_lower few keyed_now k.state.bounded;
            }

        -- So it is settled.
        module _ {e m after low_after : List ℕ} (x : AllRelaxed bounds arcs u dist last taken e m after low_after) where
          -- u is as it was, and has no key.
          own : (get_or e u 0 ≡ get_or dist u 0) × (get_or after u 0 ≡ nobody)
          own = go (x.rekeyed u) (x.relaxed.each u)
            where
              go : Rekeyed u dist taken e after → Becomes arcs (get_or bounds u 0) (get_or bounds (u + 1) 0) u u dist last e m
                  → (get_or e u 0 ≡ get_or dist u 0) × (get_or after u 0 ≡ nobody)
              go (key_kept a b) _ = (a, b ∙ taken_at wait t.stored (omega (arith, k.blocks.wait_size, few, near.inside)))
              go (key_new less b) (same p q) = absurd (omega arith)
              go (key_new less b) (nearer i head p lower q) = absurd (omega arith)

          -- Whoever is nearer now was open.
          was_far : (v : ℕ) → v < n → get_or wait v 0 ≡ nobody → get_or e v 0 < get_or dist v 0 → unreached ≤ get_or dist v 0
          was_far v h q less = go (either (ltb (get_or dist v 0) unreached)) (x.relaxed.each v)
            where
              go : (ltb (get_or dist v 0) unreached ≡ true) ⊎ (ltb (get_or dist v 0) unreached ≡ false)
                  → Becomes arcs (get_or bounds u 0) (get_or bounds (u + 1) 0) u v dist last e m → unreached ≤ get_or dist v 0
              go (inr b) _ = ltb-false (get_or dist v 0) unreached b
              go (inl b) (same p r) = absurd (omega arith)
              go (inl b) (nearer i head p lower r) =
                  let low : get_or dist v 0 < unreached = ltb-true (get_or dist v 0) unreached b in
                  absurd (omega (arith, k.state.settled_near v u h (λ o. omega (arith, o.1 q)) open_now))

          was_open : (v : ℕ) → Open n e after v → Open n dist wait v
          was_open v (h, out) = (h, λ q. go q (x.rekeyed v))
            where
              go : get_or wait v 0 ≡ nobody → Rekeyed v dist taken e after → unreached ≤ get_or dist v 0
              go q (key_kept a b) = omega (arith, out (b ∙ taken_other wait t.stored (omega (arith, k.blocks.wait_size, few, near.inside)) v q))
              go q (key_new less b) = was_far v h q less

          -- Who keeps its distance keeps its key, unless it is u.
          still : (v : ℕ) → (v ≡ u → ⊥) → get_or after v 0 ≡ get_or taken v 0 → get_or after v 0 ≡ get_or wait v 0
          still v away q = q ∙ rw t.stored (get_or-set_other wait u v nobody 0 away)

          still_open : (v : ℕ) → Open n dist wait v → (v ≡ u → ⊥) → Open n e after v
          still_open v (h, out) away = (h, λ q. go q (x.rekeyed v))
            where
              go : get_or after v 0 ≡ nobody → Rekeyed v dist taken e after → unreached ≤ get_or e v 0
              go q (key_kept a b) = omega (arith, out (sym (still v away b) ∙ q))
              go q (key_new less b) = absurd (omega (arith, key_low (get_or e v 0) v (omega (arith, k.state.bounded v h)) (omega (arith, few))))

          not_open : Open n e after u → ⊥
          not_open o = omega (arith, o.1 own.1, own.0, near.reached)

          keyed_after : Keyed n e after
          keyed_after = record { key = λ v h. go v h (x.rekeyed v); beyond = λ v h l. outside v h l (x.rekeyed v) }
            where
              go : (v : ℕ) → v < n → Rekeyed v dist taken e after
                  → (get_or after v 0 ≡ nobody) ⊎ ((get_or after v 0 ≡ key_of (get_or e v 0) v) × (get_or e v 0 < unreached))
              go v h (key_kept a b) = rw (a, b) (keyed_now.key v h)
              go v h (key_new less b) = inr (b, omega (arith, k.state.bounded v h))

              outside : (v : ℕ) → n ≤ v → v < 256 → Rekeyed v dist taken e after → get_or after v 0 ≡ nobody
              outside v h l (key_kept a b) = b ∙ keyed_now.beyond v h l
              outside v h l (key_new less b) = absurd (omega (arith, kept_outside k.ready.sound near.inside x.relaxed v h))

          others : (v : ℕ) → v < n → (v ≡ u → ⊥) → settled_at e after v ≡ settled_at dist wait v
          others v h away = go (x.rekeyed v)
            where
              go : Rekeyed v dist taken e after → settled_at e after v ≡ settled_at dist wait v
              go (key_kept a b) = settled_same dist wait e after v a (still v away b)
              go (key_new less b) =
                  let waits : get_or after v 0 ≡ nobody → unreached ≤ get_or e v 0 =
                  λ q. absurd (omega (arith, key_low (get_or e v 0) v (omega (arith, k.state.bounded v h)) (omega (arith, few)))) in
                  settled_not e after v waits ∙ sym (settled_not dist wait v (was_open v (h, waits)).1)

          settled_more : settled_count n e after ≡ suc (settled_count n dist wait)
          settled_more =
              count_more dist wait e after near.inside (settled_not dist wait u open_now.1) (settled_yes e after u (omega (arith, own, near.reached)) own.1) others

          -- Fewer are left.
          pub searching_fewer : n - settled_count n e after < n - settled_count n dist wait
          searching_fewer = omega (arith, settled_more, count_most n e after)

          pub searching_more : {next : ℕ} → length e ≡ length dist → length m ≡ length last → LeastFrom low_after 0 16 next
              → Searching n bounds arcs root dist₀ last₀ next e m after low_after
          searching_more dist_same last_same nearest_now =
              let p = k.ready in
              record {
                ready = record { sound = p.sound; root_inside = p.root_inside; dist_room = omega (arith, p.dist_room); last_room = omega (arith, p.last_room) };
                blocks = x.blocks;
                keyed = keyed_after;
                state = settling_more k.state near.inside open_now near.reached near.lowest was_open still_open not_open x.relaxed (omega (arith, settled_more));
                nearest = nearest_now;
                dist_rest = only_first_on k.dist_rest (kept_beyond n dist e dist_same (λ v h. (kept_outside p.sound near.inside x.relaxed v h).0));
                last_rest = only_first_on k.last_rest (kept_beyond n last m last_same (λ v h. (kept_outside p.sound near.inside x.relaxed v h).1));
              }
