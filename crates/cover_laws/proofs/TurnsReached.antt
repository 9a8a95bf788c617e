-- What holds after any number of turns of the walk along a tree, and that all is walked where nothing is left.
-- Assumes nothing.
use Prim.Native.Nat.{ℕ, ◌+◌, ◌*◌, ◌≤◌}
use mathlib.Core.Path.{◌≡◌, refl, sym, ap, ◌∙◌}
use mathlib.Core.List.Memᴰ
use mathlib.Core.List.{List, [], ◌∷◌, ◌++◌}
use mathlib.Core.Logic.{◌⊎◌, inl, inr}
use mathlib.Core.Option.{some, none}
use native.Mathlib.Omega.{arith}
use lib.ListN.{length, length-append}
use Rattle.lists.specs.Lists.{times}
use Rattle.lists.specs.Member.{◌∈◌}
use Rattle.lists.proofs.InOrder.{none, next, Once, rising_once}
use Rattle.lists.proofs.Lengths.{length_within}
use Rattle.lists.proofs.Times.{times_none, times_cons, times_append, in_times, times_in}
use Rattle.graph.specs.Graph.{Graph, one_end, other_end}
use Rattle.rules.specs.Walk.{Joins, onward, Walk, stay, step}
use Rattle.rules.specs.Cover.{Tree, IsTree}
use Rattle.rules.specs.Grow.{far_end, touches}
use Rattle.rules.specs.ClosedWalk.{stops_from, Underway, underway, next_edge, crossed, after_turns}
use Rattle.rules.specs.WalkRule.{last_stop, IsLeft}
use Rattle.rules.proofs.Linked.{joins_back, walk_from, walk_on}
use Rattle.rules.proofs.FarEnd.{far_end_lem, joins_far, end_test}
use Rattle.rules.proofs.WalkStops.{first_stop, walk_last, stops_more, further, joined_passed}
use Rattle.cover_laws.proofs.Turns.{turns_keep}
use Rattle.cover_laws.proofs.NextEdge.{NoneLeft, next_left, next_none}

module _ (g : Graph) (t : Tree) where
  -- The vertex is on the way back, or nothing is left there.
  abbrev pub Settled : List ℕ → ℕ → List ℕ → ℕ → Type 0
  Settled crossings stop way v = (v ∈ stops_from g stop way) ⊎ NoneLeft g t crossings v

  -- What holds where the walk is. An edge that is walked was crossed twice, or once if it is on the way back, and what was passed is settled.
  pub record Reached (s : Underway) : Type 0 where
    pub led : Walk g s.crossings t.start s.stop
    pub back : Walk g s.way s.stop t.start
    pub walked : List ℕ
    pub once : Once walked
    pub of_tree : (e : ℕ) → e ∈ walked → e ∈ t.edges
    pub was_crossed : (e : ℕ) → e ∈ walked → e ∈ s.crossings
    pub twice : (e : ℕ) → times e s.crossings + times e s.way ≡ 2 * times e walked
    pub turns : length s.crossings + length s.way ≡ 2 * length walked
    pub done : (v : ℕ) → v ∈ stops_from g t.start s.crossings → Settled s.crossings s.stop s.way v

  pub reached_start : Reached (underway t.start [] [])
  reached_start = record {
    led = stay refl;
    back = stay refl;
    walked = [];
    once = none;
    of_tree = λ e m. absurd (Memᴰ.not-nil m);
    was_crossed = λ e m. m;
    twice = λ e. omega (arith, times_none e);
    turns = omega arith;
    done = λ v m. inl m;
  }

  -- with one crossing more what was passed is settled, where what was on the way back is
  more_done : {s : Underway} → Reached s → (e : ℕ) (way : List ℕ)
      → ((v : ℕ) → v ∈ stops_from g s.stop s.way → Settled s.crossings (far_end g e s.stop) way v)
      → (v : ℕ) → v ∈ stops_from g t.start (s.crossings ++ (e ∷ [])) → Settled (s.crossings ++ (e ∷ [])) (far_end g e s.stop) way v
  more_done {s} r e way keep v m = go (Memᴰ.append_cases (stops_from g t.start s.crossings) (rw (stops_more g t.start s.crossings e) at m))
    where
      still : Settled s.crossings (far_end g e s.stop) way v → Settled (s.crossings ++ (e ∷ [])) (far_end g e s.stop) way v
      still (inl n) = inl n
      still (inr all) = inr (λ f n p. Memᴰ.append_left (e ∷ []) (all f n p))

      old : Settled s.crossings s.stop s.way v → Settled s.crossings (far_end g e s.stop) way v
      old (inl n) = keep v n
      old (inr all) = inr all

      go : (v ∈ stops_from g t.start s.crossings) ⊎ (v ∈ (far_end g e (last_stop g t.start s.crossings) ∷ []))
          → Settled (s.crossings ++ (e ∷ [])) (far_end g e s.stop) way v
      go (inl n) = still (old (r.done v n))
      go (inr n) = inl (Memᴰ.cast (Memᴰ.eq_of_singleton n ∙ ap (far_end g e) (walk_last r.led)) (first_stop g (far_end g e s.stop) way))

  pub reached_on : (s : Underway) (e : ℕ) → Reached s → next_edge g t s.stop s.crossings ≡ some e → Reached (crossed g s e (e ∷ s.way))
  unfolding crossed stops_from
  reached_on s e r q = record {
    led = walk_on r.led (step joins (stay refl));
    back = step (joins_back joins) r.back;
    walked = e ∷ r.walked;
    once = next (λ f m p. left.not_walked (r.was_crossed e (Memᴰ.cast p m))) r.once;
    of_tree = among;
    was_crossed = also;
    twice = λ f. omega (arith, r.twice f, times_append f s.crossings (e ∷ []), times_cons f e s.way, times_cons f e r.walked);
    turns = omega (arith, r.turns, length-append s.crossings (e ∷ []));
    done = more_done r e (e ∷ s.way) (λ v m. inl (Memᴰ.tail (further s.way (joins_back joins) m)));
  }
    where
      left : IsLeft g t s.crossings s.stop e
      left = next_left g t s.stop s.crossings q

      joins : Joins g e s.stop (far_end g e s.stop)
      joins = unfold touches in joins_far e s.stop left.at_stop

      among : (f : ℕ) → f ∈ (e ∷ r.walked) → f ∈ t.edges
      among f (Memᴰ.head p) = Memᴰ.cast p left.of_tree
      among f (Memᴰ.tail m) = r.of_tree f m

      also : (f : ℕ) → f ∈ (e ∷ r.walked) → f ∈ (s.crossings ++ (e ∷ []))
      also f (Memᴰ.head p) = Memᴰ.append_right s.crossings (Memᴰ.head p)
      also f (Memᴰ.tail m) = Memᴰ.append_left (e ∷ []) (r.was_crossed f m)

  pub reached_home : (s : Underway) (e : ℕ) (way : List ℕ) → Reached s → next_edge g t s.stop s.crossings ≡ none → s.way ≡ e ∷ way
      → Reached (crossed g s e way)
  unfolding crossed stops_from
  reached_home s e way r q w = record {
    led = walk_on r.led walks.0;
    back = walks.1;
    walked = r.walked;
    once = r.once;
    of_tree = r.of_tree;
    was_crossed = λ f m. Memᴰ.append_left (e ∷ []) (r.was_crossed f m);
    twice = λ f. omega (arith, r.twice f, times_append f s.crossings (e ∷ []), ap (times f) w, times_cons f e way);
    turns = omega (arith, r.turns, length-append s.crossings (e ∷ []), ap length w);
    done = more_done r e way (λ v m. keep v (rw w at m));
  }
    where
      by_first : Walk g (e ∷ way) s.stop t.start → Walk g (e ∷ []) s.stop (far_end g e s.stop) × Walk g way (far_end g e s.stop) t.start
      by_first (step j rest) = (step j (stay (sym (far_end_lem j))), walk_from (far_end_lem j) rest)

      walks : Walk g (e ∷ []) s.stop (far_end g e s.stop) × Walk g way (far_end g e s.stop) t.start
      walks = by_first (rw w at r.back)

      keep : (v : ℕ) → v ∈ (s.stop ∷ stops_from g (far_end g e s.stop) way) → Settled s.crossings (far_end g e s.stop) way v
      keep v (Memᴰ.head p) = inr (λ f m k. next_none g t s.stop s.crossings q f m (rw p at k))
      keep v (Memᴰ.tail m) = inl m

  -- It holds after any number of turns.
  pub reached : (i : ℕ) → Reached (after_turns g t i)
  reached = turns_keep g t Reached reached_start reached_on reached_home

  -- What is crossed is walked, and the way back was crossed.
  pub crossed_walked : {s : Underway} (r : Reached s) (e : ℕ) → e ∈ s.crossings → e ∈ r.walked
  crossed_walked r e m = times_in e r.walked (omega (arith, r.twice e, in_times m))

  pub way_walked : (i e : ℕ) → e ∈ (after_turns g t i).way → e ∈ (after_turns g t i).crossings
  way_walked i e m = let r = reached i in r.was_crossed e (times_in e r.walked (omega (arith, r.twice e, in_times m)))

  -- No more edges are walked than the tree has.
  pub walked_few : {s : Underway} (r : Reached s) → length r.walked ≤ length t.edges
  walked_few r = length_within r.once r.of_tree

  -- Nor is the way back longer.
  pub way_few : (i : ℕ) → length (after_turns g t i).way ≤ length t.edges
  way_few i = let r = reached i in omega (arith, r.turns, walked_few r, length_within r.once r.was_crossed)

  -- Where nothing is left at the stop, and no way back,
  module _ (tree : IsTree g t) {s : Underway} (r : Reached s) (q : next_edge g t s.stop s.crossings ≡ none) (w : s.way ≡ []) where
    -- no vertex that was passed has an edge left,
    all_done : (v : ℕ) → v ∈ stops_from g t.start s.crossings → NoneLeft g t s.crossings v
    unfolding stops_from
    all_done v m = go (r.done v m)
      where
        go : Settled s.crossings s.stop s.way v → NoneLeft g t s.crossings v
        go (inl n) = λ e k p. next_none g t s.stop s.crossings q e k (rw (Memᴰ.eq_of_singleton (rw w at n)) at p)
        go (inr all) = all

    -- so that a walk along the tree's edges leads to no vertex that was not passed,
    all_passed : {path : List ℕ} {u v : ℕ} → Walk g path u v → ((e : ℕ) → e ∈ path → e ∈ t.edges)
        → u ∈ stops_from g t.start s.crossings → v ∈ stops_from g t.start s.crossings
    unfolding touches
    all_passed (stay p) sub m = Memᴰ.cast (sym p) m
    all_passed (step {e = e} {u = u} j walk) sub m =
        all_passed walk (λ f n. sub f (Memᴰ.tail n)) (joined_passed r.led (all_done u m e (sub e (Memᴰ.head refl)) (end_test j)) j)

    -- all edges are crossed,
    all_crossed : (e : ℕ) → e ∈ t.edges → e ∈ s.crossings
    unfolding touches
    all_crossed e m =
        let linked = tree.joined e m in
        let joins : Joins g e (one_end g e) (other_end g e) = onward refl refl in
        all_done (one_end g e) (all_passed linked.leads linked.along (first_stop g t.start s.crossings)) e m (end_test joins)

    -- and two crossings were made for each.
    pub whole_turns : length s.crossings ≡ 2 * length t.edges
    whole_turns =
        omega (arith, r.turns, ap length w, walked_few r, length_within (rising_once tree.rising) (λ e m. crossed_walked r e (all_crossed e m)))
