-- The walk along a tree goes by document 02's rule, and no other closed walk along it does.
-- Assumes nothing.
use Prim.Native.Nat.{ℕ, ◌*◌}
use mathlib.Core.Path.{◌≡◌, refl, sym, ap, ◌∙◌}
use mathlib.Core.List.Memᴰ
use mathlib.Core.List.{List, [], ◌∷◌, ◌++◌, append_assoc, append-nil}
use mathlib.Core.Logic.{◌↔◌}
use mathlib.Core.Option.{some, none}
use native.Mathlib.Omega.{arith}
use lib.ListN.{length}
use Rattle.lists.specs.Lists.{times, without}
use Rattle.lists.specs.Member.{◌∈◌}
use Rattle.lists.proofs.Member.{empty_list, in_without}
use Rattle.lists.proofs.Cuts.{some_not_none, LastOrBefore, at_last, before_last, cut_more}
use Rattle.lists.proofs.Times.{times_append, in_times}
use Rattle.graph.specs.Graph.{Graph}
use Rattle.rules.specs.Walk.{Joins, onward, back, Linked}
use Rattle.rules.specs.Cover.{Tree, IsTree}
use Rattle.rules.specs.Grow.{far_end, touches}
use Rattle.rules.specs.ClosedWalk.{stops_from, Underway, underway, next_edge, crossed, closed_walk}
use Rattle.rules.specs.WalkRule.{last_stop, IsLeft, FirstReached, ByRule, lowest_first, walked_back, IsClosedWalk}
use Rattle.rules.proofs.Linked.{joins_back, linked_same, linked_back, linked_on, linked_more}
use Rattle.rules.proofs.Joined.{walk_linked}
use Rattle.rules.proofs.FarEnd.{far_end_lem, joins_far}
use Rattle.rules.proofs.WalkStops.{first_stop, walk_last, passed_linked}
use Rattle.cover_laws.proofs.Turns.{turns_keep}
use Rattle.cover_laws.proofs.NextEdge.{next_left, next_lowest, next_none}
use Rattle.cover_laws.proofs.TurnsReached.{Reached, reached_start, reached_on, reached_home, crossed_walked}
use Rattle.cover_laws.proofs.ClosedWalk.{closed_walk_closed, each_twice, crosses_each, crossed_of_tree}
use Rattle.cover_laws.proofs.OneCrossing.{EachByRule, front_of}

-- a stop that was first reached by an edge was so, whatever is crossed later
first_still : {g : Graph} {start v e : ℕ} {c : List ℕ} (f : ℕ) → FirstReached g start c v e → FirstReached g start (c ++ (f ∷ [])) v e
first_still {e = e} {c = c} f x = record {
  earlier = x.earlier;
  later = x.later ++ (f ∷ []);
  split = ap (λ l. l ++ (f ∷ [])) x.split ∙ append_assoc x.earlier (e ∷ x.later) (f ∷ []);
  led_here = x.led_here;
  not_before = x.not_before;
}

-- The way back from v: v was first reached by its first edge, and so on.
data FirstWay (g : Graph) (start : ℕ) (c : List ℕ) : ℕ → List ℕ → Type 0 where
  at_home : {v : ℕ} → FirstWay g start c v []
  came_by : {v e : ℕ} {way : List ℕ} → FirstReached g start c v e → FirstWay g start c (far_end g e v) way → FirstWay g start c v (e ∷ way)

way_still : {g : Graph} {start : ℕ} {c : List ℕ} {v : ℕ} {way : List ℕ} (f : ℕ) → FirstWay g start c v way → FirstWay g start (c ++ (f ∷ [])) v way
way_still f at_home = at_home
way_still f (came_by x w) = came_by (first_still f x) (way_still f w)

-- the first edge of the way, and the rest
way_parts : {g : Graph} {start v e : ℕ} {c way : List ℕ} → FirstWay g start c v (e ∷ way) → FirstReached g start c v e × FirstWay g start c (far_end g e v) way
way_parts (came_by x w) = (x, w)

-- one crossing more by the rule
more_ruled : {g : Graph} {t : Tree} (c : List ℕ) (f : ℕ) → EachByRule g t [] c → ByRule g t c f → EachByRule g t [] (c ++ (f ∷ []))
more_ruled {g} {t} c f rule r earlier e later q = go (cut_more c f earlier e later q)
  where
    go : LastOrBefore c f earlier e → ByRule g t earlier e
    go (at_last p s) = rw (p, s) r
    go (before_last rest p) = rule earlier e rest p

module _ {g : Graph} {t : Tree} (tree : IsTree g t) where
  -- the walk goes on to where it has not been, since the tree has no loop
  fresh : {s : Underway} {e : ℕ} → Reached g t s → IsLeft g t s.crossings s.stop e → far_end g e s.stop ∈ stops_from g t.start s.crossings → ⊥
  unfolding touches
  fresh {s} {e} r left m = loop (joins_far e s.stop left.at_stop)
    where
      others : (f : ℕ) → f ∈ s.crossings → f ∈ without e t.edges
      others f n = in_without e (r.of_tree f (crossed_walked g t r f n)) (λ q. left.not_walked (Memᴰ.cast q n))

      linked : Linked g (without e t.edges) s.stop (far_end g e s.stop)
      linked = linked_more others (linked_on (linked_back (walk_linked r.led)) (passed_linked r.led m))

      loop : Joins g e s.stop (far_end g e s.stop) → ⊥
      loop (onward p q) = tree.no_loop e left.of_tree (linked_on (linked_same (sym p)) (linked_on linked (linked_same q)))
      loop (back p q) = tree.no_loop e left.of_tree (linked_back (linked_on (linked_same (sym p)) (linked_on linked (linked_same q))))

  -- Where the walk is: the crossings went by the rule, and the way back is by the edges by which its stops were first reached.
  record Ruled (s : Underway) : Type 0 where
    reached : Reached g t s
    ruled : EachByRule g t [] s.crossings
    first : FirstWay g t.start s.crossings s.stop s.way

  -- it is at the last stop of its crossings
  here : {s : Underway} → Ruled s → last_stop g t.start s.crossings ≡ s.stop
  here r = walk_last r.reached.led

  ruled_start : Ruled (underway t.start [] [])
  ruled_start = record { reached = reached_start g t; ruled = λ earlier e later q. absurd (some_not_none earlier e later q); first = at_home }

  ruled_on : (s : Underway) (e : ℕ) → Ruled s → next_edge g t s.stop s.crossings ≡ some e → Ruled (crossed g s e (e ∷ s.way))
  unfolding crossed
  ruled_on s e r q = record {
    reached = reached_on g t s e r.reached q;
    ruled = more_ruled s.crossings e r.ruled (lowest_first (rw (here r) (next_lowest g t s.stop s.crossings tree q)));
    first = came_by by (way_still e before);
  }
    where
      left : IsLeft g t s.crossings s.stop e
      left = next_left g t s.stop s.crossings q

      joins : Joins g e s.stop (far_end g e s.stop)
      joins = unfold touches in joins_far e s.stop left.at_stop

      before : FirstWay g t.start s.crossings (far_end g e (far_end g e s.stop)) s.way
      before = rw (far_end_lem (joins_back joins)) r.first

      by : FirstReached g t.start (s.crossings ++ (e ∷ [])) (far_end g e s.stop) e
      by = record { earlier = s.crossings; later = []; split = refl; led_here = ap (far_end g e) (here r); not_before = fresh r.reached left }

  ruled_home : (s : Underway) (e : ℕ) (way : List ℕ) → Ruled s → next_edge g t s.stop s.crossings ≡ none → s.way ≡ e ∷ way → Ruled (crossed g s e way)
  unfolding crossed
  ruled_home s e way r q w =
      let (x, rest) = way_parts (rw w at r.first) in
      record {
        reached = reached_home g t s e way r.reached q w;
        ruled = more_ruled s.crossings e r.ruled (walked_back (rw (here r) out) (rw (here r) x));
        first = way_still e rest;
      }
    where
      out : (f : ℕ) → IsLeft g t s.crossings s.stop f → ⊥
      out f l = l.not_walked (next_none g t s.stop s.crossings q f l.of_tree l.at_stop)

  -- The walk is closed, crosses each edge twice and no other, and goes by the rule.
  pub closed_walk_is : IsClosedWalk g t (closed_walk g t).crossings
  closed_walk_is = record {
    leads = closed_walk_closed tree;
    each_twice = each_twice tree;
    no_other = crossed_of_tree tree;
    by_rule = unfold closed_walk in (turns_keep g t Ruled ruled_start ruled_on ruled_home (2 * length t.edges)).ruled;
  }

  -- After it no crossing goes by the rule: at the start nothing is left, and no edge led there first.
  pub closed_walk_stuck : (e : ℕ) → ByRule g t (closed_walk g t).crossings e → ⊥
  closed_walk_stuck e (lowest_first l) = l.is_left.not_walked (crosses_each tree e l.is_left.of_tree)
  closed_walk_stuck e (walked_back out f) = f.not_before (Memᴰ.cast (walk_last (closed_walk_closed tree)) (first_stop g t.start f.earlier))

  -- Whatever goes by the rule is a front of it.
  pub by_rule_front : (crossings : List ℕ) → EachByRule g t [] crossings → (rest : List ℕ) × ((closed_walk g t).crossings ≡ crossings ++ rest)
  by_rule_front crossings rule = front_of [] crossings (closed_walk g t).crossings rule closed_walk_is.by_rule closed_walk_stuck

  -- "So the walk is unique."
  pub closed_walk_only : (crossings : List ℕ) → IsClosedWalk g t crossings → crossings ≡ (closed_walk g t).crossings
  closed_walk_only crossings is =
      let (rest, q) = by_rule_front crossings is.by_rule in
      sym (q ∙ ap (λ l. crossings ++ l) (empty_list rest (left_over rest q)) ∙ append-nil crossings)
    where
      -- an edge that was left over would be crossed a third time
      left_over : (rest : List ℕ) → (closed_walk g t).crossings ≡ crossings ++ rest → (e : ℕ) → e ∈ rest → ⊥
      left_over rest q e m =
          let n : e ∈ t.edges = crossed_of_tree tree e (rw q (Memᴰ.append_right crossings m)) in
          omega (arith, is.each_twice e n, each_twice tree e n, ap (times e) q, times_append e crossings rest, in_times m)

  -- Both ways.
  pub closed_walk_exactly : (crossings : List ℕ) → IsClosedWalk g t crossings ↔ (crossings ≡ (closed_walk g t).crossings)
  closed_walk_exactly crossings = (closed_walk_only crossings, λ q. rw q closed_walk_is)
