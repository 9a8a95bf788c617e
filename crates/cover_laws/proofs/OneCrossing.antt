-- The rule allows one crossing at a time: after the same crossings two that go by the rule are the same. So where one walk goes by the rule as far as that
-- goes, every other that goes by it is the same as far as it goes.
-- Assumes nothing.
use Prim.Native.Nat.{ℕ}
use mathlib.Core.Path.{◌≡◌, refl, sym, ap, ap₂, subst, ◌∙◌}
use mathlib.Core.List.Memᴰ
use mathlib.Core.List.{List, [], ◌∷◌, ◌++◌, append_assoc}
use native.Mathlib.Omega.{arith}
use Rattle.lists.specs.Member.{◌∈◌}
use Rattle.lists.proofs.Cuts.{WhichFirst, together, first_one, first_other, which_first}
use Rattle.graph.specs.Graph.{Graph}
use Rattle.rules.specs.Cover.{Tree}
use Rattle.rules.specs.Grow.{far_end}
use Rattle.rules.specs.ClosedWalk.{stops_from}
use Rattle.rules.specs.WalkRule.{last_stop, FirstReached, ByRule, lowest_first, walked_back}
use Rattle.rules.proofs.WalkStops.{first_stop}

-- where an edge of a walk leads is passed
led_passed : (g : Graph) (u : ℕ) (earlier : List ℕ) (e : ℕ) (later : List ℕ) → far_end g e (last_stop g u earlier) ∈ stops_from g u (earlier ++ (e ∷ later))
unfolding stops_from last_stop
led_passed g u [] e later = Memᴰ.tail (first_stop g (far_end g e u) later)
led_passed g u (d ∷ earlier) e later = Memᴰ.tail (led_passed g (far_end g d u) earlier e later)

-- Each crossing of the path goes by the rule, after the crossings before the path.
abbrev pub EachByRule : Graph → Tree → List ℕ → List ℕ → Type 0
EachByRule g t before path = (earlier : List ℕ) (e : ℕ) (later : List ℕ) → path ≡ earlier ++ (e ∷ later) → ByRule g t (before ++ earlier) e

module _ {g : Graph} where
  -- a stop is first reached by one edge
  first_same : {start v e f : ℕ} {c : List ℕ} → FirstReached g start c v e → FirstReached g start c v f → e ≡ f
  first_same {start} {v} {e} {f} x y = go (which_first x.earlier e x.later y.earlier f y.later (sym x.split ∙ y.split))
    where
      go : WhichFirst x.earlier e y.earlier f → e ≡ f
      go (together q) = q
      go (first_one rest q) = absurd (y.not_before (Memᴰ.cast (sym x.led_here) (rw q (led_passed g start x.earlier e rest))))
      go (first_other rest q) = absurd (x.not_before (Memᴰ.cast (sym y.led_here) (rw q (led_passed g start y.earlier f rest))))

  module _ {t : Tree} where
    -- two crossings by the rule are the same
    by_rule_same : {c : List ℕ} {e f : ℕ} → ByRule g t c e → ByRule g t c f → e ≡ f
    by_rule_same {e = e} {f = f} (lowest_first a) (lowest_first b) = omega (arith, a.lowest f b.is_left, b.lowest e a.is_left)
    by_rule_same {e = e} (lowest_first a) (walked_back out b) = absurd (out e a.is_left)
    by_rule_same {f = f} (walked_back out a) (lowest_first b) = absurd (out f b.is_left)
    by_rule_same (walked_back out a) (walked_back out' b) = first_same a b

    -- what goes by the rule does so behind its first crossing too
    each_later : (before : List ℕ) (x : ℕ) (path : List ℕ) → EachByRule g t before (x ∷ path) → EachByRule g t (before ++ (x ∷ [])) path
    each_later before x path rule earlier e later q = rw (append_assoc before (x ∷ []) earlier) (rule (x ∷ earlier) e later (ap (λ l. x ∷ l) q))

    -- where d goes by the rule as far as that goes, whatever goes by the rule is a front of d
    pub front_of : (before c d : List ℕ) → EachByRule g t before c → EachByRule g t before d → ((e : ℕ) → ByRule g t (before ++ d) e → ⊥)
        → (rest : List ℕ) × (d ≡ c ++ rest)
    front_of before [] d rc rd stuck = (d, refl)
    front_of before (x ∷ c) [] rc rd stuck = absurd (stuck x (rc [] x c refl))
    front_of before (x ∷ c) (y ∷ d) rc rd stuck =
        let p : y ≡ x = by_rule_same (rd [] y d refl) (rc [] x c refl) in
        let rd' : EachByRule g t before (x ∷ d) = subst (λ z. EachByRule g t before (z ∷ d)) p rd in
        let stuck' : (e : ℕ) → ByRule g t ((before ++ (x ∷ [])) ++ d) e → ⊥ = λ e r. stuck e (rw (append_assoc before (x ∷ []) d, ← p) at r) in
        let (rest, q) = front_of (before ++ (x ∷ [])) c d (each_later before x c rc) (each_later before x d rd') stuck' in
        (rest, ap₂ (λ z l. z ∷ l) p q)
