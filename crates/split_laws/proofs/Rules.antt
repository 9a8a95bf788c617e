-- The one induction over branches by which facts of all parts and of the leftover are proved: it is enough to know what settling a
-- child's piece does. P is to hold of every part, Q of every bunch at its vertex, and R is known along the branches.
-- Assumes nothing.
use Prim.Native.Nat.{ℕ}
use mathlib.Core.Path.{◌≡◌, refl, sym, subst}
use mathlib.Core.Bool.{Bool, true, false, cond}
use mathlib.Core.List.Memᴰ
use mathlib.Core.List.{List, [], ◌∷◌, ◌++◌}
use mathlib.Core.Logic.{◌⊎◌, inl, inr}
use Rattle.lists.specs.Member.{◌∈◌}
use Rattle.graph.specs.Graph.{Graph}
use Rattle.rules.specs.Cover.{Tree}
use Rattle.rules.specs.Grow.{Branches}
use Rattle.rules.specs.Split.{Pieces, reaches, part_at, settle, split_at}
use Rattle.split_laws.proofs.Along.{Along, bare, fork}

-- The three ways of settling: the piece is a part alone, the bunch with the piece is a part, or the piece joins the bunch.
pub settle_cases {κ} : (g : Graph) (H v : ℕ) (bunch piece : List ℕ) (S : Pieces → Type κ)
    → (reaches g H piece ≡ true → S (record { parts = part_at v piece ∷ []; left = bunch }))
    → (reaches g H piece ≡ false → reaches g H (bunch ++ piece) ≡ true → S (record { parts = part_at v (bunch ++ piece) ∷ []; left = [] }))
    → (reaches g H piece ≡ false → reaches g H (bunch ++ piece) ≡ false → S (record { parts = []; left = bunch ++ piece }))
    → S (settle g H v bunch piece)
unfolding settle
settle_cases g H v bunch piece S alone full more = go (reaches g H piece) (reaches g H (bunch ++ piece)) alone full more
  where
    go : (a b : Bool)
        → (a ≡ true → S (record { parts = part_at v piece ∷ []; left = bunch }))
        → (a ≡ false → b ≡ true → S (record { parts = part_at v (bunch ++ piece) ∷ []; left = [] }))
        → (a ≡ false → b ≡ false → S (record { parts = []; left = bunch ++ piece }))
        → S (cond a (record { parts = part_at v piece ∷ []; left = bunch })
        (cond b (record { parts = part_at v (bunch ++ piece) ∷ []; left = [] })
        (record { parts = []; left = bunch ++ piece })))
    go true b x y z = x refl
    go false true x y z = y refl refl
    go false false x y z = z refl refl

-- P holds of every part and Q of what is left.
pub record PiecesHold (P : Tree → Type 0) (Q : List ℕ → Type 0) (s : Pieces) : Type 0 where
  pub of_parts : (t : Tree) → t ∈ s.parts → P t
  pub of_left : Q s.left

-- What is to be known of settling: the piece is e with what is left below the child.
pub record Rules (g : Graph) (H : ℕ) (R : ℕ → ℕ → ℕ → Type 0) (P : Tree → Type 0) (Q : ℕ → List ℕ → Type 0) : Type 0 where
  pub empty : (v : ℕ) → Q v []
  pub alone : {v e child : ℕ} {below : List ℕ} → R v e child → Q child below → reaches g H (e ∷ below) ≡ true → P (part_at v (e ∷ below))
  pub full : {v e child : ℕ} {bunch below : List ℕ} → R v e child → Q v bunch → Q child below
      → reaches g H (e ∷ below) ≡ false → reaches g H (bunch ++ (e ∷ below)) ≡ true → P (part_at v (bunch ++ (e ∷ below)))
  pub more : {v e child : ℕ} {bunch below : List ℕ} → R v e child → Q v bunch → Q child below
      → reaches g H (bunch ++ (e ∷ below)) ≡ false → Q v (bunch ++ (e ∷ below))

module _ {g : Graph} {H : ℕ} {R : ℕ → ℕ → ℕ → Type 0} {P : Tree → Type 0} {Q : ℕ → List ℕ → Type 0} (rules : Rules g H R P Q) where
  single : {u : Tree} → P u → (t : Tree) → t ∈ (u ∷ []) → P t
  single h t (Memᴰ.head q) = subst P (sym q) h
  single h t (Memᴰ.tail m) = absurd (Memᴰ.not-nil m)

  settle_holds : {v e child : ℕ} {bunch below : List ℕ} → R v e child → Q v bunch → Q child below → PiecesHold P (Q v) (settle g H v bunch (e ∷ below))
  settle_holds {v} {e} {child} {bunch} {below} r q s =
      settle_cases g H v bunch (e ∷ below) (PiecesHold P (Q v))
      (λ a. record { of_parts = single (rules.alone r s a); of_left = q })
      (λ a b. record { of_parts = single (rules.full r q s a b); of_left = rules.empty v })
      (λ a b. record { of_parts = λ t m. absurd (Memᴰ.not-nil m); of_left = rules.more r q s b })

  -- Then P holds of every part of the branches, and Q of what is left.
  pub split_holds : {v : ℕ} {b : Branches} → Along R v b → {bunch : List ℕ} → Q v bunch → PiecesHold P (Q v) (split_at g H v bunch b)
  unfolding split_at
  split_holds bare q = record { of_parts = λ t m. absurd (Memᴰ.not-nil m); of_left = q }
  split_holds (fork {v = v} {e = e} {child = child} {under = under} {later = later} r x y) {bunch} q =
      let inner = split_holds x (rules.empty child) in
      let met = settle_holds r q inner.of_left in
      let rest = split_holds y met.of_left in
      record { of_parts = λ t m. go inner met rest t m; of_left = rest.of_left }
    where
      go : {s u w : Pieces} → PiecesHold P (Q child) s → PiecesHold P (Q v) u → PiecesHold P (Q v) w → (t : Tree) → t ∈ (s.parts ++ (u.parts ++ w.parts)) → P t
      go {s} {u} {w} a b c t m = outer (Memᴰ.append_cases s.parts m)
        where
          inside : (t ∈ u.parts) ⊎ (t ∈ w.parts) → P t
          inside (inl n) = b.of_parts t n
          inside (inr n) = c.of_parts t n

          outer : (t ∈ s.parts) ⊎ (t ∈ (u.parts ++ w.parts)) → P t
          outer (inl n) = a.of_parts t n
          outer (inr n) = inside (Memᴰ.append_cases u.parts n)
