-- Lists made for each element and joined: what stands there stands in the list of some element, how many elements there are, and one element more.
-- Assumes nothing.
use Prim.Native.Nat.{ℕ, ◌+◌, ◌≤◌, ◌<◌}
use mathlib.Core.Path.{◌≡◌, refl, sym, ap, ◌∙◌}
use mathlib.Core.List.Memᴰ
use mathlib.Core.List.{List, [], ◌∷◌, ◌++◌, map, append-nil, append_assoc}
use native.Mathlib.Numerals.{add-one}
use native.Mathlib.Omega.{arith}
use lib.ListN.{length, take, get_or, length-append}
use lib.Seq.{take-suc}
use Rattle.lists.specs.Lists.{flat}
use Rattle.lists.specs.Member.{◌∈◌}
use Rattle.lists.proofs.Member.{in_flat, of_flat, in_map, of_map}

module _ {ℓ κ} {A : Type ℓ} {B : Type κ} (f : A → List B) where
  pub in_flat_map : {y : B} {x : A} {xs : List A} → x ∈ xs → y ∈ f x → y ∈ flat (map f xs)
  in_flat_map m n = in_flat (in_map f m) n

  pub of_flat_map : {y : B} (xs : List A) → y ∈ flat (map f xs) → (x : A) × (x ∈ xs) × (y ∈ f x)
  of_flat_map xs m =
      let (l, i, n) = of_flat (map f xs) m in
      let (x, k, q) = of_map f xs i in
      (x, k, rw q at n)

  -- one element more
  pub flat_map_more : (xs : List A) (x : A) → flat (map f (xs ++ (x ∷ []))) ≡ flat (map f xs) ++ f x
  unfolding flat
  flat_map_more [] x = append-nil (f x)
  flat_map_more (y ∷ ys) x = ap (λ l. f y ++ l) (flat_map_more ys x) ∙ sym (append_assoc (f y) (flat (map f ys)) (f x))

  -- the same, by the place up to which the elements are taken
  pub flat_map_next : (xs : List A) (i : ℕ) (d : A) → i < length xs → flat (map f (take (i + 1) xs)) ≡ flat (map f (take i xs)) ++ f (get_or xs i d)
  flat_map_next xs i d h =
      ap (λ n. flat (map f (take n xs))) (add-one i) ∙ ap (λ l. flat (map f l)) (take-suc xs i d h) ∙ flat_map_more (take i xs) (get_or xs i d)

-- where no list is empty, there are at least as many elements as lists
pub flat_map_some {ℓ κ} : {A : Type ℓ} {B : Type κ} (f : A → List B) (xs : List A) → ((x : A) → x ∈ xs → 1 ≤ length (f x)) → length xs ≤ length (flat (map f xs))
unfolding flat
flat_map_some f [] some = omega arith
flat_map_some f (x ∷ xs) some =
    omega (arith, length-append (f x) (flat (map f xs)), some x (Memᴰ.head refl), flat_map_some f xs (λ y m. some y (Memᴰ.tail m)))
