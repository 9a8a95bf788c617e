-- Elements with different images: where no image stands twice in a mapped list, elements with one image are one, and the other way round.
-- Assumes nothing.
use mathlib.Core.Path.{◌≡◌, sym, ap, ◌∙◌}
use mathlib.Core.List.Memᴰ
use mathlib.Core.List.{[], List, ◌∷◌, map}
use Rattle.lists.specs.Member.{◌∈◌}
use Rattle.lists.proofs.Member.{in_map, of_map}
use Rattle.lists.proofs.InOrder.{InOrder, none, next, Once, first_before, rest_in_order, in_order_within}

-- Where no image stands twice, elements with one image are one.
pub same_image {ℓ κ} : {A : Type ℓ} {B : Type κ} (f : A → B) (xs : List A) → Once (map f xs) → {x y : A} → x ∈ xs → y ∈ xs → f x ≡ f y → x ≡ y
same_image {A = A} {B = B} f [] once {x = x} {y = y} x6 _ e = elim x6 [ ]
same_image f (z ∷ zs) once (Memᴰ.head p) (Memᴰ.head q) e = p ∙ sym q
same_image f (z ∷ zs) once {x} {y} (Memᴰ.head p) (Memᴰ.tail n) e = absurd (first_before once (f y) (in_map f n) (sym (ap f p) ∙ e))
same_image f (z ∷ zs) once {x} {y} (Memᴰ.tail m) (Memᴰ.head q) e = absurd (first_before once (f x) (in_map f m) (sym (ap f q) ∙ sym e))
same_image f (z ∷ zs) once (Memᴰ.tail m) (Memᴰ.tail n) e = same_image f zs (rest_in_order once) m n e

-- What stands in order by its images has its images in order.
pub images_in_order {ℓ κ μ} : {A : Type ℓ} {B : Type κ} {S : B → B → Type μ} (f : A → B) {xs : List A} → InOrder (λ (x y : A). S (f x) (f y)) xs → InOrder S (map f xs)
images_in_order f none = none
images_in_order {A = A} {B = B} {S = S} f (next {x = x} {xs = xs} h r) = next (λ y m. each y (of_map f xs m)) (images_in_order f r)
  where
    each : (y : B) → (z : A) × (z ∈ xs) × (y ≡ f z) → S (f x) y
    each y (z, m, q) = rw q (h z m)

-- So where each element stands once, and no two have one image, each image stands once.
pub images_once {ℓ κ} : {A : Type ℓ} {B : Type κ} (f : A → B) {xs : List A} → Once xs → ((x y : A) → x ∈ xs → y ∈ xs → f x ≡ f y → x ≡ y) → Once (map f xs)
images_once f once apart = images_in_order f (in_order_within once (λ x y m n other q. other (apart x y m n q)))
