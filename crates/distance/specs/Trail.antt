-- The last edges of paths: for each vertex reached, the last edge of a path to it and the vertex before it.
-- Followed back from a vertex, they are its trail, which ends at the root.
-- Assumes nothing.
use Rattle.std.specs.Prelude.{ℕ, zero, suc, ◌≤◌, ◌<◌, ◌≡◌, cond, List, [], ◌∷◌, length, get_or, eqb}
use Rattle.waiting.specs.Last.{last_edge, vertex_before}

-- The edges are those of the trail from v, the last edge first: none at the root, and elsewhere the last edge and the trail from the
-- vertex before it.
pub data IsTrail (last : List ℕ) (root : ℕ) : List ℕ → ℕ → Type 0 where
  home : {v : ℕ} → v ≡ root → IsTrail last root [] v
  over : {v e : ℕ} {edges : List ℕ} → (v ≡ root → ⊥) → v < length last → e ≡ last_edge (get_or last v 0)
      → IsTrail last root edges (vertex_before (get_or last v 0)) → IsTrail last root (e ∷ edges) v

-- There is a trail from v, of fewer than n edges.
pub record HasTrail (n : ℕ) (last : List ℕ) (root v : ℕ) : Type 0 where
  pub edges : List ℕ
  pub is : IsTrail last root edges v
  pub few : length edges < n

-- The trail from v as a function of the array; the first number bounds its length.
unfoldable pub trail_in : ℕ → List ℕ → ℕ → ℕ → List ℕ
trail_in zero last root v = []
trail_in (suc most) last root v =
    let before = trail_in most last root (vertex_before (get_or last v 0)) in
    cond (eqb v root) [] (last_edge (get_or last v 0) ∷ before)

-- No trail has more edges than the array has elements.
unfoldable pub trail_of : List ℕ → ℕ → ℕ → List ℕ
trail_of last root v = trail_in (length last) last root v

-- What following the last edges back from v asks: there is a trail, no longer than the array is, and room for its edges.
pub record CanGoBack (last : List ℕ) (root v room : ℕ) : Type 0 where
  pub edges : List ℕ
  pub is : IsTrail last root edges v
  pub short : length edges ≤ length last
  pub fits : length edges ≤ room
