-- Relaxing arcs: where a vertex is nearer over an arc, it takes that distance, and the arc's edge as its last.
-- Assumes nothing.
use Rattle.std.specs.Prelude.{ℕ, ◌+◌, ◌≤◌, ◌<◌, ◌≡◌, List, length, get_or}
use Rattle.edges.specs.Around.{arc_edge, arc_head, arc_weight}
use Rattle.waiting.specs.Last.{last_of}
use Rattle.waiting.specs.Waiting.{key_of, Blocks}

-- a is one of the arcs at the places from lo up to hi.
pub record ArcIn (arcs : List ℕ) (lo hi a : ℕ) : Type 0 where
  pub place : ℕ
  pub from : lo ≤ place
  pub to : place < hi
  pub is : a ≡ get_or arcs place 0

-- a is one of the arcs of u.
abbrev pub ArcAt : List ℕ → List ℕ → ℕ → ℕ → Type 0
ArcAt bounds arcs u a = ArcIn arcs (get_or bounds u 0) (get_or bounds (u + 1) 0) a

-- What becomes of a vertex v when arcs of u are relaxed: it keeps its distance and its last edge, or is nearer than before over one of the arcs.
pub data Becomes (arcs : List ℕ) (lo hi u v : ℕ) (dist last dist_after last_after : List ℕ) : Type 0 where
  same : get_or dist_after v 0 ≡ get_or dist v 0 → get_or last_after v 0 ≡ get_or last v 0 → Becomes arcs lo hi u v dist last dist_after last_after
  nearer : {a : ℕ} → ArcIn arcs lo hi a → v ≡ arc_head a → get_or dist_after v 0 ≡ get_or dist u 0 + arc_weight a → get_or dist_after v 0 < get_or dist v 0
      → get_or last_after v 0 ≡ last_of (arc_edge a) u → Becomes arcs lo hi u v dist last dist_after last_after

-- The arcs of u at the places from lo up to hi are relaxed: each vertex becomes what it may, and none could be lower over any of the arcs.
pub record Relaxed (arcs : List ℕ) (lo hi u : ℕ) (dist last dist_after last_after : List ℕ) : Type 0 where
  pub each : (v : ℕ) → Becomes arcs lo hi u v dist last dist_after last_after
  pub lowest : (a : ℕ) → ArcIn arcs lo hi a → get_or dist_after (arc_head a) 0 ≤ get_or dist u 0 + arc_weight a

-- Whoever keeps its distance keeps its key, or has none as before; whoever is nearer has the key of its new distance.
pub data Rekeyed (v : ℕ) (dist wait dist_after wait_after : List ℕ) : Type 0 where
  key_kept : get_or dist_after v 0 ≡ get_or dist v 0 → get_or wait_after v 0 ≡ get_or wait v 0 → Rekeyed v dist wait dist_after wait_after
  key_new : get_or dist_after v 0 < get_or dist v 0 → get_or wait_after v 0 ≡ key_of (get_or dist_after v 0) v → Rekeyed v dist wait dist_after wait_after

-- What relaxing all arcs of u asks: they lead to vertices, no vertex has a lower key than that of its distance, and each has a place in every array.
pub record Relaxable (bounds arcs : List ℕ) (u : ℕ) (dist last wait low : List ℕ) : Type 0 where
  pub vertices : ℕ
  pub few : vertices ≤ 256
  pub vertex : u < vertices
  pub bounded : u + 1 < length bounds
  pub rising : get_or bounds u 0 ≤ get_or bounds (u + 1) 0
  pub within : get_or bounds (u + 1) 0 ≤ length arcs
  pub heads : (a : ℕ) → ArcAt bounds arcs u a → arc_head a < vertices
  pub dist_room : vertices ≤ length dist
  pub last_room : vertices ≤ length last
  pub blocks : Blocks wait low
  pub no_lower : (v : ℕ) → v < vertices → key_of (get_or dist v 0) v ≤ get_or wait v 0

-- All arcs of u are relaxed, and whoever is nearer by that waits.
pub record AllRelaxed (bounds arcs : List ℕ) (u : ℕ) (dist last wait dist_after last_after wait_after low_after : List ℕ) : Type 0 where
  pub relaxed : Relaxed arcs (get_or bounds u 0) (get_or bounds (u + 1) 0) u dist last dist_after last_after
  pub blocks : Blocks wait_after low_after
  pub rekeyed : (v : ℕ) → Rekeyed v dist wait dist_after wait_after
