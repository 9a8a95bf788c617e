-- How an array that the code holds is tied to the labels that the definitions speak of.
-- Assumes nothing.
use Rattle.std.specs.Prelude.{ℕ, ◌<◌, ◌≡◌, List, get_or}
use Rattle.rules.specs.Labels.{Labels}

-- The array has the label of each vertex below n. Whatever it holds, it has some labels: its own elements.
abbrev pub Agrees : ℕ → List ℕ → Labels → Type 0
Agrees n array label = (v : ℕ) → v < n → get_or array v 0 ≡ label v
