-- What the program prints of each reply (document 01, "The program `rounds`", "Output").
-- Assumes nothing.
use Rattle.std.specs.Prelude.{ℕ, List, [], ◌∷◌, ◌++◌, map, length}
use Rattle.lists.specs.Lists.{flat}
use Rattle.graph.specs.Graph.{Graph}
use Rattle.rules.specs.Cover.{Tree, tree_weight}
use Rattle.rules.specs.Reply.{Reply, refused, covered, too_low_stop, too_low_parts, too_low_needs, no_cover}
use Rattle.reply_text.specs.Lines.{bytes_of, spaced, line}

-- "Per tree `tree` start weight and its lines."
unfoldable pub tree_line : Graph → Tree → List ℕ
tree_line g t = line "tree" (t.start ∷ tree_weight g t ∷ t.edges)

-- The lines of several trees, one after the other.
unfoldable pub tree_lines : Graph → List Tree → List ℕ
tree_lines g trees = flat (map (tree_line g) trees)

-- "Output: `cover` limit heaviest t, then per tree `tree` start weight and its lines; or `too low stop` v, `too low parts` T `yards` D,
-- `too low needs` C, `no cover`, `refused` number."
unfoldable pub text_of : Graph → Reply → List ℕ
text_of g (covered limit heaviest trees) = line "cover" (limit ∷ heaviest ∷ length trees ∷ []) ++ tree_lines g trees
text_of g (too_low_stop v) = line "too low stop" (v ∷ [])
text_of g (too_low_parts T D parts) = bytes_of "too low parts" ++ (spaced T ++ line " yards" (D ∷ []))
text_of g (too_low_needs C) = line "too low needs" (C ∷ [])
text_of g no_cover = line "no cover" []
text_of g (refused number) = line "refused" (number ∷ [])
