-- `reply_text::trees::put_tree` meets its contract: the word, the start, the weight, the edges and the newline, one behind the other.
-- Assumes nothing.
use Prim.Native.Nat.{ℕ, ◌+◌}
use mathlib.Core.Path.{◌≡◌, ap}
use native.Mathlib.Omega.{arith}
use lib.ListN.{length, length-append}
use Rattle.lists.proofs.Put.{put_behind}
use Rattle.graph.specs.Graph.{Graph}
use Rattle.rules.specs.Cover.{Tree, tree_weight}
use Rattle.reply_text.specs.Lines.{bytes_of, spaced, all_spaced}
use Rattle.reply_text.specs.Text.{tree_line}
use Rattle.reply_text.specs.Trees.{run_tree}
use Rattle.reply_text.proofs.TreeLines.{from_start, from_weight, from_edges, tree_parts}
use Rattle.reply_text.proofs.trees.put_tree.Goals as goal

-- How long the line is, part by part.
line_length : (g : Graph) (t : Tree)
    → length (tree_line g t) ≡ 4 + length (spaced t.start) + length (spaced (tree_weight g t)) + length (all_spaced t.edges) + 1
line_length g t =
    omega (
      arith,
      ap length (tree_parts g t),
      length-append (bytes_of "tree") (from_start g t),
      length-append (spaced t.start) (from_weight g t),
      length-append (spaced (tree_weight g t)) (from_edges g t),
      length-append (all_spaced t.edges) (bytes_of "\n"),
    )

-- The same number is as long.
spaced_same : {x y : ℕ} → x ≡ y → length (spaced x) ≡ length (spaced y)
spaced_same q = ap (λ x. length (spaced x)) q

pub put_word-behind_word-requires : goal.put_word-behind_word-requires
put_word-behind_word-requires c = omega (arith, line_length)

pub put_spaced-behind_start-requires : goal.put_spaced-behind_start-requires
put_spaced-behind_start-requires c = omega (arith, line_length, spaced_same c.start_in.ensures.is)

pub put_spaced-behind_weight-requires : goal.put_spaced-behind_weight-requires
unfolding tree_weight
put_spaced-behind_weight-requires c = omega (arith, line_length, spaced_same c.start_in.ensures.is, spaced_same c.run_weight-weight.ensures)

pub put_run-behind_edges-requires : goal.put_run-behind_edges-requires
unfolding tree_weight
put_run-behind_edges-requires c = omega (arith, line_length, spaced_same c.start_in.ensures.is, spaced_same c.run_weight-weight.ensures)

pub put_word-requires : goal.put_word-requires
unfolding tree_weight
put_word-requires c = omega (arith, line_length, spaced_same c.start_in.ensures.is, spaced_same c.run_weight-weight.ensures)

pub returns : goal.returns
unfolding tree_weight
returns c =
    let tree : Tree = run_tree c.args.c.now c.args.j c.args.from c.args.to in
    let start = rw c.start_in.ensures.is at c.put_spaced-behind_start.ensures in
    let weight = rw c.run_weight-weight.ensures at c.put_spaced-behind_weight.ensures in
    rw (tree_parts c.args.g.now tree)
    (put_behind c.put_word-behind_word.ensures (put_behind start (put_behind weight (put_behind c.put_run-behind_edges.ensures c.put_word.ensures))))
