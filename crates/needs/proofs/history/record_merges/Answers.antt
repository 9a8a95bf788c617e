-- `needs::history::record_merges` meets its contract: all vertices begin apart, and no merge is noted. Assumes nothing.
use mathlib.Core.Path.{ap, ◌∙◌}
use native.Mathlib.Omega.{arith}
use lib.ListN.{length-set}
use lib.Seq.{get_or-set_same}
use Rattle.lists.proofs.OnlyFirst.{only_first_none, only_first_store, only_first_on}
use Rattle.lists.proofs.Zeros.{zeros_at}
use Rattle.forest_laws.proofs.Roots.{together_none}
use Rattle.needs.proofs.history.record_merges.Goals as goal

pub merge_all-requires : goal.merge_all-requires
merge_all-requires c =
    record {
      history = record { forest_kept = c.requires.forest_kept; total_most = omega (arith, length-set c.args.total.now 0 0, c.requires.total_most); until_most = c.requires.until_most };
      labels_room = omega (arith, c.requires.forest_kept.valid.vertices_most);
      labels = λ v h. c.start_labels.ensures.labels v (omega (arith, c.vertex_count.ensures.is)) ∙ ap (λ label. label v) together_none;
      made_room = omega (arith, c.requires.forest_kept.valid.vertices_most);
      made_none = zeros_at 256;
      none = get_or-set_same c.args.total.now 0 0 0 (omega (arith, c.requires.total_most));
    }

pub returns : goal.returns
returns c =
    record {
      history = c.merge_all.ensures.written.history;
      total_rest = only_first_on (only_first_store (only_first_none _ c.args.total.now) 0 0 (omega arith)) c.merge_all.ensures.written.total_rest;
      until_rest = c.merge_all.ensures.written.until_rest;
    }
