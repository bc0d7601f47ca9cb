use Rattle.std.proofs.Common.{◌++◌}
use Rattle.std.proofs.lemmas.List.Sorted.{IsPermutation-trans}
use Rattle.rl_store.specs.Merging.{picked}
use Rattle.rl_store.proofs.MergedLemmas.{sorted_pairs}
use Rattle.rl_store.proofs.merging.merged.Goals as goal

pub returns : goal.returns
returns c = sorted_pairs (c.args.fresh.items ++ picked c.args.marks.items c.args.pairs.items) c.sort.new.pairs.items c.requires.distinct
    (IsPermutation-trans _ c.gather.new.into.items _ c.gather.ensures c.sort.ensures.moved) c.sort.ensures.order
