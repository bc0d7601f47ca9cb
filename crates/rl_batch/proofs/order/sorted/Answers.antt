use Rattle.std.proofs.Common.{◌≡◌, List, map, sym, subst}
use Rattle.std.specs.Prelude.{All, slice_get, Some}
use Rattle.std.specs.List.Sorted.{IsPermutation}
use Rattle.std.proofs.lemmas.List.Sorted.{All-permutation}
use Rattle.rl_book_spec.specs.Batches.{Numbered}
use Rattle.rl_batch.specs.Split.{seen}
use Rattle.rl_batch.proofs.DistinctLemmas.{numbered_there, sorted_rows}
use Rattle.rl_batch.proofs.order.sorted.Goals as goal

pub returns-clause-order : goal.returns-clause-order
returns-clause-order c =
    sorted_rows c.args.registry.now c.count-count.ensures.distinct c.args.rows.now (map seen c.sort.new.rows.items) c.requires.once
    (subst (λ (xs : List Numbered). IsPermutation xs (map seen c.sort.new.rows.items)) c.in_ok-numbered.ensures c.sort.ensures.moved) c.sort.ensures.order

pub returns-clause-rows : goal.returns-clause-rows
returns-clause-rows c = record {
  there = All-permutation (λ (numbered : Numbered). slice_get c.args.registry.now.rows numbered.0 ≡ Some numbered.1)
      (map seen c.in_ok-numbered.numbered.items) (map seen c.sort.new.rows.items) c.sort.ensures.moved
      (subst (All (λ (numbered : Numbered). slice_get c.args.registry.now.rows numbered.0 ≡ Some numbered.1)) (sym c.in_ok-numbered.ensures)
      (numbered_there c.args.registry.now c.args.rows.now));
  distinct = c.count-count.ensures.distinct;
}
