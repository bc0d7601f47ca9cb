use Rattle.std.proofs.Common.{ℕ, Bor, map, rules}
use Rattle.std.proofs.lemmas.Fn.{always_returns_same}
use Rattle.std.proofs.lemmas.List.{length-map, get_or-map}
use Rattle.std.proofs.lemmas.List.Sorted.{IsPermutation-map, ranks_by}
use Rattle.rl_names.specs.declared.row.Row.{Row}
use Rattle.rl_book_spec.specs.Batches.{is_before}
use Rattle.rl_batch.specs.Split.{seen}
use Rattle.rl_batch.proofs.DistinctLemmas.{sorted_map}
use Rattle.rl_batch.proofs.OrdersLemmas.{rows_total}
use Rattle.rl_batch.proofs.order.sort.Goals as goal

pub returns-clause-moved : goal.returns-clause-moved
returns-clause-moved c = IsPermutation-map seen c.args.rows.now.items c.sort_unstable_by.new.self.items c.sort_unstable_by.ensures.permutation

pub returns-clause-order : goal.returns-clause-order
returns-clause-order c = sorted_map is_before seen (map seen) (λ xs k x y low. get_or-map seen xs k x y low)
    (λ xs. length-map xs seen) c.sort_unstable_by.new.self.items
    (c.sort_unstable_by.ensures.sorted (λ a b. is_before (seen a) (seen b)) (ranks_by rows_total (λ (a : ℕ × Bor Row). a.1.now))
    (always_returns_same _ _ _ (λ a r f' k. search rules)))
