use Rattle.std.proofs.Common.{rules}
use Rattle.std.proofs.lemmas.Fn.{always_returns_same}
use Rattle.std.proofs.lemmas.List.Sorted.{ranks_by}
use Rattle.rl_book_spec.specs.Closing.{stored_before}
use Rattle.rl_book_spec.specs.declared.Stored.{Stored}
use Rattle.rl_store.proofs.MergedLemmas.{pairs_total}
use Rattle.rl_store.proofs.merging.sort.Goals as goal

pub returns-clause-order : goal.returns-clause-order
returns-clause-order c = c.sort_unstable_by.ensures.sorted stored_before (ranks_by pairs_total (λ (s : Stored). s))
    (always_returns_same _ _ _ (λ a r f' k. search rules))
