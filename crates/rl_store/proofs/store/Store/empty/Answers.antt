use Rattle.rl_store.proofs.StockLemmas.{nothing_is_stock}
use Rattle.rl_store.proofs.store.Store.empty.Goals as goal

pub invariant_of-result : goal.invariant_of-result
invariant_of-result c = nothing_is_stock c.new.result.items c.new.ensures.items
