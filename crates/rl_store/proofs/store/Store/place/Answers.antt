use Rattle.std.proofs.Common.{rules}
use Rattle.rl_store.proofs.StockLemmas.{placed}
use Rattle.std.proofs.Common.{rules}
use Rattle.rl_store.proofs.store.Store.place.Goals as goal

-- src/store.rt:117:5
pub returns-clause-named : goal.returns-clause-named
returns-clause-named c = λ stored some.
    placed c.self.inside.pairs.items c.in_ok-at.at c.index.result.now stored c.args.name.now c.args.version.now
    c.self.invariant.parts (search rules) c.index.ensures c.as_str-asked.ensures.version c.as_str-kept.ensures.version
    (search (rules, some))
