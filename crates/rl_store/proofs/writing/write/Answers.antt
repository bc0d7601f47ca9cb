use Rattle.std.proofs.Common.{◌∷◌, [], refl, rules, append_assoc}
use Rattle.rl_wire.proofs.PrintedLemmas.{written}
use Rattle.rl_store.specs.Stock.{stock_value}
use Rattle.rl_store.proofs.writing.write.Goals as goal

-- the tokens are those of the value, and nothing stood before
pub returns : goal.returns
returns c =
    written [] [] _ _ (stock_value (record { vary = c.args.vary.now; as_of = c.args.as_of; pairs = c.args.pairs.now }) ∷ []) refl
    (search (rules, append_assoc)) c.text_of.ensures
