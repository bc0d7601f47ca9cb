use Rattle.std.proofs.Common.{◌≡◌, ◌++◌, drop}
use Rattle.rl_store.proofs.copying.copy_pairs.Given as goal

abbrev pub invariant-loop-stored : goal.invariant-loop-stored
invariant-loop-stored l = l.copies.items ++ drop l.stored-index l.pairs ≡ l.pairs
