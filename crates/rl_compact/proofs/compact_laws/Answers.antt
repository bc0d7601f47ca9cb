use Rattle.rl_compact.proofs.ClosuresLemmas.{closures_stay}
use Rattle.rl_compact.proofs.LeftLemmas.{brings_chain, chain_brings}
use Rattle.rl_compact.proofs.NeededLemmas.{each_is_needed}
use Rattle.rl_compact.proofs.compact_laws.Goals as goal

pub returns-clause-brings : goal.returns-clause-brings
returns-clause-brings c = λ rows from last. (brings_chain rows from last, chain_brings rows from last)

pub returns-clause-closures : goal.returns-clause-closures
returns-clause-closures c = closures_stay

pub returns-clause-needed : goal.returns-clause-needed
returns-clause-needed c = each_is_needed
