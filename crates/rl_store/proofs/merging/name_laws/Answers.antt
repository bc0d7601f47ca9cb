use Rattle.rl_store.proofs.NamesLemmas.{names_tell}
use Rattle.rl_store.proofs.merging.name_laws.Goals as goal

pub returns : goal.returns
returns c = names_tell
