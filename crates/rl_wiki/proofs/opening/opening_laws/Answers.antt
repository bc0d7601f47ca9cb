use Rattle.rl_wiki.proofs.OpeningLemmas.{none_bad}
use Rattle.rl_wiki.proofs.opening.opening_laws.Goals as goal

pub returns : goal.returns
returns c = none_bad
