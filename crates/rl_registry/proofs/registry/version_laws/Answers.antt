use Rattle.rl_registry.proofs.VersionsLemmas.{versions_change_nothing}
use Rattle.rl_registry.proofs.registry.version_laws.Goals as goal

pub returns : goal.returns
returns c = versions_change_nothing
