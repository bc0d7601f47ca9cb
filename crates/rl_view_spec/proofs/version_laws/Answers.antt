use Rattle.rl_view_spec.proofs.VersionsLemmas.{alike_but_for_versions, alike_progress}
use Rattle.rl_view_spec.proofs.version_laws.Goals as goal

pub returns : goal.returns
returns c = record { alike = alike_but_for_versions; progress = alike_progress }
