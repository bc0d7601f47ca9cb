use Rattle.rl_stage_spec.proofs.SharedLemmas.{shared_is_for_all}
use Rattle.rl_stage_spec.proofs.VaryLemmas.{read_has_skins, vary_tells}
use Rattle.rl_stage_spec.proofs.shared_laws.Goals as goal

pub returns : goal.returns
returns c = record { skins = read_has_skins; vary = vary_tells; shared = shared_is_for_all }
