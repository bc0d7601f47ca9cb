use Rattle.rl_loadphp.proofs.IsolationLemmas.{private_is_unseen, answers_are_seen, embeds_are_seen}
use Rattle.rl_loadphp.proofs.isolation.isolation_law.Goals as goal

pub returns-clause-private : goal.returns-clause-private
returns-clause-private c = private_is_unseen

pub returns-clause-seen : goal.returns-clause-seen
returns-clause-seen c = answers_are_seen

pub returns-clause-embedded : goal.returns-clause-embedded
returns-clause-embedded c = embeds_are_seen
