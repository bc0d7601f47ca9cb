use Rattle.rl_view_spec.proofs.AnsweredLemmas.{answered_is_decided}
use Rattle.rl_view_spec.proofs.StatesLemmas.{phase_alike, headline}
use Rattle.rl_view_spec.proofs.state_laws.Goals as goal

pub returns : goal.returns
returns c = record { states = phase_alike; headline = headline; decided = answered_is_decided }
