use Rattle.rl_stage_spec.proofs.AnswersLemmas.{parts_come_by_answers}
use Rattle.rl_stage_spec.proofs.BuiltLemmas.{served_is_built}
use Rattle.rl_stage_spec.proofs.OriginLemmas.{embedded_is_built}
use Rattle.rl_stage_spec.proofs.StoredLemmas.{stored_is_built}
use Rattle.rl_stage_spec.proofs.ViewsLemmas.{runs_are_given, sessions_hold, views_over}
use Rattle.rl_stage_spec.proofs.session_laws.Goals as goal

pub returns : goal.returns
returns c = record {
  hold = sessions_hold;
  over = views_over;
  given = runs_are_given;
  embedded = embedded_is_built;
  answers = parts_come_by_answers;
  served = served_is_built;
  stored = stored_is_built;
}
