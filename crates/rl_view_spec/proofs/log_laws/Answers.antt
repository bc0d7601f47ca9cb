use Rattle.rl_view_spec.proofs.AfterLemmas.{runs_once_and_after, run_out, logged_belongs, belongs_logged}
use Rattle.rl_view_spec.proofs.OnceLemmas.{log_grows}
use Rattle.rl_view_spec.proofs.log_laws.Goals as goal

pub returns : goal.returns
returns c = record {
  after = runs_once_and_after;
  out = run_out;
  grows = log_grows;
  holds = λ v past lawful distinct row. ((λ h. logged_belongs v past row lawful h), (λ h. belongs_logged v past row lawful distinct h));
}
