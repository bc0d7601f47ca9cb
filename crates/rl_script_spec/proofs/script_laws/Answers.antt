use Rattle.rl_script_spec.proofs.OrderLemmas.{same_summary, steps_lawful, scripts_hold}
use Rattle.rl_script_spec.proofs.PrintedLemmas.{printed_holds}
use Rattle.rl_script_spec.proofs.RegistrableLemmas.{rows_registrable}
use Rattle.rl_script_spec.proofs.TellingLemmas.{replies_tell_log}
use Rattle.rl_script_spec.proofs.BlamedLemmas.{blamed_is_least}
use Rattle.rl_script_spec.proofs.UnreadyLemmas.{told_where_not_served}
use Rattle.rl_script_spec.proofs.script_laws.Goals as goal

pub returns : goal.returns
returns c = record {
  summaries = same_summary;
  lawful = steps_lawful;
  scripts = scripts_hold;
  registrable = rows_registrable;
  printed = printed_holds;
  told = replies_tell_log;
  unready = told_where_not_served;
  blamed = blamed_is_least;
}
