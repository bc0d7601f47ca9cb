use Rattle.rl_view_spec.proofs.StepsLemmas.{runs_stay, touches_requested, answers_once, runs_one_more, loop_ends, loop_is_front, loop_is_short}
use Rattle.rl_view_spec.proofs.step_laws.Goals as goal

pub returns : goal.returns
returns c = record {
  ran = runs_stay;
  touched = touches_requested;
  answered = answers_once;
  more = runs_one_more;
  ends = loop_ends;
  front =
      loop_is_front;
  short = loop_is_short;
}
