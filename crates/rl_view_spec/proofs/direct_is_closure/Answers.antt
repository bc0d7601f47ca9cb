use Rattle.rl_view_spec.proofs.DirectLemmas.{direct_is_closure, runnable_directly, done_is_closure, ran_directly_on, view_ran_directly}
use Rattle.rl_view_spec.proofs.DepsLemmas.{direct_by_deps}
use Rattle.rl_view_spec.proofs.direct_is_closure.Goals as goal

pub returns : goal.returns
returns c = record {
  closure = direct_is_closure;
  runs = runnable_directly;
  done = done_is_closure;
  stays = ran_directly_on;
  views = view_ran_directly;
  deps =
      direct_by_deps;
}
