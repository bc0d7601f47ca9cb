use Rattle.std.proofs.Common.{◌∷◌}
use Rattle.rl_view_spec.specs.View.{log_of}
use Rattle.rl_view.proofs.AnswersLemmas.{counting, seen_passed, seen_used}
use Rattle.rl_view.proofs.NowLemmas.{seen_fresh}
use Rattle.rl_view.proofs.TouchesLemmas.{seen_touch}
use Rattle.rl_view.proofs.event_laws.Goals as goal

pub returns : goal.returns
returns c = record {
  begins = seen_fresh;
  touches = seen_touch;
  answers = λ v name answer event past row t t' s found e.
      seen_used v name answer event past row t t' s (counting v (event ∷ past) (log_of v past) t name row s found) e;
  passes = seen_passed;
}
