use Rattle.rl_view_spec.proofs.ResolveLemmas.{resolves_accepted}
use Rattle.rl_view_spec.proofs.RefusalsLemmas.{refused_nowhere, refused_unknown, unknown_refused, refused_cycle, cycle_refused}
use Rattle.rl_view_spec.proofs.refusal_laws.Goals as goal

pub returns : goal.returns
returns c = record {
  accepted = λ r names. (refused_nowhere r names, resolves_accepted r names);
  unknown = λ r names name. (refused_unknown r names name, unknown_refused r names name);
  cycle = λ r names name. (refused_cycle r names name, (λ m. cycle_refused r names name m.0 m.1));
}
