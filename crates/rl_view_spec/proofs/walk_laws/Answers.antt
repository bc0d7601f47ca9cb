use Rattle.rl_view_spec.proofs.ReachLemmas.{edges_lead, closed_has_closure, ranked_is_acyclic}
use Rattle.rl_view_spec.proofs.walk_laws.Goals as goal

pub returns : goal.returns
returns c = record { edges = edges_lead; closed = closed_has_closure; ranked = ranked_is_acyclic }
