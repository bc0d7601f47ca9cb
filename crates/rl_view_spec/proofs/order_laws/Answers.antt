use Rattle.rl_view_spec.proofs.OrderLemmas.{same_state, same_row}
use Rattle.rl_view_spec.proofs.ObservedLemmas.{only_runs_throw}
use Rattle.rl_view_spec.proofs.order_laws.Goals as goal

pub returns : goal.returns
returns c = record { states = same_state; rows = same_row; observers = only_runs_throw }
