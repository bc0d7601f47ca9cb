use Rattle.rl_book.proofs.OrderLemmas.{executions_throw, notes_throw, order_free, settled_decided}
use Rattle.rl_book.proofs.laws.order_laws.Goals as goal

pub returns : goal.returns
returns c = record { order = order_free; executed = executions_throw; noted = notes_throw; settled = settled_decided }
