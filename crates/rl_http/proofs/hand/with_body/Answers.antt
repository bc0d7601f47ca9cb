use Rattle.std.proofs.Common.{arith, inr}
use Rattle.rl_http.proofs.hand.with_body.Goals as goal

pub returns-else-to-input : goal.returns-else-to-input
returns-else-to-input c = inr (c.args.from, c.args.head, c.requires.begins, omega arith)
