use Rattle.std.proofs.Common.{arith}
use Rattle.rl_http.proofs.HandLemmas.{is_part}
use Rattle.rl_http.proofs.hand.without_head.Goals as goal

pub returns-then-input-lt-MAX_HEAD : goal.returns-then-input-lt-MAX_HEAD
returns-then-input-lt-MAX_HEAD c = is_part c.args.input.now (omega arith) c.requires
