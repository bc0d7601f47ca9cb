use Rattle.std.proofs.Common.{arith, ◌/◌, ◌∙◌}
use Rattle.rl_names.proofs.HashLemmas.{sixth_digit}
use Rattle.rl_names.proofs.hash.leading.Goals as goal

pub returns-then-hash-pow-2-clause-same : goal.returns-then-hash-pow-2-clause-same
returns-then-hash-pow-2-clause-same c = sixth_digit c.args.hash (grind arith) (grind arith)

pub returns-else-hash-pow-2-clause-same : goal.returns-else-hash-pow-2-clause-same
returns-else-hash-pow-2-clause-same c = sixth_digit (c.args.hash / 36) (grind arith) (grind arith) ∙ sixth_digit c.args.hash (grind arith) (grind arith)
