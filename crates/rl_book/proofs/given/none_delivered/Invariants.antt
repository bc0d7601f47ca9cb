use Rattle.std.proofs.Common.{◌≡◌, None, replicate}
use Rattle.rl_book.proofs.given.none_delivered.Given as goal

abbrev pub invariant-loop-row : goal.invariant-loop-row
invariant-loop-row l = l.delivered.items ≡ replicate l._row None
