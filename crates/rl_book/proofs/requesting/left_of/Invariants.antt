use Rattle.std.proofs.Common.{◌≡◌, take}
use Rattle.rl_book.specs.Requesting.{left_of}
use Rattle.rl_book.proofs.requesting.left_of.Given as goal

abbrev pub invariant-loop-row : goal.invariant-loop-row
invariant-loop-row l = l.left.items ≡ left_of l.held.gifts l.table (take l.row-index l.rows)
