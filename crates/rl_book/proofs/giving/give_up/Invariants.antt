use Rattle.std.proofs.Common.{◌≡◌, None, length}
use Rattle.std.specs.Prelude.{drop}
use Rattle.rl_book.specs.Kept.{after_giving_up}
use Rattle.rl_book.proofs.giving.give_up.Given as goal

abbrev pub invariant-loop-row : goal.invariant-loop-row
invariant-loop-row g l =
    (after_giving_up (drop l.row-index l.rows) l.table ≡ after_giving_up l.rows l.fn.table)
    × (l.table.executing ≡ None)
    × (length l.table.registered.rows ≡ length l.fn.table.registered.rows)
