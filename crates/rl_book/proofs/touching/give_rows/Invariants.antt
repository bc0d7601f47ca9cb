use Rattle.std.proofs.Common.{◌≡◌, None, drop, length}
use Rattle.std.specs.Prelude.{fold}
use Rattle.rl_book.specs.Requesting.{after_held}
use Rattle.rl_book.proofs.touching.give_rows.Given as goal

-- what is left of the rows leads to the same
abbrev pub invariant-loop-row : goal.invariant-loop-row
invariant-loop-row g l = record {
  same : fold (after_held l.held.gifts) l.table (drop l.row-index l.rows) ≡ fold (after_held l.held.gifts) l.fn.table l.rows;
  idle : l.table.executing ≡ None;
  long : length l.table.registered.rows ≡ length l.fn.table.registered.rows;
}
