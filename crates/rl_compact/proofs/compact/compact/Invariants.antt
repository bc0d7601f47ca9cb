use Rattle.std.proofs.Common.{◌≡◌, ◌≤◌, drop, map, take, length}
use Rattle.std.specs.Vec.Iter.{into_iter_items}
use Rattle.rl_compact.specs.Compact.{compact_row}
use Rattle.rl_compact.proofs.compact.compact.Given as goal

abbrev pub invariant-loop-row : goal.invariant-loop-row
invariant-loop-row l = record {
  within : l.at ≤ length l.fn.rows.items;
  rest : into_iter_items l.row-iterator ≡ drop l.at l.fn.rows.items;
  done : l.left.items ≡ map (compact_row l.fn.rows.items) (take l.at l.fn.rows.items);
}
