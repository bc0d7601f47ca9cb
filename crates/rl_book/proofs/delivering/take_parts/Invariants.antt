use Rattle.std.proofs.Common.{◌≡◌, ◌+◌, ◌≤◌, ℕ, List, None, length}
use Rattle.std.specs.Vec.Iter.{into_iter_items}
use Rattle.rl_book.specs.Delivering.{AreMarks, after_parts}
use Rattle.rl_book.proofs.delivering.take_parts.Given as goal

-- what is left of the parts leads to the same
abbrev pub invariant-loop-part : goal.invariant-loop-part
invariant-loop-part g l = record {
  same :
      (rows : List ℕ) → AreMarks rows (length l.fn.table.registered.rows) l.marks
      → after_parts rows l.mark (into_iter_items l.part-iterator) (record { table = l.table; delivered = l.delivered.items; used = l.used })
      ≡ after_parts rows l.mark l.fn.parts.items (record { table = l.fn.table; delivered = l.fn.delivered.items; used = 0 });
  idle : l.table.executing ≡ None;
  rows : length l.table.registered.rows ≡ length l.fn.table.registered.rows;
  long : length l.delivered.items ≡ length l.fn.table.registered.rows;
  few : l.used + length (into_iter_items l.part-iterator) ≤ length l.fn.parts.items;
}
