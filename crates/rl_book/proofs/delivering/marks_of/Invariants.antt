use Rattle.std.proofs.Common.{take}
use Rattle.rl_book.specs.Delivering.{AreMarks}
use Rattle.rl_book.proofs.delivering.marks_of.Given as goal

abbrev pub invariant-loop-row : goal.invariant-loop-row
invariant-loop-row l = AreMarks (take l.row-index l.rows) l.count l.marks.items
