use Rattle.rl_book.proofs.MarksLemmas.{marks_more}
use Rattle.rl_book.proofs.delivering.marks_of.Goals as goal

pub loop-row-preserved : goal.loop-row-preserved
loop-row-preserved c =
    marks_more c.args.rows.now c.loop-row.row-index 0 c.args.count c.loop-row.marks.items c.loop-row-test.true c.loop-row.invariant
    (c.requires c.loop-row.row-index 0 c.loop-row-test.true)
