use Rattle.std.proofs.Common.{◌≡◌, arith, ◌++◌, ◌∷◌, []}
use Rattle.rl_graph.proofs.MarkingLemmas.{count_below, marks_more, adds_one}
use Rattle.rl_graph.proofs.marks.mark.Goals as goal

pub unwrap-requires : goal.unwrap-requires
unwrap-requires c =
    c.push.ensures.succeeds (omega (
      arith,
      count_below c.args.marks.now c.args.number c.requires.low c.if-not-marks-number.true,
      c.requires.marked.count,
      c.requires.room,
    ))

pub returns-then-not-marks-number-clause-marked : goal.returns-then-not-marks-number-clause-marked
returns-then-not-marks-number-clause-marked c =
    let pushed : c.push.new.self.items ≡ c.args.found.now.items ++ c.args.number ∷ [] = rw c.unwrap.ensures at c.push.ensures.items in
    rw pushed (marks_more c.args.marks.now c.args.found.now.items c.args.number c.requires.marked c.requires.low c.if-not-marks-number.true)

pub returns-then-not-marks-number-clause-adds : goal.returns-then-not-marks-number-clause-adds
returns-then-not-marks-number-clause-adds c =
    let pushed : c.push.new.self.items ≡ c.args.found.now.items ++ c.args.number ∷ [] = rw c.unwrap.ensures at c.push.ensures.items in
    rw pushed (adds_one c.args.marks.now c.args.found.now.items c.args.number c.requires.low)
