use Rattle.std.proofs.Common.{arith, rules}
use Rattle.std.proofs.lemmas.List.{take_more}
use Rattle.rl_graph.proofs.MarkingLemmas.{adds_none, adds_more}
use Rattle.rl_graph.proofs.marks.mark_all.Goals as goal

pub loop-number-init : goal.loop-number-init
loop-number-init c = record { marked = search rules; room = search rules; adds = adds_none _ _ }

pub loop-number-preserved : goal.loop-number-preserved
loop-number-preserved c = record {
  marked = search rules;
  room = search rules;
  adds = rw (take_more c.args.numbers.now c.loop-number.number-index 0 (omega arith))
      (adds_more _ _ _ _ _ _ _ _ c.loop-number.invariant.adds c.mark.ensures.adds);
}
