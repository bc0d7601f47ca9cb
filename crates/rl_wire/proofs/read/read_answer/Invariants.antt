use Rattle.std.proofs.Common.{◌≡◌, ◌+◌, length}
use Rattle.rl_wire.specs.Line.{AreInOrder}
use Rattle.rl_wire.specs.Arguments.{capped}
use Rattle.rl_wire.specs.Reading.{of_lines, answer_of}
use Rattle.rl_wire.proofs.LinesLemmas.{cut}
use Rattle.rl_wire.proofs.LoopingLemmas.{behind}
use Rattle.rl_wire.proofs.read.read_answer.Given as goal

-- with the parts so far, the lines that are left say what all lines say
abbrev pub invariant-lines : goal.invariant-lines
invariant-lines l = record {
  same : behind l.parts.items (of_lines (length l.parts.items + 1) (cut l.rest)) ≡ answer_of l.bytes;
  number : l.number ≡ capped (length l.parts.items);
  in_order : AreInOrder l.parts.items;
}

abbrev pub decreases-lines : goal.decreases-lines
decreases-lines l = length l.rest
