use Rattle.std.proofs.Common.{sym, ◌∙◌}
use Rattle.rl_wire.proofs.LoopingLemmas.{rest_of}
use Rattle.rl_wire.proofs.read.cut_line.Goals as goal

pub returns-in-Some-clause-some : goal.returns-in-Some-clause-some
returns-in-Some-clause-some c = (
  c.in-Some.at,
  sym c.line_end.ensures.value ∙ c.in-Some.is,
  c.split_at.ensures.front,
  rest_of c.args.bytes.now c.split_at.result.1.now c.in-Some.at
      c.split_at.ensures.back,
)
