use Rattle.std.proofs.Common.{◌≡◌, None, sym, rules}
use Rattle.rl_wire.specs.Reading.{part_in}
use Rattle.rl_wire.proofs.SaidLemmas.{lines_say_parts}
use Rattle.rl_wire.proofs.read.read_part.Goals as goal

pub returns-in_default-clause-none : goal.returns-in_default-clause-none
returns-in_default-clause-none c =
    let none : None ≡ part_in c.args.line.now = search rules in lines_say_parts.none c.args.line.now (sym none)

pub returns-else-eq-clause-none : goal.returns-else-eq-clause-none
returns-else-eq-clause-none c =
    let none : None ≡ part_in c.args.line.now = search rules in lines_say_parts.none c.args.line.now (sym none)
