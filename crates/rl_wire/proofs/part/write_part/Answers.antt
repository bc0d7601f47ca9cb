use Rattle.std.proofs.Common.{◌≡◌, ap, ◌∙◌, rules}
use Rattle.rl_wire.specs.Line.{part_text}
use Rattle.rl_wire.specs.Reading.{part_in}
use Rattle.rl_wire.proofs.ReadBackLemmas.{arguments_read_back}
use Rattle.rl_wire.proofs.SaidLemmas.{written}
use Rattle.rl_wire.proofs.part.write_part.Goals as goal

pub returns-clause-reads_back : goal.returns-clause-reads_back
returns-clause-reads_back c = arguments_read_back c.args.part.now c.requires

pub returns-clause-again : goal.returns-clause-again
returns-clause-again c =
    let text : c.from_string.result ≡ part_text c.args.part.now = search rules in
    ap part_in text ∙ written c.args.part.now c.in_ok-add_part.ensures.part
