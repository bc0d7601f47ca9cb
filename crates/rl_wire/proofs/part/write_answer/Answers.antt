use Rattle.std.proofs.Common.{◌≡◌, ◌≤◌, length, ap, ◌∙◌, arith}
use Rattle.std.specs.List.{AllByRecursion}
use Rattle.std.proofs.lemmas.List.{take_all}
use Rattle.rl_wire.specs.Line.{wire_text, IsPart}
use Rattle.rl_wire.specs.Reading.{answer_of}
use Rattle.rl_wire.proofs.EveryLemmas.{none_left}
use Rattle.rl_wire.proofs.LinesLemmas.{answers_say_parts}
use Rattle.rl_wire.proofs.ReadBackLemmas.{all_read_back}
use Rattle.rl_wire.proofs.part.write_answer.Goals as goal

pub returns-clause-reads_back : goal.returns-clause-reads_back
returns-clause-reads_back c = all_read_back c.args.parts.now c.requires

pub returns-clause-again : goal.returns-clause-again
returns-clause-again c =
    let end : length c.args.parts.now ≤ c.parts.part-index = omega arith in
    let text : c.from_string.result ≡ wire_text c.args.parts.now =
    c.from_string.ensures ∙ c.parts.invariant.text ∙ ap wire_text (take_all c.parts.part-index c.args.parts.now end) in
    let parts : AllByRecursion IsPart c.args.parts.now = c.parts.invariant.parts (none_left IsPart c.args.parts.now c.parts.part-index end) in
    ap answer_of text ∙ answers_say_parts.written c.args.parts.now parts
