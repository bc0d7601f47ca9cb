use Rattle.std.proofs.Common.{◌∙◌, Option, ap, sym}
use Rattle.std.specs.Prelude.{unwrap_or}
use Rattle.rl_script_spec.specs.declared.Line.{Line}
use Rattle.rl_script_spec.specs.declared.Line.TheVariants.{Faulty}
use Rattle.rl_script.proofs.MembersLemmas.{array_line}
use Rattle.rl_script.proofs.line.read_line.Goals as goal

pub returns : goal.returns
returns c =
    c.unwrap_or.ensures ∙ ap (λ (line : Option Line). unwrap_or line Faulty) c.in_ok-line.ensures
    ∙ sym (array_line c.args.text.now c.in-Ok.value c.in-Some.members.items c.in-Ok.ensures.ok c.in-Some.ensures)
