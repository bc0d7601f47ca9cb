use Rattle.std.proofs.Common.{◌++◌, refl, subst}
use Rattle.std.proofs.Output.{has_written_append}
use Rattle.std.specs.Prelude.{codes, decimal}
use Rattle.std.specs.Fmt.{HasWritten}
use Rattle.rl_view_spec.specs.Closure.{Text}
use Rattle.rl_cli.specs.Spelt.{spelt}
use Rattle.rl_cli.specs.Told.{cause_text}
use Rattle.rl_cli.proofs.report.write_refused.Goals as goal

pub returns : goal.returns
returns g c = λ plain ok.
    let step : HasWritten g.W.Write.write_str_gives c.args.f.now (spelt c.args.file.now ++ (codes ": step " ++ decimal c.args.step)) c.write.new.self =
    c.in_ok-write.ensures.writes plain refl in
    has_written_append _ _ _ _ _ _ step
    (subst (λ (fault : Text). HasWritten g.W.Write.write_str_gives c.write.new.self (cause_text c.args.name.now fault) c.write_cause.new.f)
    c.unresolved_words-fault.ensures (c.write_cause.ensures step.plain ok))
