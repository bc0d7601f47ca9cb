use Rattle.std.proofs.Common.{◌++◌, refl}
use Rattle.std.proofs.Output.{has_written_append}
use Rattle.std.specs.Prelude.{codes}
use Rattle.std.specs.Fmt.{HasWritten}
use Rattle.rl_cli.specs.Spelt.{spelt}
use Rattle.rl_cli.proofs.report.write_state.Goals as goal

pub returns : goal.returns
returns g c = λ plain ok.
    let named : HasWritten g.W.Write.write_str_gives c.args.f.now (spelt c.args.file.now ++ (codes ": module " ++ spelt c.args.name.now)) c.write.new.self =
    c.in_ok-write.ensures.writes plain refl in
    let said : HasWritten g.W.Write.write_str_gives c.write.new.self (codes " is not ready (" ++ (c.args.state.now ++ codes "): ")) c.write-2.new.self =
    c.write-2.ensures.writes named.plain ok in
    has_written_append _ _ _ _ _ _ named said
