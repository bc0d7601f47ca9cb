use Rattle.std.proofs.Common.{rules}
use Rattle.std.proofs.Output.{has_written_append}
use Rattle.std.specs.Prelude.{codes}
use Rattle.std.specs.Fmt.{HasWritten}
use Rattle.rl_cli.specs.Spelt.{spelt}
use Rattle.rl_cli.specs.Told.{reason_text}
use Rattle.rl_cli.proofs.report.write_unread.Goals as goal

pub returns : goal.returns
returns g c = λ plain ok.
    let name : HasWritten g.W.Write.write_str_gives c.args.f.now (spelt c.args.file.now) c.write_name.new.f = search rules in
    let said : HasWritten g.W.Write.write_str_gives c.write_name.new.f (codes ": could not be read") c.write_str.new.self = search rules in
    let why : HasWritten g.W.Write.write_str_gives c.write_str.new.self (reason_text c.args.reason) c.write_reason.new.f = search rules in
    has_written_append _ _ _ _ _ _ (has_written_append _ _ _ _ _ _ name said) why
