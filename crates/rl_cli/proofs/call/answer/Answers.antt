use Rattle.rl_cli.specs.Ending.{ending}
use Rattle.rl_view.specs.Heard.{throws_by}
use Rattle.rl_cli.specs.Meant.{meant}
use Rattle.rl_cli.specs.Verdict.{executed_by}
use Rattle.rl_cli.proofs.HeardLemmas.{error_heard, written_heard}
use Rattle.rl_cli.proofs.call.answer.Goals as goal

pub returns-in-Ok-clause-heard : goal.returns-in-Ok-clause-heard
returns-in-Ok-clause-heard g c =
    written_heard c.in-Ok.printed (ending c.write_output.result.status c.write_output.result.word c.write_output.result.breach c.write_output.result.unready)
    (g.O.Sink.written c.args.out.now) (g.O.Sink.written c.write_output.new.out)
    (executed_by (throws_by (g.H.Hears.says c.args.observers.now)) (meant c.args.command.now) c.args.files.now)
    (g.H.Hears.told c.args.observers.now) (g.H.Hears.told c.work.new.observers) c.write_output.ensures.answers c.in-Ok.ensures.heard

pub returns-in-Err-clause-heard : goal.returns-in-Err-clause-heard
returns-in-Err-clause-heard g c =
    error_heard c.in-Err.error (ending c.of.result.status c.of.result.word c.of.result.breach c.of.result.unready)
    (executed_by (throws_by (g.H.Hears.says c.args.observers.now)) (meant c.args.command.now) c.args.files.now)
    (g.H.Hears.told c.args.observers.now) (g.H.Hears.told c.work.new.observers) c.of.ensures c.in-Err.ensures.heard
