use Rattle.std.proofs.Common.{None, ap, refl}
use Rattle.rl_script_spec.specs.Script.{BadLine, TooMany, verdict_of}
use Rattle.rl_script_spec.specs.Unready.{unready_in}
use Rattle.rl_view.specs.Heard.{throws_by}
use Rattle.rl_drive.specs.Drives.{plain}
use Rattle.rl_cli.specs.Verdict.{Breaks, Exceeds}
use Rattle.rl_cli.proofs.VerdictLemmas.{script_printed, script_refused}
use Rattle.rl_cli.proofs.work.play_script.Goals as goal

pub returns-in-Err-BadInput-clause-gives : goal.returns-in-Err-BadInput-clause-gives
returns-in-Err-BadInput-clause-gives g c =
    let bad = BadLine c.in-Err-BadInput.line c.in-Err-BadInput.why in
    script_refused c.args.word (unready_in (throws_by (g.H.Hears.says c.args.observers.now)) c.args.bytes.now)
    (verdict_of (throws_by (g.H.Hears.says c.args.observers.now)) c.args.bytes.now) bad
    (Breaks c.args.word c.in-Err-BadInput.line c.in-Err-BadInput.why None) (c.in-Err-BadInput.ensures.verdict bad (ap plain c.in-Err-BadInput.field-0-is)) refl

pub returns-in-Err-TooLarge-clause-gives : goal.returns-in-Err-TooLarge-clause-gives
returns-in-Err-TooLarge-clause-gives g c =
    let many = TooMany c.in-Err-TooLarge.what c.in-Err-TooLarge.count in
    script_refused c.args.word (unready_in (throws_by (g.H.Hears.says c.args.observers.now)) c.args.bytes.now)
    (verdict_of (throws_by (g.H.Hears.says c.args.observers.now)) c.args.bytes.now) many
    (Exceeds c.args.word c.in-Err-TooLarge.what c.in-Err-TooLarge.count)
    (c.in-Err-TooLarge.ensures.verdict many (ap plain c.in-Err-TooLarge.field-0-is)) refl

pub returns-in-Ok-clause-gives : goal.returns-in-Ok-clause-gives
returns-in-Ok-clause-gives g c =
    script_printed c.args.word (unready_in (throws_by (g.H.Hears.says c.args.observers.now)) c.args.bytes.now) c.in-Ok.driven.unready
    (verdict_of (throws_by (g.H.Hears.says c.args.observers.now)) c.args.bytes.now) c.in-Ok.driven.text.items
    c.from_vec.result c.in-Ok.driven.ready c.in-Ok.ensures.verdict c.in-Ok.ensures.unready c.from_vec.ensures
