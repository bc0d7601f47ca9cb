use Rattle.std.proofs.Common.{sym, subst}
use Rattle.rl_names.specs.Meant.{Gives}
use Rattle.rl_script_spec.specs.Script.{verdict_of}
use Rattle.rl_script_spec.specs.Unready.{unready_in}
use Rattle.rl_view_spec.specs.Closure.{Text}
use Rattle.rl_view_spec.specs.View.{Throws}
use Rattle.rl_view.specs.Heard.{throws_by}
use Rattle.rl_drive.specs.Hearing.{executions_in}
use Rattle.rl_cli.specs.Meant.{meant}
use Rattle.rl_cli.specs.Verdict.{IsHeard, executed_by, fault_told, of_script, verdict_on}
use Rattle.rl_cli.specs.declared.words.Command.{Command}
use Rattle.rl_cli.proofs.HeardLemmas.{nothing_heard}
use Rattle.rl_cli.proofs.work.work.Goals as goal

pub returns-in-Drive-clause-gives : goal.returns-in-Drive-clause-gives
returns-in-Drive-clause-gives g c =
    let throws : Throws = throws_by (g.H.Hears.says c.args.observers.now) in
    let P : Command → Type 0 = λ command. Gives fault_told c.play_script.result (verdict_on throws (meant command) c.args.files.now) in
    let Q : Text → Type 0 = λ bytes. Gives fault_told c.play_script.result (of_script 1 (unready_in throws bytes) (verdict_of throws bytes)) in
    subst P (sym c.in-Drive.is) (subst Q c.bytes_of.ensures c.play_script.ensures.gives)

pub returns-in-Drive-clause-heard : goal.returns-in-Drive-clause-heard
returns-in-Drive-clause-heard g c =
    let throws : Throws = throws_by (g.H.Hears.says c.args.observers.now) in
    let told = g.H.Hears.told c.args.observers.now in
    let told' = g.H.Hears.told c.play_script.new.observers in
    let P : Command → Type 0 = λ command. IsHeard c.play_script.result (executed_by throws (meant command) c.args.files.now) told told' in
    let Q : Text → Type 0 = λ bytes. IsHeard c.play_script.result (executions_in throws bytes) told told' in
    subst P (sym c.in-Drive.is) (subst Q c.bytes_of.ensures c.play_script.ensures.heard)

pub returns-in-Load-clause-heard : goal.returns-in-Load-clause-heard
returns-in-Load-clause-heard g c =
    let throws : Throws = throws_by (g.H.Hears.says c.args.observers.now) in
    let told = g.H.Hears.told c.args.observers.now in
    let P : Command → Type 0 = λ command. IsHeard c.load.result (executed_by throws (meant command) c.args.files.now) told told in
    subst P (sym c.in-Load.is) (nothing_heard c.load.result told)

pub returns-in-Startup-clause-heard : goal.returns-in-Startup-clause-heard
returns-in-Startup-clause-heard g c =
    let throws : Throws = throws_by (g.H.Hears.says c.args.observers.now) in
    let told = g.H.Hears.told c.args.observers.now in
    let P : Command → Type 0 = λ command. IsHeard c.startup.result (executed_by throws (meant command) c.args.files.now) told told in
    subst P (sym c.in-Startup.is) (nothing_heard c.startup.result told)

pub returns-in-Check-clause-heard : goal.returns-in-Check-clause-heard
returns-in-Check-clause-heard g c =
    let throws : Throws = throws_by (g.H.Hears.says c.args.observers.now) in
    let told = g.H.Hears.told c.args.observers.now in
    let P : Command → Type 0 = λ command. IsHeard c.check.result (executed_by throws (meant command) c.args.files.now) told told in
    subst P (sym c.in-Check.is) (nothing_heard c.check.result told)
