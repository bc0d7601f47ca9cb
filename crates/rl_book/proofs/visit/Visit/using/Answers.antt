use Rattle.rl_book.proofs.ExecutingLemmas.{same_says}
use Rattle.rl_book.proofs.ServingLemmas.{executed_by, refused_serves, short_serves, used_serves}
use Rattle.rl_book.proofs.visit.Visit.using.Goals as goal

pub returns-in-Ok-resume-clause-serves : goal.returns-in-Ok-resume-clause-serves
returns-in-Ok-resume-clause-serves g c =
    used_serves (g.O.Hears.says c.args.observers.now) c.args.names.now c.args.self.now c.resume.new.self c.note_using.new.self
    (g.O.Hears.told c.args.observers.now) (g.O.Hears.told c.resume.new.observers) c.in_ok-resume.ensures.runs.0 c.in_ok-resume.ensures.runs.1
    c.resume-in-Ok.new.self (g.O.Hears.told c.resume-in-Ok.new.observers) c.in-Ok.ensures
    (executed_by (g.O.Hears.says c.resume.new.observers) (g.O.Hears.says c.args.observers.now) c.note_using.new.self c.resume-in-Ok.new.self
    (g.O.Hears.told c.resume.new.observers) (g.O.Hears.told c.resume-in-Ok.new.observers)
    (same_says (g.O.Hears.says c.resume.new.observers) (g.O.Hears.says c.args.observers.now) c.resume.ensures.fixed)
    c.in-Ok-resume.ensures.runs.0)
    c.in-Ok-resume.ensures.runs.1

pub returns-in-Err-resume-clause-serves : goal.returns-in-Err-resume-clause-serves
returns-in-Err-resume-clause-serves g c =
    short_serves (g.O.Hears.says c.args.observers.now) c.args.names.now c.args.self.now c.resume.new.self c.note_using.new.self
    (g.O.Hears.told c.args.observers.now) (g.O.Hears.told c.resume.new.observers) c.in_ok-resume.ensures.runs.0 c.in_ok-resume.ensures.runs.1
    c.resume-in-Ok.new.self (g.O.Hears.told c.resume-in-Ok.new.observers) c.in-Ok.ensures
    (executed_by (g.O.Hears.says c.resume.new.observers) (g.O.Hears.says c.args.observers.now) c.note_using.new.self c.resume-in-Ok.new.self
    (g.O.Hears.told c.resume.new.observers) (g.O.Hears.told c.resume-in-Ok.new.observers)
    (same_says (g.O.Hears.says c.resume.new.observers) (g.O.Hears.says c.args.observers.now) c.resume.ensures.fixed)
    c.in-Err-resume.ensures.runs.0)
    c.in-Err-resume.ensures.runs.1

pub returns-in-Err-clause-serves : goal.returns-in-Err-clause-serves
returns-in-Err-clause-serves g c =
    refused_serves (g.O.Hears.says c.args.observers.now) c.args.names.now c.args.self.now c.resume.new.self c.note_using.new.self
    (g.O.Hears.told c.args.observers.now) (g.O.Hears.told c.resume.new.observers) c.in_ok-resume.ensures.runs.0 c.in_ok-resume.ensures.runs.1
    c.in-Err.error c.in-Err.ensures
