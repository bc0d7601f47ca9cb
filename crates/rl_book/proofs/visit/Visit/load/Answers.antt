use Rattle.rl_book.proofs.ExecutingLemmas.{same_says}
use Rattle.rl_book.proofs.LoadingLemmas.{load_serves, load_short}
use Rattle.rl_book.proofs.ServingLemmas.{executed_by}
use Rattle.rl_book.proofs.visit.Visit.load.Goals as goal

pub returns-in_err-resume-2-clause-serves : goal.returns-in_err-resume-2-clause-serves
returns-in_err-resume-2-clause-serves g c =
    load_short (g.O.Hears.says c.args.observers.now) c.args.names.now c.args.self.now c.resume.new.self c.note_load.new.self
    (g.O.Hears.told c.args.observers.now) (g.O.Hears.told c.resume.new.observers) c.in_ok-resume.ensures.runs.0 c.in_ok-resume.ensures.runs.1
    c.resume-2.new.self (g.O.Hears.told c.resume-2.new.observers) c.in_ok-dropped.dropped c.in_ok-dropped.ensures
    (executed_by (g.O.Hears.says c.resume.new.observers) (g.O.Hears.says c.args.observers.now) c.note_load.new.self c.resume-2.new.self
    (g.O.Hears.told c.resume.new.observers) (g.O.Hears.told c.resume-2.new.observers)
    (same_says (g.O.Hears.says c.resume.new.observers) (g.O.Hears.says c.args.observers.now) c.resume.ensures.fixed)
    c.in_err-resume-2.ensures.runs.0)
    c.from_residual-in_err-resume-2.result c.from_residual-in_err-resume-2.ensures.0 c.in_err-resume-2.ensures.runs.1

pub returns-clause-serves : goal.returns-clause-serves
returns-clause-serves g c =
    load_serves (g.O.Hears.says c.args.observers.now) c.args.names.now c.args.self.now c.resume.new.self c.note_load.new.self
    (g.O.Hears.told c.args.observers.now) (g.O.Hears.told c.resume.new.observers) c.in_ok-resume.ensures.runs.0 c.in_ok-resume.ensures.runs.1
    c.resume-2.new.self (g.O.Hears.told c.resume-2.new.observers) c.in_ok-dropped.dropped c.in_ok-dropped.ensures
    (executed_by (g.O.Hears.says c.resume.new.observers) (g.O.Hears.says c.args.observers.now) c.note_load.new.self c.resume-2.new.self
    (g.O.Hears.told c.resume.new.observers) (g.O.Hears.told c.resume-2.new.observers)
    (same_says (g.O.Hears.says c.resume.new.observers) (g.O.Hears.says c.args.observers.now) c.resume.ensures.fixed)
    c.in_ok-resume-2.ensures.runs.0)
    c.in_ok-resume-2.ensures.runs.1
