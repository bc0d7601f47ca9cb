use Rattle.rl_book.proofs.AnswerLemmas.{answer_delivers, refused_delivers, short_delivers}
use Rattle.rl_book.proofs.ExecutingLemmas.{same_says}
use Rattle.rl_book.proofs.ServingLemmas.{executed_by}
use Rattle.rl_book.proofs.visit.Visit.deliver.Goals as goal

pub returns-in-Ok-resume-clause-serves : goal.returns-in-Ok-resume-clause-serves
returns-in-Ok-resume-clause-serves g c =
    answer_delivers (g.O.Hears.says c.args.observers.now) c.args.ask c.args.bytes.now c.args.mark c.args.self.now c.resume.new.self
    c.note_delivery.new.self (g.O.Hears.told c.args.observers.now) (g.O.Hears.told c.resume.new.observers) c.in_ok-resume.ensures.runs.0
    c.in_ok-resume.ensures.runs.1 c.resume-in-Ok.new.self (g.O.Hears.told c.resume-in-Ok.new.observers) c.in-Ok.ensures.1
    (executed_by (g.O.Hears.says c.resume.new.observers) (g.O.Hears.says c.args.observers.now) c.note_delivery.new.self c.resume-in-Ok.new.self
    (g.O.Hears.told c.resume.new.observers) (g.O.Hears.told c.resume-in-Ok.new.observers)
    (same_says (g.O.Hears.says c.resume.new.observers) (g.O.Hears.says c.args.observers.now) c.resume.ensures.fixed)
    c.in-Ok-resume.ensures.runs.0)
    c.in-Ok.took c.in-Ok.ensures.0 c.in-Ok-resume.ensures.runs.1

pub returns-in-Err-resume-clause-serves : goal.returns-in-Err-resume-clause-serves
returns-in-Err-resume-clause-serves g c =
    short_delivers (g.O.Hears.says c.args.observers.now) c.args.ask c.args.bytes.now c.args.mark c.args.self.now c.resume.new.self
    c.note_delivery.new.self (g.O.Hears.told c.args.observers.now) (g.O.Hears.told c.resume.new.observers) c.in_ok-resume.ensures.runs.0
    c.in_ok-resume.ensures.runs.1 c.resume-in-Ok.new.self (g.O.Hears.told c.resume-in-Ok.new.observers) c.in-Ok.ensures.1
    (executed_by (g.O.Hears.says c.resume.new.observers) (g.O.Hears.says c.args.observers.now) c.note_delivery.new.self c.resume-in-Ok.new.self
    (g.O.Hears.told c.resume.new.observers) (g.O.Hears.told c.resume-in-Ok.new.observers)
    (same_says (g.O.Hears.says c.resume.new.observers) (g.O.Hears.says c.args.observers.now) c.resume.ensures.fixed)
    c.in-Err-resume.ensures.runs.0)
    c.in-Ok.ensures.0.0 c.in-Err-resume.ensures.runs.1

pub returns-in-Err-clause-serves : goal.returns-in-Err-clause-serves
returns-in-Err-clause-serves g c =
    refused_delivers (g.O.Hears.says c.args.observers.now) c.args.ask c.args.bytes.now c.args.mark c.args.self.now c.resume.new.self
    c.note_delivery.new.self (g.O.Hears.told c.args.observers.now) (g.O.Hears.told c.resume.new.observers) c.in_ok-resume.ensures.runs.0
    c.in_ok-resume.ensures.runs.1 c.in-Err.error c.in-Err.ensures
