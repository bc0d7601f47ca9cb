use Rattle.std.proofs.Common.{◌≡◌, ◌++◌, ◌∷◌, [], ℕ, List, false, Some, map, refl, ap, sym, ◌∙◌}
use Rattle.std.specs.Prelude.{is_some}
use Rattle.rl_names.specs.declared.name.Key.{Key}
use Rattle.rl_view_spec.specs.Closure.{Text}
use Rattle.rl_book.specs.Calls.{due_row}
use Rattle.rl_book.proofs.ExecutingLemmas.{executes_one, stops_next}
use Rattle.rl_book.proofs.RanLemmas.{distinct_here, due_answered, due_here, due_inside}
use Rattle.rl_book.proofs.visit.Visit.run_next.Goals as goal

pub returns-in_default-clause-runs : goal.returns-in_default-clause-runs
returns-in_default-clause-runs g c = (
  ap is_some (due_here c.self.inside c.args.self.now c.first_run.result c.self.invariant c.self.view_is c.first_run.ensures ∙ c.in_default.is),
  refl,
  refl,
)

pub run_of-requires-clause-within : goal.run_of-requires-clause-within
run_of-requires-clause-within g c =
    due_inside c.self.inside c.args.self.now c.in-Some.row c.self.invariant c.self.view_is
    (due_here c.self.inside c.args.self.now c.first_run.result c.self.invariant c.self.view_is c.first_run.ensures ∙ c.in-Some.is)

pub run_of-requires-clause-answered : goal.run_of-requires-clause-answered
run_of-requires-clause-answered g c =
    due_answered c.self.inside c.args.self.now c.in-Some.row c.self.invariant c.self.view_is
    (due_here c.self.inside c.args.self.now c.first_run.result c.self.invariant c.self.view_is c.first_run.ensures ∙ c.in-Some.is)

pub returns-in_err-run-clause-runs : goal.returns-in_err-run-clause-runs
returns-in_err-run-clause-runs g c =
    stops_next (g.O.Hears.says c.args.observers.now) c.from_residual.result c.args.self.now (g.O.Hears.told c.args.observers.now)
    (g.O.Hears.told c.args.observers.now) c.from_residual.ensures.0
    (ap is_some (due_here c.self.inside c.args.self.now c.first_run.result c.self.invariant c.self.view_is c.first_run.ensures ∙ c.in-Some.is)) refl

pub returns-in_err-run-2-clause-runs : goal.returns-in_err-run-2-clause-runs
returns-in_err-run-2-clause-runs g c =
    stops_next (g.O.Hears.says c.args.observers.now) c.from_residual-in_err-run-2.result c.args.self.now (g.O.Hears.told c.args.observers.now)
    (g.O.Hears.told c.hear.new.self) c.from_residual-in_err-run-2.ensures.0
    (ap is_some (due_here c.self.inside c.args.self.now c.first_run.result c.self.invariant c.self.view_is c.first_run.ensures ∙ c.in-Some.is))
    c.in_err-run-2.ensures.refused

pub note_run-requires-clause-due : goal.note_run-requires-clause-due
note_run-requires-clause-due g c =
    due_here c.self.inside c.args.self.now c.first_run.result c.self.invariant c.self.view_is c.first_run.ensures ∙ c.in-Some.is
    ∙ ap Some (sym c.in_ok-run.ensures.1.row)

pub returns-clause-runs : goal.returns-clause-runs
returns-clause-runs g c =
    let due : due_row c.args.self.now ≡ Some c.in-Some.row =
    due_here c.self.inside c.args.self.now c.first_run.result c.self.invariant c.self.view_is c.first_run.ensures ∙ c.in-Some.is in (
      c.in-Some.row,
      due,
      executes_one (g.O.Hears.says c.args.observers.now) c.args.self.now c.note_run.new.self c.in-Some.row false c.in_ok-run.run'
          (distinct_here c.self.inside c.args.self.now c.self.invariant c.self.view_is)
          (due_answered c.self.inside c.args.self.now c.in-Some.row c.self.invariant c.self.view_is due) c.in_ok-run.ensures.1
          c.in_ok-run-2.field-0 (g.O.Hears.told c.args.observers.now) (g.O.Hears.told c.hear.new.self)
          (c.in_ok-run-2.ensures.threw ∙ ap (g.O.Hears.says c.args.observers.now c.in_ok-run.run'.key) c.as_bytes.ensures)
          (c.note_run.ensures.ran ∙ ap (λ (row : ℕ). record c.args.self.now { ran = c.args.self.now.ran ++ (row, c.in_ok-run-2.field-0) ∷ [] })
          c.in_ok-run.ensures.1.row)
          (c.in_ok-run-2.ensures.told ∙ ap (λ (script : Text). map (λ (before : List (Key × Text)). before ++ (c.in_ok-run.run'.key, script) ∷ [])
          (g.O.Hears.told c.args.observers.now)) c.as_bytes.ensures),
    )

pub returns-clause-few : goal.returns-clause-few
returns-clause-few g c = c.note_run.ensures.few
