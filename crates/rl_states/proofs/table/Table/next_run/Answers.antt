use Rattle.std.proofs.Common.{◌≡◌, ◌<◌, ℕ, List, Bool, Option, Some, None, length, sym, subst, ◌∙◌, ap}
use Rattle.std.specs.Prelude.{IfSome}
use Rattle.rl_view_spec.specs.Progress.{Progress, next_row}
use Rattle.rl_states.specs.declared.standing.Standing.{Standing}
use Rattle.rl_states.specs.Kept.{IsTable, progress_in}
use Rattle.rl_states.proofs.RunsLemmas.{kept_next}
use Rattle.rl_states.proofs.TablesLemmas.{fewer_ran, next_runs}
use Rattle.rl_states.proofs.table.Table.next_run.Goals as goal

fewer : (t : Progress) (o : Option ℕ) (standings : List Standing) (users : List (List ℕ)) (marks : List Bool) → IsTable t standings users marks →
    o ≡ next_row t → IfSome o (λ row. length t.ran < length t.registered.rows)
fewer t None standings users marks k e = tt
fewer t (Some row) standings users marks k e = fewer_ran t standings users marks row k (next_runs t standings users marks row k (sym e))

pub invariant_of-self : goal.invariant_of-self
invariant_of-self g c = record {
  table = kept_next (progress_in c.self.inside) c.first_run-row.result c.self.inside.cells.standings c.self.inside.cells.users
      c.self.inside.cells.spoiled c.self.invariant.table
      (c.first_run-row.ensures.value ∙ ap next_row (sym c.self.view_is));
  paired = c.self.invariant.paired;
  room = c.self.invariant.room;
  room_beside = c.self.invariant.room_beside;
}

pub returns-clause-fewer : goal.returns-clause-fewer
returns-clause-fewer g c =
    subst (λ (t : Progress). IfSome c.first_run-row.result (λ row. length t.ran < length t.registered.rows)) c.self.view_is
    (fewer (progress_in c.self.inside) c.first_run-row.result c.self.inside.cells.standings c.self.inside.cells.users
    c.self.inside.cells.spoiled c.self.invariant.table
    (c.first_run-row.ensures.value ∙ ap next_row (sym c.self.view_is)))
