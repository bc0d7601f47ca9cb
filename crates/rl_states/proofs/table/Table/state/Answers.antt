use Rattle.std.proofs.Common.{◌≡◌, ◌<◌, Option, Some, None, length, sym, ◌∙◌, ap, arith}
use Rattle.rl_view_spec.specs.Progress.{Progress, phase_of}
use Rattle.rl_view_spec.proofs.ToolsLemmas.{place_there}
use Rattle.rl_states.specs.Kept.{progress_in}
use Rattle.rl_states.specs.declared.standing.Standing.{Standing}
use Rattle.rl_states.specs.Standings.{phase_by}
use Rattle.rl_states.proofs.TablesLemmas.{phase_is}
use Rattle.rl_states.proofs.table.Table.state.Goals as goal

pub returns-in-Some-clause-resting : goal.returns-in-Some-clause-resting
returns-in-Some-clause-resting c = λ ne.
    c.resting_phase.ensures
    ∙ ap (phase_by c.in-Some.standing) c.is_spoiled.ensures
    ∙ phase_is (progress_in c.self.inside) c.self.inside.cells.standings c.self.inside.cells.users c.self.inside.cells.spoiled c.args.row c.in-Some.standing
    c.self.invariant.table (sym c.in-Some.ensures)
    ∙ ap (λ (t : Progress). phase_of t c.args.row) c.self.view_is

pub returns-in-None-clause-resting : goal.returns-in-None-clause-resting
returns-in-None-clause-resting c = λ ne.
    let low : c.args.row < length c.self.inside.cells.standings = omega
    (arith, c.requires, ap (λ (t : Progress). length t.registered.rows) c.self.view_is, c.self.invariant.table.long) in
    let m = place_there c.self.inside.cells.standings c.args.row low in
    let f : ◌≡◌ {A = Option Standing} None (Some m.0) = c.in-None.ensures ∙ m.1 in absurd (no f)
  where
    no : {s : Standing} → ◌≡◌ {A = Option Standing} None (Some s) → ⊥
    no f = cc
