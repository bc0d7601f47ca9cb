-- How the progress of rows begins, and how it changes.
use Rattle.std.specs.Prelude.{ℕ, List, [], ◌∷◌, ◌++◌, Bool, true, false, if◌then◌else◌, map, None, Some, nat_eq, slice_set}
use Rattle.std.specs.List.{list_any}
use Rattle.rl_view_spec.specs.Closure.{Registered}
use Rattle.rl_view_spec.specs.Progress.{Progress}
use Rattle.rl_view_spec.specs.declared.Outcome.{Outcome}
use Rattle.rl_states.specs.Standings.{by_place}

-- nothing was requested, and nothing came
abbrev pub fresh_progress : Registered → Progress
fresh_progress r = record { registered = r; cells = map (λ row. record { touched = false; outcome = None }) r.rows; ran = []; executing = None }

-- these rows are touched
abbrev pub after_touch : List ℕ → Progress → Progress
after_touch rows t = record t { cells = by_place (λ row cell. if list_any (nat_eq row) rows then record cell { touched = true } else cell) t.cells }

-- a touched row has this outcome
abbrev pub after_outcome : ℕ → Outcome → Progress → Progress
after_outcome row outcome t = record t { cells = slice_set t.cells row (record { touched = true; outcome = Some outcome }) }

-- the executing row ran
abbrev pub after_ran : ℕ → Bool → Progress → Progress
after_ran row threw t = record t { ran = t.ran ++ (row, threw) ∷ []; executing = None }
