-- A table and the history of a view that it stands for.
use Rattle.std.specs.Prelude.{◌≡◌, ◌++◌, ◌∷◌, ◌&&◌, [], ℕ, List, Bool, not, if◌then◌else◌, is_none, map, Option, Some, None}
use Rattle.std.specs.Prelude.{option_and_then, slice_get}
use Rattle.rl_names.specs.declared.row.Row.{Row}
use Rattle.rl_view_spec.specs.Closure.{Text, Registered}
use Rattle.rl_view_spec.specs.Keys.{version_of}
use Rattle.rl_view_spec.specs.Numbers.{number_of}
use Rattle.rl_view_spec.specs.Progress.{Progress, HasDistinctNames, is_touched_at, is_skipped_at, outcome_at}
use Rattle.rl_view_spec.specs.Requests.{given_by}
use Rattle.rl_view_spec.specs.View.{View, Event, Answer, Implementation, first_of, kind_of, log_of, progress_of}
use Rattle.rl_view_spec.specs.declared.Outcome.TheVariants as outcome
use Rattle.rl_registry.specs.Rows.{with_version}
use Rattle.rl_states.specs.Changes.{after_outcome}

-- a row, with the version that it has by now
abbrev pub versioned : View → List Event → Row → Row
versioned v past row = record row { version = version_of (first_of v past row.name) row.version }

abbrev pub registered_now : View → List Event → Registered
registered_now v past = record v.registered { rows = map (versioned v past) v.registered.rows }

-- the progress of a view of which these rows ran, over rows with the versions that they have by now
abbrev pub progress_now : View → List Event → List ℕ → Progress
progress_now v past log = record (progress_of v past log) { registered = registered_now v past }

-- a table stands for a view with this past, of which these rows ran
pub record HasSeen (v : View) (past : List Event) (log : List ℕ) (t : Progress) : Type 0 where
  pub distinct : HasDistinctNames v.registered
  pub table : t ≡ progress_now v past log

-- the event came, and nothing ran for it yet
abbrev pub IsDue : View → Event → List Event → Progress → Type 0
IsDue v event past t = HasSeen v (event ∷ past) (log_of v past) t

-- what follows of the first outcome of each row
abbrev pub for_outcomes : {X : Type 0} → (Option Answer → X) → View → List Event → List X
for_outcomes f v past = map (λ row. f (first_of v past row.name)) v.registered.rows

-- ---- events that grow

-- a request of these names, of which nothing came yet
abbrev pub asks : List Text → Event
asks names = record { requested = names; came = [] }

-- one answer more
abbrev pub with_answer : Text → Answer → Event → Event
with_answer name answer event = record event { came = event.came ++ (name, answer) ∷ [] }

-- ---- answers that count

abbrev pub counts_at : Progress → ℕ → Bool
counts_at t row = is_touched_at t row && not (is_skipped_at t.registered row) && is_none (outcome_at t row)

-- the row for which an answer of this name counts
abbrev pub counting_row : Progress → Text → Option ℕ
counting_row t name = option_and_then (λ row. if counts_at t row then Some row else None) (number_of t.registered name)

-- the table after the first answer of a row, which sets its version where it is an implementation
abbrev pub after_answer : ℕ → Answer → Progress → Progress
after_answer row (Implementation version script) t =
    record (after_outcome row outcome.Impl t) { registered = with_version t.registered row version }
after_answer row other t = after_outcome row (kind_of other) t

-- what a row is answered with, where its answer counts
abbrev pub given_to : ℕ → Option Answer → Progress → Progress
given_to row None t = t
given_to row (Some answer) t = if counts_at t row then after_answer row answer t else t

-- the answer that a request brings for the row of this number, under its name
abbrev pub brought_at : (Row → Option Answer) → Registered → ℕ → Option (Text × Answer)
brought_at answer r row = option_and_then (given_by answer) (slice_get r.rows row)

-- more answers, in order
abbrev pub with_answers : List (Text × Answer) → Event → Event
with_answers came event = record event { came = event.came ++ came }
