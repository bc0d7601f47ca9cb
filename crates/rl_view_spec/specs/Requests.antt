-- Which names of a request are accepted, and what their rows are answered with at once.
use Rattle.std.specs.Prelude.{List, [], filter, if◌then◌else◌, is_none, option_map, Option, Some, None}
use Rattle.std.specs.List.{filter_map}
use Rattle.rl_names.specs.declared.row.Row.{Row}
use Rattle.rl_view_spec.specs.Closure.{Text, Registered, closure_rows, refusal_of, resolves}
use Rattle.rl_view_spec.specs.Rows.{is_private}
use Rattle.rl_view_spec.specs.View.{Answer, Event, Failed}

-- all of them together, or none
abbrev pub accepted : Registered → List Text → List Text
accepted r names = if is_none (refusal_of r names) then names else []

-- each by itself
abbrev pub accepted_each : Registered → List Text → List Text
accepted_each r names = filter (resolves r) names

-- what one row is answered with, under its name
abbrev pub given_by : (Row → Option Answer) → Row → Option (Text × Answer)
given_by answer row = option_map (λ given. (row.name, given)) (answer row)

-- An accepted request: the rows of the closures are touched, and where a row has an answer at its first touch the
-- request brings it, rows taken in row order. For a row that was answered before it does not count.
abbrev pub request : (Row → Option Answer) → Registered → List Text → Event
request answer r names = record { requested = names; came = filter_map (given_by answer) (closure_rows r names) }

-- where nothing was embedded and nothing is stored: an error for a private row
abbrev pub answer_alone : Row → Option Answer
answer_alone row = if is_private row.group then Some Failed else None
