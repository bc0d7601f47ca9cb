-- What the rows of a view were answered with, where from, and under which keys.
use Rattle.std.specs.Prelude.{ℕ, ◌-◌, ◌&&◌, ◌∷◌, [], List, if◌then◌else◌, count_by, length, map, option_and_then, option_map}
use Rattle.std.specs.Prelude.{is_none, is_some, Option, None, Result, Ok, Err}
use Rattle.std.specs.Option.{option_or}
use Rattle.rl_names.specs.declared.row.Row.{Row}
use Rattle.rl_view_spec.specs.Closure.{Text, Registered, row_of}
use Rattle.rl_view_spec.specs.View.{Answer, first_of}
use Rattle.rl_view_spec.specs.Keys.{never, version_of}
use Rattle.rl_wire.specs.Reading as wire
use Rattle.rl_wire.specs.declared.part.Part.{Part}
use Rattle.rl_book_spec.specs.Book.{events_of}
use Rattle.rl_book_spec.specs.Opening.{Opening, view_of, part_of, stored_of}
use Rattle.rl_view_spec.specs.Rows.{is_private}
use Rattle.rl_book_spec.specs.declared.Call.{Call}
use Rattle.rl_book_spec.specs.declared.Call.TheVariants.{Using, Load, Take, Deliver, Lose}
use Rattle.rl_book_spec.specs.declared.Origin.{Origin}
use Rattle.rl_book_spec.specs.declared.Origin.TheVariants as origin
use Rattle.rl_book_spec.specs.declared.Took.{Took}

-- the first outcome of a name
abbrev pub outcome_of : Opening → List Call → Text → Option Answer
outcome_of o past name = first_of (view_of never o) (events_of o past) name

-- ---- what a delivery was used for

-- the rows that have an outcome since the call
abbrev pub used_by : Opening → List Call → Call → ℕ
used_by o past call = count_by (λ row. is_none (outcome_of o past row.name) && is_some (outcome_of o (call ∷ past) row.name)) o.registered.rows

-- how many parts of an answer were used and how many were passed over
abbrev pub took_by : Opening → List Call → Call → List Part → Took
took_by o past call parts = record { used = used_by o past call; passed = length parts - used_by o past call }

-- ---- the part that became an outcome

-- the part that a row takes when it is touched, and where it is from
abbrev pub given_at_touch : Opening → Row → Option (Part × Origin)
given_at_touch o row =
    option_or (option_map (λ part. (part, origin.Embedded)) (part_of o.embedded row.name))
    (if is_private row.group then None else option_map (λ stored. (stored.part, origin.Stored stored.wire)) (stored_of o row))

-- the part that a name takes of an answer
abbrev pub given_in : Text → Result (List Part) ℕ → Origin → Option (Part × Origin)
given_in name (Ok parts) from = option_map (λ part. (part, from)) (part_of parts name)
given_in name (Err line) from = None

-- the part that a call gives a name
abbrev pub given_by : Opening → Call → Text → Option (Part × Origin)
given_by o (Using names) name = option_and_then (given_at_touch o) (row_of o.registered name)
given_by o (Load names) name = option_and_then (given_at_touch o) (row_of o.registered name)
given_by o Take name = None
given_by o (Deliver ask bytes mark) name = given_in name (wire.answer_of bytes) (origin.Wire mark)
given_by o (Lose ask mark) name = None

-- the part that became the outcome of a name: that of the call since which it has one
abbrev pub given_to : Opening → List Call → Text → Option (Part × Origin)
given_to o [] name = None
given_to o (call ∷ past) name =
    if is_none (outcome_of o past name) && is_some (outcome_of o (call ∷ past) name) then given_by o call name else given_to o past name

-- ---- versions

-- a row, with the version of its outcome where this is an implementation
abbrev pub versioned : Opening → List Call → Row → Row
versioned o past row = record row { version = version_of (outcome_of o past row.name) row.version }

-- the rows, with the versions that they have by now
abbrev pub registered_after : Opening → List Call → Registered
registered_after o past = record { rows = map (versioned o past) o.registered.rows; features = o.registered.features }
