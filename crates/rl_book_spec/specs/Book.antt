-- A view from its opening on, by its calls: what each call brings, and what follows.
use Rattle.std.specs.Prelude.{ℕ, ◌∷◌, [], ◌&&◌, List, if◌then◌else◌, filter, map, nat_lt, Result, Ok, Err}
use Rattle.std.specs.Option.{option_map_or}
use Rattle.rl_view_spec.specs.Closure.{Text, Registered}
use Rattle.rl_view_spec.specs.Progress.{name_at}
use Rattle.rl_view_spec.specs.View.{Event, Answer, GivenUp}
use Rattle.rl_wire.specs.Reading as wire
use Rattle.rl_wire.specs.declared.part.Part.{Part}
use Rattle.rl_book_spec.specs.Opening.{Opening, answer_at_touch, part_name, answer_of}
use Rattle.rl_view_spec.specs.Requests.{accepted, accepted_each}
use Rattle.rl_view_spec.specs.Requests as requests
use Rattle.rl_book_spec.specs.Traffic.{Traffic, asked_of, may_be_lost, traffic_of, holds}
use Rattle.rl_book_spec.specs.declared.Batch.{Batch}
use Rattle.rl_book_spec.specs.declared.Call.{Call}
use Rattle.rl_book_spec.specs.declared.Call.TheVariants.{Using, Load, Take, Deliver, Lose}

-- ---- what a call brings, as an event of the view

abbrev pub nothing : Event
nothing = record { requested = []; came = [] }

abbrev pub request : Opening → List Text → Event
request o names = requests.request (answer_at_touch o) o.registered names

abbrev pub bring : List (Text × Answer) → Event
bring came = record { requested = []; came = came }

-- the parts of an answer that are for rows of the batch
abbrev pub parts_for : Registered → Batch → List Part → List (Text × Answer)
parts_for r batch parts = map (λ part. (part_name part, answer_of part)) (filter (λ part. holds r batch (part_name part)) parts)

-- all rows of a batch are given up
abbrev pub given_up : Registered → Batch → List (Text × Answer)
given_up r batch = map (λ row. (name_at r row, GivenUp)) batch.rows

-- the loss of an ask gives its batch up where it is the third of the batch
abbrev pub loss : Opening → Traffic → ℕ → Event
loss o t ask = option_map_or (λ pair. if may_be_lost pair && nat_lt 1 pair.1.losses then bring (given_up o.registered pair.1.batch) else nothing)
    (asked_of t ask) nothing

-- a well-formed answer brings its parts, also where the ask was lost or another answer came before
abbrev pub delivery : Opening → Traffic → ℕ → Result (List Part) ℕ → Event
delivery o t ask (Ok parts) = option_map_or (λ pair. bring (parts_for o.registered pair.1.batch parts)) (asked_of t ask) nothing
delivery o t ask (Err line) = loss o t ask

abbrev pub event_of : Opening → List Call → Call → Event
event_of o past (Using names) = request o (accepted o.registered names)
event_of o past (Load names) = request o (accepted_each o.registered names)
event_of o past Take = nothing
event_of o past (Deliver ask bytes mark) = delivery o (traffic_of o past) ask (wire.answer_of bytes)
event_of o past (Lose ask mark) = loss o (traffic_of o past) ask

-- the events of a view's calls, the newest first
abbrev pub events_of : Opening → List Call → List Event
events_of o [] = []
events_of o (call ∷ past) = event_of o past call ∷ events_of o past
