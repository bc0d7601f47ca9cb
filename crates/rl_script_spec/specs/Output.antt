-- What `drive` prints for a registry and the steps of a script.
use Rattle.std.specs.Prelude.{ℕ, ◌&&◌, ◌++◌, List, [], ◌∷◌, Bool, true, false, not, if◌then◌else◌, length, filter, map, flat_map, drop}
use Rattle.std.specs.Prelude.{Option, Some, None, is_none, codes, decimal, count_by, nat_eq}
use Rattle.std.specs.List.{list_all, list_any}
use Rattle.rl_view_spec.specs.Closure.{Text, Registered, Refusal, Unknown, Cycle, refusal_of, resolves}
pub use Rattle.rl_view_spec.specs.Keys.{counts, version_of, script_of, row_version, key_or_name, key_of}
use Rattle.rl_view_spec.specs.Requests.{accepted, accepted_each, answer_alone, request}
use Rattle.rl_view_spec.specs.View.{Answer, Implementation, Missing, Failed, Event, View, is_touched, first_of, state_of, throws_at, log_of}
use Rattle.rl_view_spec.specs.Progress.{name_at, row_numbers}
use Rattle.rl_view_spec.specs.declared.Phase.{Phase}
use Rattle.rl_view_spec.specs.declared.Phase.TheVariants as phase
use Rattle.rl_names.specs.declared.kind.StateKind.{StateKind}
use Rattle.rl_names.specs.declared.kind.StateKind.TheVariants as kinds
use Rattle.rl_script_spec.specs.declared.Step.{Step}
use Rattle.rl_script_spec.specs.declared.Step.TheVariants.{Using, Load, Impl, State}

-- what a `state` line answers its name with
abbrev pub answer_of : StateKind → Answer
answer_of kinds.Missing = Missing
answer_of kinds.Error = Failed

-- What a step does: a request that is refused, and a name that is dropped, ask for nothing. A request brings an error for
-- each private row that it touches.
abbrev pub event_of : Registered → Step → Event
event_of r (Using names) = request answer_alone r (accepted r names)
event_of r (Load names) = request answer_alone r (accepted_each r names)
event_of r (Impl key script) = record { requested = []; came = (key.name, Implementation key.version script) ∷ [] }
event_of r (State name kind) = record { requested = []; came = (name, answer_of kind) ∷ [] }

-- the steps so far and their events, the newest first
abbrev pub events_of : Registered → List Step → List Event
events_of r past = map (event_of r) past

abbrev pub line : Text → Text
line text = text ++ 10 ∷ []

abbrev pub refused_line : Option Refusal → Text
refused_line None = codes "using ok"
refused_line (Some (Unknown name)) = codes "using unknown " ++ name
refused_line (Some (Cycle name)) = codes "using cycle " ++ name

abbrev pub part_line : Bool → Text
part_line used = if used then codes "used" else codes "passed"

abbrev pub reply_line : View → List Event → Step → Text
reply_line v past (Using names) = refused_line (refusal_of v.registered names)
reply_line v past (Load names) = codes "load dropped " ++ decimal (count_by (λ name. not (resolves v.registered name)) names)
reply_line v past (Impl key script) = part_line (counts v past key.name)
reply_line v past (State name kind) = part_line (counts v past name)

-- a key, and how long its script is
abbrev pub run_text : View → List Event → Text → Text
run_text v past name = key_of v past name ++ codes " " ++ decimal (length (script_of (first_of v past name)))

abbrev pub run_line : View → List Event → Text → Text
run_line v past name = line ((if throws_at v past name then codes "threw " else codes "ran ") ++ run_text v past name)

-- the reply to a step, and a line for each run that it added
abbrev pub reply_to : View → List Event → Step → Text
reply_to v past step =
    let now = event_of v.registered step ∷ past in
    line (reply_line v past step) ++ flat_map (λ row. run_line v now (name_at v.registered row)) (drop (length (log_of v past)) (log_of v now))

-- the replies to all steps, of which the newest stands first
abbrev pub replies_of : View → List Step → Text
replies_of v [] = []
replies_of v (step ∷ past) = replies_of v past ++ reply_to v (events_of v.registered past) step

abbrev pub state_word : Phase → Text
state_word phase.Registered = codes "registered"
state_word phase.Loading = codes "loading"
state_word phase.Loaded = codes "loaded"
state_word phase.Executing = codes "executing"
state_word phase.Ready = codes "ready"
state_word phase.Error = codes "error"
state_word phase.Missing = codes "missing"

abbrev pub state_line : View → List Event → Text → Text
state_line v past name = line (state_word (state_of v past name) ++ codes " " ++ key_of v past name)

abbrev pub names_where : Registered → (Text → Bool) → List Text
names_where r test = filter test (map (λ row. row.name) r.rows)

-- ---- the summary of a view, by its parts

abbrev pub view_line : ℕ → Text
view_line number = line (codes "view " ++ decimal number)

-- the touched rows with their states, in row order
abbrev pub states_told : View → List Event → Text
states_told v past = flat_map (state_line v past) (names_where v.registered (is_touched v past))

abbrev pub executed_line : View → List Event → Text → Text
executed_line v past name = line (codes "executed " ++ run_text v past name)

-- the rows that ran, in row order
abbrev pub executed_told : View → List Event → Text
executed_told v past =
    flat_map (λ row. executed_line v past (name_at v.registered row))
    (filter (λ row. list_any (nat_eq row) (log_of v past)) (row_numbers v.registered))

abbrev pub summary_of : ℕ → View → List Event → Text
summary_of number v past = view_line number ++ states_told v past ++ executed_told v past

abbrev pub output_of : View → List Step → Text
output_of v past = replies_of v past ++ line (codes "summary") ++ summary_of 0 v (events_of v.registered past)

abbrev pub is_ready : Phase → Bool
is_ready phase.Ready = true
is_ready other = false

abbrev pub are_ready : View → List Event → List Text → Bool
are_ready v past names = list_all (λ name. is_ready (state_of v past name)) names

-- the step was not refused, dropped nothing, and what it requested is ready in the end
abbrev pub was_served : View → List Event → Step → Bool
was_served v past (Using names) = is_none (refusal_of v.registered names) && are_ready v past names
was_served v past (Load names) = list_all (resolves v.registered) names && are_ready v past names
was_served v past (Impl key script) = true
was_served v past (State name kind) = true

abbrev pub all_ready : View → List Step → Bool
all_ready v past = list_all (was_served v (events_of v.registered past)) past
