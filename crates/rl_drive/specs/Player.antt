-- A player and the history that it has played.
use Rattle.std.specs.Prelude.{◌≡◌, ◌++◌, ◌∷◌, ◌<◌, ◌&&◌, ℕ, List, Bool, if◌then◌else◌, Option, Some, None, Result, Ok, Err}
use Rattle.std.specs.Prelude.{drop, length, map, option_to_list}
use Rattle.rl_names.specs.Meant.{ButForMemory}
use Rattle.rl_names.specs.declared.text.NoMemory.{NoMemory}
use Rattle.rl_names.specs.declared.name.Key.{Key}
use Rattle.rl_view_spec.specs.Closure.{Text, Registered, refusal_of}
use Rattle.rl_view_spec.specs.Numbers.{closure_numbers}
use Rattle.rl_view_spec.specs.Progress.{next_row}
use Rattle.rl_view_spec.specs.Requests.{answer_alone, request}
use Rattle.rl_view_spec.specs.View.{View, Event, log_of}
use Rattle.rl_view_spec.specs.declared.Outcome.TheVariants as outcome
use Rattle.rl_registry.specs.Answered.{refusal_told}
use Rattle.rl_registry.specs.declared.error.ResolveError.{ResolveError}
use Rattle.rl_script_spec.specs.Output.{event_of, events_of, line, reply_line, reply_to}
use Rattle.rl_script_spec.specs.declared.Step.{Step}
use Rattle.rl_states.specs.Changes.{after_outcome, after_ran}
use Rattle.rl_view.specs.Heard.{after_hearing, executions_of, watched}
use Rattle.rl_view.specs.Seen.{HasSeen, asks, counts_at}
use Rattle.rl_drive.specs.Given.{execution_in, given_in}
use Rattle.rl_drive.specs.Played.{execution_at, is_private_at, run_lines, throws_for_run}
use Rattle.rl_drive.specs.declared.player.Player.{Player}

-- what is heard of the runs of its rows
abbrev pub held : Player → List (Option (Key × Text))
held p = map execution_in p.given.items

-- its view has this past, of which these rows ran
pub record Sees (v : View) (past : List Event) (log : List ℕ) (p : Player) : Type 0 where
  pub table : HasSeen v past log p.table
  pub given : held p ≡ given_in v past

-- it has played these steps, of which the newest stands first
abbrev pub HasPlayed : View → List Step → Player → Type 0
HasPlayed v past p = Sees v (events_of v.registered past) (log_of v (events_of v.registered past)) p

-- the event came, and nothing ran for it yet
abbrev pub IsDue : View → Event → List Event → Player → Type 0
IsDue v event past p = Sees v (event ∷ past) (log_of v past) p

-- it is as it was
pub record Stays (old new : Player) : Type 0 where
  pub table : new.table ≡ old.table
  pub given : held new ≡ held old

-- a private row for which an answer counts has an error
pub record RefusesPrivate (row : ℕ) (old new : Player) : Type 0 where
  pub table : new.table ≡ (if is_private_at old.table row && counts_at old.table row then after_outcome row outcome.Error old.table else old.table)
  pub given : held new ≡ held old

-- so have all private ones of these rows, as a request of the names brings it
abbrev pub RefusesAll : List ℕ → Player → Player → Type 0
RefusesAll rows old new =
    (v : View) (names : List Text) (past : List Event) → IsDue v (asks names) past old → rows ≡ closure_numbers v.registered names
    → IsDue v (request answer_alone v.registered names) past new

-- the names are accepted, and the request came
pub record Requested (names : List Text) (old new : Player) : Type 0 where
  pub accepted : refusal_of old.table.registered names ≡ None
  pub event : (v : View) (past : List Event) → Sees v past (log_of v past) old → IsDue v (request answer_alone v.registered names) past new

-- where they are refused nothing changes
abbrev pub Requests : Result (Unit {0}) ResolveError → List Text → Player → Player → Type 0
Requests result names old new =
    ButForMemory refusal_told (λ _. Requested names old new) (λ refusal. (refusal_of old.table.registered names ≡ Some refusal) × Stays old new) result

-- it takes in a step, and adds the reply to it
pub record TakesIn (step : Step) (old new : Player) (out out' : Text) : Type 0 where
  pub event : (v : View) (past : List Step) → HasPlayed v past old → IsDue v (event_of v.registered step) (events_of v.registered past) new
  pub reply : (v : View) (past : List Step) → HasPlayed v past old → out' ≡ out ++ line (reply_line v (events_of v.registered past) step)

-- ---- runs

-- what each observer was told
abbrev pub Told : Type 0
Told = List (List (Key × Text))

-- it runs a row, and whoever hears of it says whether it threw
pub record Ran (says : Key → Text → Bool) (row : ℕ) (threw : Bool) (old new : Player) (told told' : Told) : Type 0 where
  pub next : next_row old.table ≡ Some row
  pub within : row < length new.table.registered.rows
  pub table : new.table ≡ after_ran row threw old.table
  pub given : held new ≡ held old
  pub thrown : threw ≡ throws_for_run says (execution_at (held old) row)
  pub heard : told' ≡ after_hearing (option_to_list (execution_at (held old) row)) told

-- the one of least number, where one may run; where memory ran out nobody heard of a run
abbrev pub RunsNext : (Key → Text → Bool) → Result (Option (ℕ × Bool)) NoMemory → Player → Player → Told → Told → Type 0
RunsNext says (Ok (Some run)) old new told told' = Ran says run.0 run.1 old new told told'
RunsNext says (Ok None) old new told told' = (next_row old.table ≡ None) × Stays old new × (told' ≡ told)
RunsNext says (Err error) old new told told' = told' ≡ told

-- it runs all that may run, tells of each run, and adds a line for it
pub record RunsDue (says : Key → Text → Bool) (old new : Player) (out out' : Text) (told told' : Told) : Type 0 where
  pub rest : next_row new.table ≡ None
  pub log :
      (r : Registered) (event : Event) (past : List Event) → IsDue (watched says r) event past old
      → Sees (watched says r) (event ∷ past) (log_of (watched says r) (event ∷ past)) new
  pub lines :
      (r : Registered) (event : Event) (past : List Event) → IsDue (watched says r) event past old
      → out' ≡ out ++ run_lines (watched says r) (event ∷ past)
      (drop (length (log_of (watched says r) past)) (log_of (watched says r) (event ∷ past)))
  pub heard :
      (r : Registered) (event : Event) (past : List Event) → IsDue (watched says r) event past old
      → told' ≡ after_hearing (executions_of (watched says r) (event ∷ past)
      (drop (length (log_of (watched says r) past)) (log_of (watched says r) (event ∷ past)))) told

-- of the runs for an event the first so many were heard
pub record HeardSome (v : View) (event : Event) (past : List Event) (told told' : Told) : Type 0 where
  pub some : List ℕ
  pub rest : List ℕ
  pub log : log_of v (event ∷ past) ≡ log_of v past ++ (some ++ rest)
  pub heard : told' ≡ after_hearing (executions_of v (event ∷ past) some) told

-- where memory ran out before all ran
abbrev pub StopsDue : (Key → Text → Bool) → Player → Told → Told → Type 0
StopsDue says old told told' =
    (r : Registered) (event : Event) (past : List Event) → IsDue (watched says r) event past old → HeardSome (watched says r) event past told told'

-- it plays a step, and adds what is printed for it
pub record Plays (says : Key → Text → Bool) (step : Step) (old new : Player) (out out' : Text) (told told' : Told) : Type 0 where
  pub rest : next_row new.table ≡ None
  pub played : (r : Registered) (past : List Step) → HasPlayed (watched says r) past old → HasPlayed (watched says r) (step ∷ past) new
  pub text : (r : Registered) (past : List Step) → HasPlayed (watched says r) past old → out' ≡ out ++ reply_to (watched says r) (events_of r past) step
  pub heard :
      (r : Registered) (past : List Step) → HasPlayed (watched says r) past old
      → told' ≡ after_hearing (executions_of (watched says r) (events_of r (step ∷ past))
      (drop (length (log_of (watched says r) (events_of r past))) (log_of (watched says r) (events_of r (step ∷ past))))) told

-- where memory ran out before all ran
abbrev pub StopsStep : (Key → Text → Bool) → Step → Player → Told → Told → Type 0
StopsStep says step old told told' =
    (r : Registered) (past : List Step) → HasPlayed (watched says r) past old
    → HeardSome (watched says r) (event_of r step) (events_of r past) told told'
