-- How a table goes from one event to the next, and how a loop comes to the log.
use Rattle.std.specs.Prelude.{◌≡◌, ◌<◌, ◌≤◌, ◌||◌, ◌&&◌, ◌++◌, ◌∷◌, [], not, ℕ, suc, List, length, if◌then◌else◌}
use Rattle.std.specs.Prelude.{Some, None, option_map}
use Rattle.std.specs.Option.{option_or}
use Rattle.rl_view_spec.specs.Closure.{in_closures}
use Rattle.rl_view_spec.specs.Progress.{name_at, next_row, is_touched_at, is_skipped_at, outcome_at, HasDistinctNames}
use Rattle.rl_view_spec.specs.View.{View, Event, answer_in, kind_of, progress_of, run_times, log_of}

-- the runs that were so far stay as they were, with whether each threw
abbrev pub RunsStay : Type 0
RunsStay = (v : View) (event : Event) (past : List Event) → (progress_of v (event ∷ past) (log_of v past)).ran ≡ (progress_of v past (log_of v past)).ran

-- an event touches what it requests,
abbrev pub TouchesRequested : Type 0
TouchesRequested =
    (v : View) (event : Event) (past : List Event) (log : List ℕ) (row : ℕ) → row < length v.registered.rows
    → is_touched_at (progress_of v (event ∷ past) log) row
    ≡ (in_closures v.registered event.requested (name_at v.registered row) || is_touched_at (progress_of v past log) row)

-- and answers the touched rows that are not skipped and have no outcome
abbrev pub AnswersOnce : Type 0
AnswersOnce =
    (v : View) (event : Event) (past : List Event) (log : List ℕ) → HasDistinctNames v.registered → (row : ℕ) → row < length v.registered.rows
    → outcome_at (progress_of v (event ∷ past) log) row
    ≡ option_or (outcome_at (progress_of v past log) row)
    (if is_touched_at (progress_of v (event ∷ past) log) row && not (is_skipped_at v.registered row) then
    option_map kind_of (answer_in (name_at v.registered row) event) else None)

-- one run more
abbrev pub RunsOneMore : Type 0
RunsOneMore =
    (v : View) (past : List Event) (times : ℕ) (log : List ℕ) (row : ℕ) → next_row (progress_of v past (run_times v past times log)) ≡ Some row
    → run_times v past (suc times) log ≡ run_times v past times log ++ row ∷ []

-- a loop that runs the next row until there is none comes to the log
abbrev pub LoopEnds : Type 0
LoopEnds =
    (v : View) (event : Event) (past : List Event) (times : ℕ) →
    next_row (progress_of v (event ∷ past) (run_times v (event ∷ past) times (log_of v past))) ≡ None
    → run_times v (event ∷ past) times (log_of v past) ≡ log_of v (event ∷ past)

-- on its way it has a front of the log,
abbrev pub LoopIsFront : Type 0
LoopIsFront =
    (v : View) (event : Event) (past : List Event) (times : ℕ)
    → (rest : List ℕ) × (log_of v (event ∷ past) ≡ run_times v (event ∷ past) times (log_of v past) ++ rest)

-- and never more runs than there are rows
abbrev pub LoopIsShort : Type 0
LoopIsShort =
    (v : View) (event : Event) (past : List Event) (times : ℕ) → length (run_times v (event ∷ past) times (log_of v past)) ≤ length v.registered.rows
