-- How a table keeps to the history of its view, whatever the observers and the events.
use Rattle.std.specs.Prelude.{◌≡◌, ◌++◌, ◌∷◌, [], ◌<◌, ℕ, List, IsFalse, Some, length}
use Rattle.rl_view_spec.specs.Closure.{Text}
use Rattle.rl_view_spec.specs.Keys.{counts}
use Rattle.rl_view_spec.specs.Laws.{AreLawful}
use Rattle.rl_view_spec.specs.Numbers.{closure_numbers}
use Rattle.rl_view_spec.specs.Progress.{Progress, HasDistinctNames, name_at, next_row, phase_of}
use Rattle.rl_view_spec.specs.View.{View, Event, Answer, throws_at, progress_of, state_of, log_of}
use Rattle.rl_states.specs.Changes.{after_ran, after_touch, fresh_progress}
use Rattle.rl_view.specs.Seen.{HasSeen, IsDue, after_answer, asks, counting_row, with_answer}

-- a fresh table stands for a view to which nothing happened
abbrev pub Begins : Type 0
Begins = (v : View) (t : Progress) → HasDistinctNames v.registered → t ≡ fresh_progress v.registered → HasSeen v [] [] t

-- a request touches the closures of its names
abbrev pub Touches : Type 0
Touches =
    (v : View) (names : List Text) (past : List Event) (t t' : Progress) → HasSeen v past (log_of v past) t
    → t' ≡ after_touch (closure_numbers t.registered names) t → IsDue v (asks names) past t'

-- an answer that counts for a row is its first; one more answer came
abbrev pub Answers : Type 0
Answers =
    (v : View) (name : Text) (answer : Answer) (event : Event) (past : List Event) (row : ℕ) (t t' : Progress) → IsDue v event past t
    → counting_row t name ≡ Some row → t' ≡ after_answer row answer t → IsDue v (with_answer name answer event) past t'

-- one that does not count changes nothing
abbrev pub PassesOver : Type 0
PassesOver =
    (v : View) (name : Text) (answer : Answer) (event : Event) (past : List Event) (t : Progress) → IsDue v event past t
    → IsFalse (counts v (event ∷ past) name) → IsDue v (with_answer name answer event) past t

-- the next row that may run does, and threw where an observer throws for it
abbrev pub RunsOn : Type 0
RunsOn =
    (v : View) (past : List Event) (log : List ℕ) (row : ℕ) (t t' : Progress) → HasSeen v past log t
    → t' ≡ after_ran row (throws_at v past (name_at v.registered row)) t → HasSeen v past (log ++ row ∷ []) t'

-- what may run next in the table is what may run next in the view
abbrev pub RunsSame : Type 0
RunsSame = (v : View) (past : List Event) (log : List ℕ) (t : Progress) → HasSeen v past log t → next_row t ≡ next_row (progress_of v past log)

-- the table tells the states
abbrev pub TellsStates : Type 0
TellsStates =
    (v : View) (past : List Event) (t : Progress) → AreLawful v past → HasSeen v past (log_of v past) t
    → (row : ℕ) → row < length v.registered.rows → phase_of t row ≡ state_of v past (name_at v.registered row)
