-- A book: a view from its opening on, with its calls and what has executed so far.
use Rattle.std.specs.Prelude.{◌≡◌, ◌≤◌, ◌⊎◌, ◌&&◌, ◌++◌, ◌∷◌, [], ℕ, List, Bool, IsTrue, true, false, not, bytes_eq}
use Rattle.std.specs.Prelude.{is_some, length, map, Some}
use Rattle.std.specs.List.{list_all, list_any}
use Rattle.rl_view_spec.specs.Closure.{Text, Registered}
use Rattle.rl_view_spec.specs.Progress.{name_at, next_row, HasDistinctNames}
use Rattle.rl_view_spec.specs.View.{View, Event, Throws, is_implementation, progress_of, run_times, log_of}
use Rattle.rl_book_spec.specs.Book.{events_of}
use Rattle.rl_book_spec.specs.Given.{registered_after}
use Rattle.rl_book_spec.specs.Opening.{Opening, view_of}
use Rattle.rl_book_spec.specs.Traffic.{Traffic, traffic_of}
use Rattle.rl_book_spec.specs.declared.Call.{Call}
use Rattle.rl_book_spec.specs.declared.Plan.{Plan}
use Rattle.rl_names.specs.declared.counted.TheConstants as limits

-- The startup text and the embedded text that it was opened with, what they say, its calls, of which the newest stands
-- first, and the rows that executed, in order, each with whether an observer threw.
pub record Booked : Type 0 where
  pub startup : Text
  pub embedded : Text
  pub opening : Opening
  pub past : List Call
  pub ran : List (ℕ × Bool)

-- ---- its view

-- the observers threw for the rows that say so, and for no other
abbrev pub threw_in : Registered → List (ℕ × Bool) → Throws
threw_in r ran name version script = list_any (λ run. run.1 && bytes_eq (name_at r run.0) name) ran

abbrev pub view_in : Booked → View
view_in b = view_of (threw_in b.opening.registered b.ran) b.opening

abbrev pub events_in : Booked → List Event
events_in b = events_of b.opening b.past

abbrev pub traffic_in : Booked → Traffic
traffic_in b = traffic_of b.opening b.past

abbrev pub rows_run : Booked → List ℕ
rows_run b = map (λ run. run.0) b.ran

-- some row may run
abbrev pub is_due : Booked → Bool
is_due b = is_some (next_row (progress_of (view_in b) (events_in b) (rows_run b)))

-- ---- how far it has executed

abbrev pub is_nothing : List Text → Bool
is_nothing [] = true
is_nothing (name ∷ names) = false

-- an event that asks for nothing and brings no implementation
abbrev pub is_quiet : Event → Bool
is_quiet event = is_nothing event.requested && list_all (λ coming. not (is_implementation (Some coming.1))) event.came

-- These rows ran and others may be due: those that ran before the newest event and some more since, or as many as before it
-- where it is quiet.
abbrev pub IsStage : View → List Event → List ℕ → Type 0
IsStage v [] log = log ≡ []
IsStage v (event ∷ past) log = ((times : ℕ) × (log ≡ run_times v (event ∷ past) times (log_of v past)))
    ⊎ (IsTrue (is_quiet event) × IsStage v past log)

-- what holds of a book at every moment
pub record IsBook (b : Booked) : Type 0 where
  pub few : length b.opening.registered.rows ≤ limits.MAX_ROWS
  pub distinct : HasDistinctNames b.opening.registered
  pub stage : IsStage (view_in b) (events_in b) (rows_run b)

-- ---- its registry

abbrev pub registered_in : Booked → Registered
registered_in b = registered_after b.opening b.past

abbrev pub plan_in : Booked → Plan
plan_in b = record { base = b.opening.base; features = b.opening.registered.features; embedded = b.embedded; limit = b.opening.limit }

-- ---- how it changes

-- it goes on from the same opening, and only adds to what executed
pub record GoesOn (old new : Booked) : Type 0 where
  pub startup : new.startup ≡ old.startup
  pub embedded : new.embedded ≡ old.embedded
  pub opening : new.opening ≡ old.opening
  pub ran : (more : List (ℕ × Bool)) × (new.ran ≡ old.ran ++ more)

-- no call was taken in: nothing but executions that were due before was done
pub record OnlyRan (old new : Booked) : Type 0 where
  pub on : GoesOn old new
  pub past : new.past ≡ old.past

-- the call was taken in
pub record TakesIn (call : Call) (old new : Booked) : Type 0 where
  pub on : GoesOn old new
  pub past : new.past ≡ call ∷ old.past

-- and nothing executed, since it takes no memory
abbrev pub Notes : Call → Booked → Booked → Type 0
Notes call old new = new ≡ record old { past = call ∷ old.past }

-- memory ran out before the call was taken in, or when only executions were left
abbrev pub StopsShort : Call → Type 0 → Booked → Booked → Type 0
StopsShort call accepted old new = OnlyRan old new ⊎ (accepted × TakesIn call old new × IsTrue (is_due new))
