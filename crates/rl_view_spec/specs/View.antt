-- A view: what was requested of it, what came, and what follows of that.
use Rattle.std.specs.Prelude.{find, ℕ, zero, suc, ◌&&◌, ◌||◌, ◌++◌, List, [], ◌∷◌, Bool, true, false, not, if◌then◌else◌, bytes_eq}
use Rattle.std.specs.Prelude.{length, map, Option, Some, None, is_some, option_map, option_to_list}
use Rattle.std.specs.List.{list_any, list_all}
use Rattle.rl_names.specs.declared.row.Row.{Row}
use Rattle.rl_view_spec.specs.Closure.{Text, Registered, is_skipped, in_closure, in_closures}
use Rattle.rl_view_spec.specs.Progress.{Cell, Progress, name_at, next_row}
use Rattle.rl_view_spec.specs.declared.Outcome.{Outcome}
use Rattle.rl_view_spec.specs.declared.Outcome.TheVariants as outcome
use Rattle.rl_view_spec.specs.declared.Phase.{Phase}
use Rattle.rl_view_spec.specs.declared.Phase.TheVariants as phase

-- what a name is answered with
pub data Answer : Type 0 where
  Implementation : (version script : Text) → Answer
  Missing : Answer
  Failed : Answer
  GivenUp : Answer

-- What one call does to a view: the names of an accepted request, and the answers that come for names, in order.
-- A request may bring answers of its own, as parts that were embedded or stored.
pub record Event : Type 0 where
  pub requested : List Text
  pub came : List (Text × Answer)

-- Whether an observer throws for the script under this key, a name and a version.
abbrev pub Throws : Type 0
Throws = Text → Text → Text → Bool

-- A view so far. Its events stand with the newest first.
pub record View : Type 0 where
  pub registered : Registered
  pub throws : Throws

abbrev pub touches : Registered → Text → Event → Bool
touches r name event = in_closures r event.requested name

abbrev pub is_touched : View → List Event → Text → Bool
is_touched v past name = list_any (touches v.registered name) past

-- what an event answers the name with
abbrev pub answer_in : Text → Event → Option Answer
answer_in name event = option_map (λ coming. coming.1) (find (λ coming. bytes_eq coming.0 name) event.came)

abbrev pub or_else : Option Answer → Option Answer → Option Answer
or_else (Some outcome) later = Some outcome
or_else None later = later

-- The outcome of a name is the first answer after it was touched. A skipped name needs none.
abbrev pub first_of : View → List Event → Text → Option Answer
first_of v [] name = None
first_of v (event ∷ past) name =
    or_else (first_of v past name)
    (if is_touched v (event ∷ past) name && not (is_skipped v.registered name) then answer_in name event else None)

abbrev pub is_implementation : Option Answer → Bool
is_implementation (Some (Implementation version script)) = true
is_implementation other = false

-- the observers throw for what was answered
abbrev pub throws_for : Throws → Text → Option Answer → Bool
throws_for throws name (Some (Implementation version script)) = throws name version script
throws_for throws name other = false

abbrev pub throws_at : View → List Event → Text → Bool
throws_at v past name = throws_for v.throws name (first_of v past name)

-- skipped, or answered by an implementation for which no observer throws
abbrev pub is_good : View → List Event → Text → Bool
is_good v past name = is_skipped v.registered name || (is_implementation (first_of v past name) && not (throws_at v past name))

-- each name of a row in the closure passes the test
abbrev pub all_in_closure : Registered → Text → (Text → Bool) → Bool
all_in_closure r name test = list_all (λ row. not (in_closure r name row.name) || test row.name) r.rows

-- the other names of rows in the closure do
abbrev pub all_others : Registered → Text → (Text → Bool) → Bool
all_others r name test = all_in_closure r name (λ other. bytes_eq other name || test other)

-- its script ran, and an observer threw
abbrev pub is_thrown : View → List Event → Text → Bool
is_thrown v past name = throws_at v past name && all_others v.registered name (is_good v past)

abbrev pub is_lost : Option Answer → Bool
is_lost None = false
is_lost (Some (Implementation version script)) = false
is_lost other = true

abbrev pub is_broken : View → List Event → Text → Bool
is_broken v past name = is_lost (first_of v past name) || is_thrown v past name

abbrev pub is_missing : Option Answer → Bool
is_missing (Some Missing) = true
is_missing other = false

-- the state of a name, where no execution is due
abbrev pub state_of : View → List Event → Text → Phase
state_of v past name =
    if not (is_touched v past name) then phase.Registered
    else if all_in_closure v.registered name (is_good v past) then phase.Ready
    else if is_missing (first_of v past name) then phase.Missing
    else if not (all_in_closure v.registered name (λ member. not (is_broken v past member))) then phase.Error
    else if is_implementation (first_of v past name) then phase.Loaded
    else phase.Loading

-- what kind an answer is
abbrev pub kind_of : Answer → Outcome
kind_of (Implementation version script) = outcome.Impl
kind_of Missing = outcome.Missing
kind_of Failed = outcome.Error
kind_of GivenUp = outcome.GivenUp

abbrev pub cell_of : View → List Event → Row → Cell
cell_of v past row = record { touched = is_touched v past row.name; outcome = option_map kind_of (first_of v past row.name) }

-- the rows, where these ran
abbrev pub progress_of : View → List Event → List ℕ → Progress
progress_of v past log =
    record {
      registered = v.registered;
      cells = map (cell_of v past) v.registered.rows;
      ran = map (λ row. (row, throws_at v past (name_at v.registered row))) log;
      executing = None;
    }

-- the log, and after it the next row that runs, if there is one
abbrev pub run_once : View → List Event → List ℕ → List ℕ
run_once v past log = log ++ option_to_list (next_row (progress_of v past log))

abbrev pub run_times : View → List Event → ℕ → List ℕ → List ℕ
run_times v past zero log = log
run_times v past (suc times) log = run_times v past times (run_once v past log)

-- The rows that ran, in order. After each event the least row that may run does, again and again, until there is none.
-- No row runs twice, so as many times as there are rows are enough.
abbrev pub log_of : View → List Event → List ℕ
log_of v [] = []
log_of v (event ∷ past) = run_times v (event ∷ past) (length v.registered.rows) (log_of v past)

-- each touched row is skipped or has an outcome
abbrev pub all_answered : View → List Event → Bool
all_answered v past = list_all (λ row. not (is_touched v past row.name) || is_skipped v.registered row.name || is_some (first_of v past row.name))
    v.registered.rows
