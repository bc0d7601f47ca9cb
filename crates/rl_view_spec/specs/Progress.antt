-- How far the rows of a registry have come, by their numbers.
use Rattle.std.specs.Prelude.{ℕ, ◌≢◌, AllPairs, ◌&&◌, ◌||◌, ◌==◌, List, [], Bool, true, false, not, if◌then◌else◌, find, map, Option}
use Rattle.std.specs.Prelude.{Some, None, slice_get}
use Rattle.std.specs.List.{list_any, list_all, enumerate_from}
use Rattle.std.specs.Option.{option_map_or}
use Rattle.rl_view_spec.specs.Closure.{Text, Registered, has_feature, in_closure}
use Rattle.rl_view_spec.specs.declared.Phase.{Phase}
use Rattle.rl_view_spec.specs.declared.Phase.TheVariants as phase
use Rattle.rl_view_spec.specs.declared.Outcome.{Outcome}
use Rattle.rl_view_spec.specs.declared.Outcome.TheVariants as outcome

-- one row: whether it was touched, and what it was answered with
pub record Cell : Type 0 where
  pub touched : Bool
  pub outcome : Option Outcome

-- a cell for each row, the rows that ran, in order, each with whether it threw, and the one that is executing
pub record Progress : Type 0 where
  pub registered : Registered
  pub cells : List Cell
  pub ran : List (ℕ × Bool)
  pub executing : Option ℕ

abbrev pub row_numbers : Registered → List ℕ
row_numbers r = map (λ numbered. numbered.0) (enumerate_from 0 r.rows)

abbrev pub name_at : Registered → ℕ → Text
name_at r row = option_map_or (λ found. found.name) (slice_get r.rows row) []

-- no two rows have one name
abbrev pub HasDistinctNames : Registered → Type 0
HasDistinctNames r = AllPairs (λ a b. a.name ≢ b.name) r.rows

abbrev pub is_skipped_at : Registered → ℕ → Bool
is_skipped_at r row = option_map_or (λ found. has_feature r found.skip) (slice_get r.rows row) false

abbrev pub is_touched_at : Progress → ℕ → Bool
is_touched_at t row = option_map_or (λ cell. cell.touched) (slice_get t.cells row) false

abbrev pub outcome_at : Progress → ℕ → Option Outcome
outcome_at t row = option_map_or (λ cell. cell.outcome) (slice_get t.cells row) None

abbrev pub is_impl : Option Outcome → Bool
is_impl (Some outcome.Impl) = true
is_impl other = false

abbrev pub has_run : Progress → ℕ → Bool
has_run t row = list_any (λ run. run.0 == row) t.ran

-- skipped, or ran and did not throw
abbrev pub is_done : Progress → ℕ → Bool
is_done t row = is_skipped_at t.registered row || list_any (λ run. run.0 == row && not run.1) t.ran

-- each row of the closure passes the test
abbrev pub all_needed : Registered → ℕ → (ℕ → Bool) → Bool
all_needed r row test = list_all (λ other. not (in_closure r (name_at r row) (name_at r other)) || test other) (row_numbers r)

-- A row may run where it is touched, is not skipped, has an implementation and did not run,
-- and every other row of its closure is done.
abbrev pub is_runnable : Progress → ℕ → Bool
is_runnable t row =
    is_touched_at t row && not (is_skipped_at t.registered row) && is_impl (outcome_at t row) && not (has_run t row)
    && all_needed t.registered row (λ other. other == row || is_done t other)

-- the least row that may run
abbrev pub next_row : Progress → Option ℕ
next_row t = find (is_runnable t) (row_numbers t.registered)

-- no outcome that leads to a run: missing, an error or given up
abbrev pub is_lost : Option Outcome → Bool
is_lost None = false
is_lost (Some outcome.Impl) = false
is_lost (Some outcome.Missing) = true
is_lost (Some outcome.Error) = true
is_lost (Some outcome.GivenUp) = true

abbrev pub has_thrown : Progress → ℕ → Bool
has_thrown t row = list_any (λ run. run.0 == row && run.1) t.ran

abbrev pub is_missing : Option Outcome → Bool
is_missing (Some outcome.Missing) = true
is_missing other = false

-- the state of a row, where no row may run
abbrev pub phase_of : Progress → ℕ → Phase
phase_of t row =
    if not (is_touched_at t row) then phase.Registered
    else if all_needed t.registered row (is_done t) then phase.Ready
    else if is_missing (outcome_at t row) then phase.Missing
    else if not (all_needed t.registered row (λ other. not (is_lost (outcome_at t other) || has_thrown t other))) then phase.Error
    else if is_impl (outcome_at t row) then phase.Loaded
    else phase.Loading
