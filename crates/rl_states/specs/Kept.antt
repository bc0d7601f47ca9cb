-- What a table keeps beside the progress of its rows.
use Rattle.std.specs.Prelude.{◌≡◌, ℕ, ◌<◌, ◌≤◌, ◌||◌, ◌==◌, List, Bool, not, IsTrue, IsFalse, Contains, IfSome, Some, count_by}
use Rattle.std.specs.Prelude.{length, map, slice_get, vec_capacity}
use Rattle.std.specs.List.{list_all, zip}
use Rattle.rl_view_spec.specs.Numbers.{needs_of}
use Rattle.rl_view_spec.specs.Progress.{Progress, HasDistinctNames, has_run, is_done, has_thrown, is_skipped_at, outcome_at, is_lost}
use Rattle.rl_states.specs.declared.standing.Standing.{Standing}
use Rattle.rl_states.specs.declared.table.Table.TheInside.{Inside}
use Rattle.rl_graph.specs.Graph.{marked}
use Rattle.rl_states.specs.Standings.{cell_of}
use Rattle.rl_states.specs.Users.{AreUsers}
use Rattle.rl_names.specs.declared.counted.TheConstants as limits

-- the progress of the rows
abbrev pub progress_in : Inside → Progress
progress_in t = record { registered = t.registry; cells = map cell_of t.cells.standings; ran = zip t.log.items t.threw.items; executing = t.executing }

-- how many dependencies of a row other than itself are not done
abbrev pub waits_of : Progress → ℕ → ℕ
waits_of t row = count_by (λ other. not (other == row || is_done t other)) (needs_of t.registered row)

-- each dependency of a row is itself, or done
abbrev pub needs_done : Progress → ℕ → Bool
needs_done t row = list_all (λ other. other == row || is_done t other) (needs_of t.registered row)

-- what is kept of a row tells its progress
pub record IsStanding (t : Progress) (row : ℕ) (standing : Standing) : Type 0 where
  pub ran : standing.ran ≡ has_run t row
  pub done : standing.done ≡ is_done t row
  pub waits : standing.waits ≡ waits_of t row

-- a row that was answered without an implementation, or threw
abbrev pub is_broken_at : Progress → ℕ → Bool
is_broken_at t row = is_lost (outcome_at t row) || has_thrown t row

-- a test that passes at each broken row, and at a row where it passes at what this needs
pub record Spoils (t : Progress) (test : ℕ → Bool) : Type 0 where
  pub broken : (row : ℕ) → row < length t.registered.rows → IsTrue (is_broken_at t row) → IsTrue (test row)
  pub upward : (row need : ℕ) → Contains (needs_of t.registered row) need → IsTrue (test need) → IsTrue (test row)

-- the least rows that have each broken row, and with a row all that need it
pub record AreSpoiled (t : Progress) (marks : List Bool) : Type 0 where
  pub long : length marks ≡ length t.registered.rows
  pub spoils : Spoils t (marked marks)
  pub least : (test : ℕ → Bool) → Spoils t test → (row : ℕ) → IsTrue (marked marks row) → IsTrue (test row)

-- a row that executes is not skipped, did not run before, and needs only what is done
pub record IsRunning (t : Progress) (row : ℕ) : Type 0 where
  pub inside : row < length t.registered.rows
  pub kept : IsFalse (is_skipped_at t.registered row)
  pub first : IsFalse (has_run t row)
  pub after : IsTrue (needs_done t row)

-- what is kept beside the progress agrees with it
pub record IsTable (t : Progress) (standings : List Standing) (users : List (List ℕ)) (marks : List Bool) : Type 0 where
  pub few : length t.registered.rows ≤ limits.MAX_ROWS
  pub distinct : HasDistinctNames t.registered
  pub long : length standings ≡ length t.registered.rows
  pub cells : t.cells ≡ map cell_of standings
  pub each : (row : ℕ) (standing : Standing) → slice_get standings row ≡ Some standing → IsStanding t row standing
  pub indexed : AreUsers t.registered users
  pub spoiled : AreSpoiled t marks
  pub counted : length t.ran ≡ count_by (λ standing. standing.ran) standings
  pub inside : (row : ℕ) → IsTrue (has_run t row) → row < length t.registered.rows
  pub after : (row : ℕ) → IsTrue (has_run t row) → IsTrue (needs_done t row)
  pub running : IfSome t.executing (IsRunning t)

-- that, each row that ran with whether it threw, and room for each row
pub record IsKept (t : Inside) : Type 0 where
  pub table : IsTable (progress_in t) t.cells.standings t.cells.users t.cells.spoiled
  pub paired : length t.threw.items ≡ length t.log.items
  pub room : length t.registry.rows ≤ vec_capacity t.log
  pub room_beside : length t.registry.rows ≤ vec_capacity t.threw
