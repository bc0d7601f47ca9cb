-- Registries that differ in nothing but the versions of their rows.
use Rattle.std.specs.Prelude.{◌≡◌, ℕ, List, None, map}
use Rattle.rl_names.specs.declared.row.Row.{Row}
use Rattle.rl_view_spec.specs.Closure.{Text, Registered, in_closure, refusal_of}
use Rattle.rl_view_spec.specs.Numbers.{number_of, needs_of}
use Rattle.rl_view_spec.specs.Progress.{Progress, row_numbers, name_at, is_skipped_at, is_runnable, next_row, phase_of}

-- a registry without the versions of its rows
abbrev pub without_version : Row → Row
without_version row = record row { version = None }

abbrev pub without_versions : Registered → Registered
without_versions r = record r { rows = map without_version r.rows }

-- All that requests and progress look at is the same.
pub record AreAlike (r s : Registered) : Type 0 where
  pub numbers : row_numbers r ≡ row_numbers s
  pub names : (row : ℕ) → name_at r row ≡ name_at s row
  pub skips : (row : ℕ) → is_skipped_at r row ≡ is_skipped_at s row
  pub needs : (row : ℕ) → needs_of r row ≡ needs_of s row
  pub found : (name : Text) → number_of r name ≡ number_of s name
  pub closures : (name member : Text) → in_closure r name member ≡ in_closure s name member
  pub refusals : (names : List Text) → refusal_of r names ≡ refusal_of s names

-- versions change nothing of it
abbrev pub AlikeButForVersions : Type 0
AlikeButForVersions = (r s : Registered) → without_versions r ≡ without_versions s → AreAlike r s

-- and the progress of rows is the same over either: what may run, what runs next, and the states
pub record ProgressAlike (s : Registered) (t : Progress) : Type 0 where
  pub runnable : (row : ℕ) → is_runnable (record t { registered = s }) row ≡ is_runnable t row
  pub next : next_row (record t { registered = s }) ≡ next_row t
  pub phases : (row : ℕ) → phase_of (record t { registered = s }) row ≡ phase_of t row

abbrev pub AlikeProgress : Type 0
AlikeProgress = (s : Registered) (t : Progress) → AreAlike s t.registered → ProgressAlike s t
