-- What the changes of a table may still cost.
use Rattle.std.specs.Prelude.{ℕ, ◌+◌, ◌*◌, Bool, not, if◌then◌else◌, count_by, length, nat_eq, sum_by}
use Rattle.rl_view_spec.specs.Closure.{Registered}
use Rattle.rl_view_spec.specs.Numbers.{needs_of}
use Rattle.rl_view_spec.specs.Progress.{Progress, row_numbers, all_needed, has_run}
use Rattle.rl_states.specs.Kept.{is_broken_at}

-- how many dependency entries there are, and how many of them name a row
abbrev pub entries : Registered → ℕ
entries r = sum_by (λ row. length (needs_of r row)) (row_numbers r)

abbrev pub entries_to : Registered → ℕ → ℕ
entries_to r row = sum_by (λ user. count_by (nat_eq row) (needs_of r user)) (row_numbers r)

-- a row of its closure is broken
abbrev pub is_spoiled_at : Progress → ℕ → Bool
is_spoiled_at t row = not (all_needed t.registered row (λ other. not (is_broken_at t other)))

-- A row has 32, and 3 for each entry that names it, until it is spoiled, and 32, and 5 for each, until it ran.
abbrev pub row_credit : Progress → ℕ → ℕ
row_credit t row =
    (if is_spoiled_at t row then 0 else 32 + 3 * entries_to t.registered row)
    + (if has_run t row then 0 else 32 + 5 * entries_to t.registered row)

-- the steps that are paid for
abbrev pub credit : Progress → ℕ
credit t = sum_by (row_credit t) (row_numbers t.registered)
