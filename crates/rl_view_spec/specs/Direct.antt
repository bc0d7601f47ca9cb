-- What a row needs, by its own dependencies alone.
use Rattle.std.specs.Prelude.{ℕ, ◌&&◌, ◌||◌, ◌==◌, nat_lt, List, [], ◌∷◌, ◌++◌, Bool, true, not, bytes_eq, length, slice_get, IsTrue}
use Rattle.std.specs.List.{list_all}
use Rattle.rl_names.specs.declared.row.Dep.{Dep}
use Rattle.rl_names.specs.declared.row.Dep.TheVariants.{At, Named}
use Rattle.rl_view_spec.specs.Closure.{Text, Registered, is_among, deps_of_row}
use Rattle.rl_view_spec.specs.Progress.{Progress, name_at, row_numbers, is_skipped_at, is_touched_at, is_impl, outcome_at, has_run, is_done}

-- what the row of this number depends on
abbrev pub deps_at : Registered → ℕ → List Text
deps_at r row = deps_of_row r (slice_get r.rows row)

-- each row that this one depends on passes the test
abbrev pub all_direct : Registered → ℕ → (ℕ → Bool) → Bool
all_direct r row test = list_all (λ other. not (is_among (deps_at r row) (name_at r other)) || test other) (row_numbers r)

-- as `is_runnable` says, by the row's own dependencies alone
abbrev pub is_directly_runnable : Progress → ℕ → Bool
is_directly_runnable t row =
    is_touched_at t row && not (is_skipped_at t.registered row) && is_impl (outcome_at t row) && not (has_run t row)
    && all_direct t.registered row (λ other. other == row || is_done t other)

-- each row that ran had all that it depends on done
abbrev pub RanDirectly : Progress → Type 0
RanDirectly t = (row : ℕ) → IsTrue (has_run t row) → IsTrue (all_direct t.registered row (λ other. other == row || is_done t other))

-- the table, after one run more
abbrev pub after_run : Progress → ℕ × Bool → Progress
after_run t run = record t { ran = t.ran ++ run ∷ [] }

-- each row that a dependency names passes the test
abbrev pub dep_passes : Registered → (ℕ → Bool) → Dep → Bool
dep_passes r test (At other) = test other
dep_passes r test (Named name) = list_all (λ other. not (bytes_eq name (name_at r other)) || test other) (row_numbers r)

-- a dependency by number has a row
abbrev pub is_within : Registered → Dep → Bool
is_within r (At other) = nat_lt other (length r.rows)
is_within r (Named name) = true
