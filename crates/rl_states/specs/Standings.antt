-- How far rows have come, each by itself.
use Rattle.std.specs.Prelude.{ℕ, ◌-◌, ◌||◌, ◌&&◌, ◌==◌, List, Bool, true, false, not, if◌then◌else◌, length, map, count_by, None}
use Rattle.std.specs.Prelude.{nat_eq, slice_get}
use Rattle.std.specs.List.{enumerate_from, list_any, range_with_len}
use Rattle.std.specs.Option.{option_map_or}
use Rattle.rl_view_spec.specs.Closure.{Registered}
use Rattle.rl_view_spec.specs.Numbers.{needs_of}
use Rattle.rl_view_spec.specs.Progress.{Cell, is_skipped_at, is_impl, is_missing}
use Rattle.rl_view_spec.specs.declared.Phase.{Phase}
use Rattle.rl_view_spec.specs.declared.Phase.TheVariants as phase
use Rattle.rl_states.specs.declared.standing.Standing.{Standing}

-- each element, changed by its place
abbrev pub by_place : {X : Type 0} → (ℕ → X → X) → List X → List X
by_place f xs = map (λ numbered. f numbered.0 numbered.1) (enumerate_from 0 xs)

-- what is seen of a row
abbrev pub cell_of : Standing → Cell
cell_of standing = record { touched = standing.touched; outcome = standing.outcome }

abbrev pub is_done_in : List Standing → ℕ → Bool
is_done_in standings row = option_map_or (λ standing. standing.done) (slice_get standings row) false

-- a row to which nothing happened, and for which nothing was counted
abbrev pub begun : Registered → ℕ → Standing
begun r row = record { touched = false; outcome = None; ran = false; done = is_skipped_at r row; waits = 0 }

-- a row to which nothing happened
abbrev pub fresh : Registered → ℕ → Standing
fresh r row = record (begun r row) { waits = count_by (λ other. not (other == row || is_skipped_at r other)) (needs_of r row) }

-- for each row what this gives
abbrev pub for_rows : Registered → (ℕ → Standing) → List Standing
for_rows r f = map f (range_with_len 0 (length r.rows))

-- it was requested, has an implementation, did not run, and is not skipped; and it waits for nothing
abbrev pub may_run : Standing → Bool
may_run standing = standing.touched && is_impl standing.outcome && not standing.ran && not standing.done && standing.waits == 0

abbrev pub touch_at : List ℕ → ℕ → Standing → Standing
touch_at rows row standing = if list_any (nat_eq row) rows then record standing { touched = true } else standing

-- one row fewer to wait for, at each place where it is among these
abbrev pub release_at : List ℕ → ℕ → Standing → Standing
release_at users row standing = record standing { waits = standing.waits - count_by (nat_eq row) users }

-- the state of a row that is not executing, where it is known whether a row of its closure is broken
abbrev pub phase_by : Standing → Bool → Phase
phase_by standing spoiled =
    if not standing.touched then phase.Registered
    else if standing.done then phase.Ready
    else if is_missing standing.outcome then phase.Missing
    else if spoiled then phase.Error
    else if is_impl standing.outcome then phase.Loaded
    else phase.Loading
