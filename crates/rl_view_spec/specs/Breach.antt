-- Why rows are no registry.
use Rattle.std.specs.Prelude.{ℕ, List, [], ◌∷◌, if◌then◌else◌, bytes_eq, find, flat_map, length, map, nat_lt, Option, Some, None, option_map}
use Rattle.std.specs.Prelude.{slice_get}
use Rattle.std.specs.List.{enumerate_from, filter_map, list_any}
use Rattle.std.specs.Option.{option_map_or}
use Rattle.rl_names.specs.declared.row.Row.{Row}
use Rattle.rl_names.specs.declared.row.Dep.{Dep}
use Rattle.rl_names.specs.declared.row.Dep.TheVariants.{At, Named}
use Rattle.rl_names.specs.declared.counted.Counted.{Counted}
use Rattle.rl_names.specs.declared.counted.Counted.TheVariants as counted
use Rattle.rl_names.specs.Limits.{limit_of}
use Rattle.rl_view_spec.specs.Closure.{Text, least}

-- The rule that the rows break: there are too many of them, or too many dependencies of one; a name stands twice; or a
-- row depends on a row by a number that none has.
pub data Breach : Type 0 where
  TooMany : (what : Counted) (count : ℕ) → Breach
  Duplicate : (name : Text) → Breach
  BadIndex : (row index : ℕ) → Breach

-- the names of rows that stand again further on
abbrev pub repeated : List Row → List Text
repeated [] = []
repeated (row ∷ rows) = if list_any (λ other. bytes_eq other.name row.name) rows then row.name ∷ repeated rows else repeated rows

-- the first row with more dependencies than allowed
abbrev pub wide_row : List Row → Option Row
wide_row rows = find (λ row. nat_lt (limit_of counted.Dependencies) (length row.deps)) rows

-- the number of a dependency, where as many rows have none of that number
abbrev pub bad_index : ℕ → Dep → Option ℕ
bad_index count (At index) = if nat_lt index count then None else Some index
bad_index count (Named name) = None

-- the dependencies of a numbered row by numbers that no row has: the number of the row, and that number
abbrev pub bad_indexes_of : ℕ → ℕ × Row → List (ℕ × ℕ)
bad_indexes_of count numbered = map (λ index. (numbered.0, index)) (filter_map (bad_index count) numbered.1.deps)

abbrev pub bad_indexes : List Row → List (ℕ × ℕ)
bad_indexes rows = flat_map (bad_indexes_of (length rows)) (enumerate_from 0 rows)

-- The first of these that holds: the rows are counted, then the dependencies of each, repeats counted; then the least
-- name that stands twice is taken, and then the first dependency by a number that no row has.
abbrev pub breach_of : List Row → Option Breach
breach_of rows =
    if nat_lt (limit_of counted.Rows) (length rows) then Some (TooMany counted.Rows (length rows))
    else option_map_or (λ row. Some (TooMany counted.Dependencies (length row.deps))) (wide_row rows)
    (option_map_or (λ name. Some (Duplicate name)) (least (repeated rows)) (option_map (λ bad. BadIndex bad.0 bad.1) (slice_get (bad_indexes rows) 0)))
