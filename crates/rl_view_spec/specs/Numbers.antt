-- Rows by their numbers.
use Rattle.std.specs.Prelude.{ℕ, List, [], if◌then◌else◌, bytes_eq, filter, position, slice_get, Option, option_and_then}
use Rattle.std.specs.List.{filter_map}
use Rattle.std.specs.Option.{option_map_or}
use Rattle.rl_names.specs.declared.row.Row.{Row}
use Rattle.rl_names.specs.declared.row.Dep.{Dep}
use Rattle.rl_view_spec.specs.Closure.{Text, Registered, dep_name, has_feature, in_closures}
use Rattle.rl_view_spec.specs.Progress.{name_at, row_numbers}

-- the number of the first row of a name
abbrev pub number_of : Registered → Text → Option ℕ
number_of r name = position (λ row. bytes_eq row.name name) r.rows

-- the number of the row that a dependency names
abbrev pub number_of_dep : Registered → Dep → Option ℕ
number_of_dep r dep = option_and_then (number_of r) (dep_name r dep)

-- the numbers of the rows that a row depends on: none where it is skipped
abbrev pub needed : Registered → Row → List ℕ
needed r row = if has_feature r row.skip then [] else filter_map (number_of_dep r) row.deps

abbrev pub needs_of : Registered → ℕ → List ℕ
needs_of r row = option_map_or (needed r) (slice_get r.rows row) []

-- the numbers of the rows of the closures of these names, in row order
abbrev pub closure_numbers : Registered → List Text → List ℕ
closure_numbers r names = filter (λ row. in_closures r names (name_at r row)) (row_numbers r)
