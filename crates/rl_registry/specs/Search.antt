-- What is looked through for the least name to blame.
use Rattle.std.specs.Prelude.{ℕ, List, ◌++◌, filter, flat_map, is_none, option_and_then, slice_get, Option, Some, None}
use Rattle.std.specs.Option.{option_map_or}
use Rattle.rl_names.specs.declared.row.Dep.{Dep}
use Rattle.rl_view_spec.specs.Closure.{Text, Registered, deps_of_row, dep_name}
use Rattle.rl_view_spec.specs.Numbers.{number_of, closure_numbers}

-- those of the texts that no row has as its name
abbrev pub unknown : Registered → List Text → List Text
unknown r names = filter (λ name. is_none (number_of r name)) names

-- the names that a row depends on and that no row has
abbrev pub unknown_of : Registered → ℕ → List Text
unknown_of r row = unknown r (deps_of_row r (slice_get r.rows row))

-- the names of the closures without a row: they are given, or a row of the closures depends on them
abbrev pub unknown_in : Registered → List Text → List Text
unknown_in r names = unknown r names ++ flat_map (unknown_of r) (closure_numbers r names)

abbrev pub if_unknown : Registered → Text → Option Text
if_unknown r name = option_map_or (λ row. None) (number_of r name) (Some name)

-- the name of a dependency, where no row has it
abbrev pub unknown_dep : Registered → Dep → Option Text
unknown_dep r dep = option_and_then (if_unknown r) (dep_name r dep)
