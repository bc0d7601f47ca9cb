-- What is printed, read off progress and what rows were given.
use Rattle.std.specs.Prelude.{◌++◌, ℕ, List, [], Bool, true, false, if◌then◌else◌, codes, decimal, flat_map, length, slice_get, Option, Some, None}
use Rattle.std.specs.List.{list_all}
use Rattle.std.specs.Option.{option_map_or}
use Rattle.rl_names.specs.declared.name.Key.{Key}
use Rattle.rl_view_spec.specs.Closure.{Text}
use Rattle.rl_view_spec.specs.Numbers.{number_of}
use Rattle.rl_view_spec.specs.Progress.{Progress, name_at, row_numbers, is_touched_at, has_run, phase_of}
use Rattle.rl_view_spec.specs.Rows.{is_private}
use Rattle.rl_view_spec.specs.View.{View, Event}
use Rattle.rl_script_spec.specs.Output.{key_or_name, line, run_line, state_word, is_ready}
use Rattle.rl_script_spec.specs.declared.Step.{Step}
use Rattle.rl_script_spec.specs.declared.Step.TheVariants.{Using, Load, Impl, State}

-- lines for the runs of these rows
abbrev pub run_lines : View → List Event → List ℕ → Text
run_lines v past rows = flat_map (λ row. run_line v past (name_at v.registered row)) rows

abbrev pub is_private_at : Progress → ℕ → Bool
is_private_at t row = option_map_or (λ found. is_private found.group) (slice_get t.registered.rows row) false

abbrev pub key_at : Progress → ℕ → Text
key_at t row = option_map_or (λ found. key_or_name found.name found.version) (slice_get t.registered.rows row) []

-- what is heard of the run of a row, by what each row was given
abbrev pub execution_at : List (Option (Key × Text)) → ℕ → Option (Key × Text)
execution_at given row = option_map_or (λ execution. execution) (slice_get given row) None

abbrev pub script_length : Option (Key × Text) → ℕ
script_length None = 0
script_length (Some execution) = length execution.1

-- the observers throw for it
abbrev pub throws_for_run : (Key → Text → Bool) → Option (Key × Text) → Bool
throws_for_run says None = false
throws_for_run says (Some execution) = says execution.0 execution.1

-- a key, and how long its script is
abbrev pub run_at : Progress → List (Option (Key × Text)) → ℕ → Text
run_at t given row = key_at t row ++ codes " " ++ decimal (script_length (execution_at given row))

abbrev pub run_word : Bool → Text
run_word threw = if threw then codes "threw " else codes "ran "

abbrev pub state_at : Progress → ℕ → Text
state_at t row = line (state_word (phase_of t row) ++ codes " " ++ key_at t row)

-- the touched rows with their states
abbrev pub state_lines : Progress → Text
state_lines t = flat_map (λ row. if is_touched_at t row then state_at t row else []) (row_numbers t.registered)

-- the rows that ran, in row order
abbrev pub executed_lines : Progress → List (Option (Key × Text)) → Text
executed_lines t given = flat_map (λ row. if has_run t row then line (codes "executed " ++ run_at t given row) else []) (row_numbers t.registered)

abbrev pub is_ready_at : Progress → Text → Bool
is_ready_at t name = option_map_or (λ row. is_ready (phase_of t row)) (number_of t.registered name) false

-- each name that a step requests is ready
abbrev pub is_served_at : Progress → Step → Bool
is_served_at t (Using names) = list_all (is_ready_at t) names
is_served_at t (Load names) = list_all (is_ready_at t) names
is_served_at t (Impl key script) = true
is_served_at t (State name kind) = true
