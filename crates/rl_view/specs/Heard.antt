-- What observers say of scripts, and what they hear of the runs of a view.
use Rattle.std.specs.Prelude.{◌≡◌, ◌++◌, ℕ, List, Bool, map, Option, Some, None}
use Rattle.std.specs.List.{filter_map}
use Rattle.rl_names.specs.declared.name.Key.{Key}
use Rattle.rl_view_spec.specs.Closure.{Text, Registered}
use Rattle.rl_view_spec.specs.Progress.{name_at}
use Rattle.rl_view_spec.specs.View.{View, Event, Throws, Answer, Implementation, first_of, log_of}

-- what they say of a key and a script, as a view asks it
abbrev pub throws_by : (Key → Text → Bool) → Throws
throws_by says name version script = says (record { name = name; version = version }) script

-- the view of a registry that they watch
abbrev pub watched : (Key → Text → Bool) → Registered → View
watched says r = record { registered = r; throws = throws_by says }

-- What is heard of the run of a name: the script, under its key. There is none without an implementation.
abbrev pub execution_of : Text → Option Answer → Option (Key × Text)
execution_of name (Some (Implementation version script)) = Some (record { name = name; version = version }, script)
execution_of name other = None

-- what is heard of the runs of these rows, in order
abbrev pub executions_of : View → List Event → List ℕ → List (Key × Text)
executions_of v past rows = filter_map (λ row. execution_of (name_at v.registered row) (first_of v past (name_at v.registered row))) rows

-- what is heard of all that ran
abbrev pub executions : View → List Event → List (Key × Text)
executions v past = executions_of v past (log_of v past)

-- each of them heard these, after what it had heard
abbrev pub after_hearing : List (Key × Text) → List (List (Key × Text)) → List (List (Key × Text))
after_hearing heard told = map (λ before. before ++ heard) told

-- each of them heard the same front of these
abbrev pub HearsFront : List (Key × Text) → List (List (Key × Text)) → List (List (Key × Text)) → Type 0
HearsFront heard old new = (front rest : List (Key × Text)) × (heard ≡ front ++ rest) × (new ≡ after_hearing front old)
