-- What the rows of a player were given.
use Rattle.std.specs.Prelude.{List, map, Option, Some, None}
use Rattle.rl_names.specs.declared.name.Key.{Key}
use Rattle.rl_view_spec.specs.Closure.{Text}
use Rattle.rl_view_spec.specs.View.{View, Event, first_of}
use Rattle.rl_view.specs.Heard.{execution_of}
use Rattle.rl_drive.specs.declared.given.Given.{Given}

-- what is heard of its run
abbrev pub execution_in : Option Given → Option (Key × Text)
execution_in None = None
execution_in (Some given) = Some (given.key.now, given.script.now)

-- what each row was given in a view with this past
abbrev pub given_in : View → List Event → List (Option (Key × Text))
given_in v past = map (λ row. execution_of row.name (first_of v past row.name)) v.registered.rows
