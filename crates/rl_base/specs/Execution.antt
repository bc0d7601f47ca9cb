-- What an observer is told.
use Rattle.std.specs.Prelude.{ℕ, List, [], ◌∷◌, ◌++◌}
use Rattle.rl_names.specs.declared.name.Key.{Key}

-- a script ran, under the key of its module
abbrev pub Execution : Type 0
Execution = Key × List ℕ

-- what was told, and then this execution
abbrev pub told_of : Execution → List Execution → List Execution
told_of execution told = told ++ execution ∷ []
