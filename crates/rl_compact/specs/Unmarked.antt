-- Dependencies whose numbers are not marked.
use Rattle.std.specs.Prelude.{◌≡◌, ℕ, List, [], ◌∷◌, Bool, flat_map, if◌then◌else◌}
use Rattle.rl_names.specs.declared.row.Row.{Row}
use Rattle.rl_names.specs.declared.row.Dep.{Dep}
use Rattle.rl_graph.specs.Graph.{marked, next_in, MarksReached}

-- of these dependencies, which have these numbers, those that are not marked
abbrev pub unmarked : List Dep → List ℕ → List Bool → List Dep
unmarked [] numbers marks = []
unmarked (dep ∷ deps) [] marks = dep ∷ deps
unmarked (dep ∷ deps) (number ∷ numbers) marks = if marked marks number then unmarked deps numbers marks else dep ∷ unmarked deps numbers marks

-- the row with the dependencies that no other of it brings, where these are the numbers of its dependencies
abbrev pub IsLeft : Row → List ℕ → List (List ℕ) → Row → Type 0
IsLeft row numbers bare new = (marks : List Bool) × MarksReached bare (flat_map (next_in bare) numbers) marks
    × (new ≡ record row { deps = unmarked row.deps numbers marks })
