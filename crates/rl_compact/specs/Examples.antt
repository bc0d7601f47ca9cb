-- Three rows, before and after.
use Rattle.std.specs.Prelude.{ℕ, List, [], ◌∷◌, Option, Some, None}
use Rattle.rl_names.specs.declared.row.Row.{Row}
use Rattle.rl_names.specs.declared.row.Dep.{Dep}
use Rattle.rl_names.specs.declared.row.Dep.TheVariants.{At}
use Rattle.rl_names.specs.declared.row.Group.TheVariants.{Plain}
use Rattle.rl_view_spec.specs.Closure.{Text}

abbrev pub row : ℕ → ℕ → List Dep → Option Text → Row
row letter version deps skip = record {
  name = letter ∷ [];
  version = Some (version ∷ version ∷ version ∷ version ∷ version ∷ []);
  deps =
      deps;
  group = Plain;
  source = [];
  skip = skip;
}

-- A on these, B on C with this skip, C on these
abbrev pub abc : List Dep → Option Text → List Dep → List Row
abc a skip c = row 65 97 a None ∷ row 66 98 (At 2 ∷ []) skip ∷ row 67 99 c None ∷ []

-- `promise`
abbrev pub promise : Text
promise = 112 ∷ 114 ∷ 111 ∷ 109 ∷ 105 ∷ 115 ∷ 101 ∷ []
