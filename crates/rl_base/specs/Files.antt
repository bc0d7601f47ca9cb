-- Files by name, and what a fetch says of them.
use Rattle.std.specs.Prelude.{◌≡◌, ℕ, List, take, Option, Some, Result, Err, IfSome, option_map}
use Rattle.std.specs.Ordering.{nat_cmp}
use Rattle.std.specs.Cmp.Lexicographic.{slice_cmp}
use Rattle.std.specs.FinMap as map
use Rattle.rl_base.specs.declared.tree.FetchError.{FetchError}
use Rattle.rl_base.specs.declared.tree.FetchError.TheVariants.{Failed}

abbrev pub Files : Type 0
Files = map.FinMap (slice_cmp nat_cmp) (List ℕ)

-- where the files are told, these are the first bytes of the one of that name
abbrev pub IsFrontOf : Option Files → List ℕ → ℕ → List ℕ → Type 0
IsFrontOf files name max bytes = IfSome files (λ told. option_map (take max) (map.get told name) ≡ Some bytes)

-- a fetch that failed is blamed on its name; no other one changes what is blamed
abbrev pub blamed_after : Result (List ℕ) FetchError → List ℕ → Option (List ℕ) → Option (List ℕ)
blamed_after (Err Failed) name blamed = Some name
blamed_after other name blamed = blamed
