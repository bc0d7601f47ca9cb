-- The rows of the registry: what a client is told of each module.
use Rattle.std.specs.Prelude.{◌≡◌, ℕ, ◌+◌, ◌||◌, Bool, not, if◌then◌else◌, List, [], map, filter, bytes_eq, codes, Option, is_some}
use Rattle.std.specs.Prelude.{IsTrue}
use Rattle.std.specs.List.{AllByRecursion, position_from}
use Rattle.std.specs.Option.{option_map_or}
use Rattle.rl_names.specs.Packing.{distinct}
use Rattle.rl_names.specs.declared.row.Dep.{Dep}
use Rattle.rl_names.specs.declared.row.Dep.TheVariants.{At, Named}
use Rattle.rl_names.specs.declared.row.Group.{Group}
use Rattle.rl_names.specs.declared.row.Group.TheVariants.{Plain, User, Private, Other}
use Rattle.rl_names.specs.declared.row.Row.{Row}
use Rattle.rl_wire.specs.Startup.{is_empty}
use Rattle.rl_startup.specs.declared.modules.Module.{Module}

-- the place of a text among others, counted from 0
abbrev pub place_in : List (List ℕ) → List ℕ → Option ℕ
place_in texts text = position_from (λ other. bytes_eq other text) 0 texts

abbrev pub is_private : List ℕ → Bool
is_private group = bytes_eq group (codes "private")

-- a group that is neither empty nor `user` nor `private`
abbrev pub is_own : List ℕ → Bool
is_own group = not (bytes_eq group [] || bytes_eq group (codes "user") || is_private group)

-- the groups of their own, in the order in which they first appear
abbrev pub groups_of : List Module → List (List ℕ)
groups_of modules = distinct (filter is_own (map (λ (m : Module). m.sheet.group) modules))

-- the number of such a group is its place, counted from 2
abbrev pub group_of : (List ℕ → Option ℕ) → List ℕ → Group
group_of groups group =
    if bytes_eq group (codes "user") then User
    else (if is_private group then Private else option_map_or (λ place. Other (place + 2)) (groups group) Plain)

-- a dependency by the number of its row, and by name where it has none
abbrev pub dep_of : (List ℕ → Option ℕ) → List ℕ → Dep
dep_of names name = option_map_or At (names name) (Named name)

-- this wiki is the empty source
abbrev pub source_of : List ℕ → List ℕ
source_of source = if bytes_eq source (codes "local") then [] else source

-- the row of a module, where names and groups have these places
abbrev pub row_of : (List ℕ → Option ℕ) → (List ℕ → Option ℕ) → Module → Row
row_of names groups m = record {
  name = m.name;
  version = m.version;
  deps = map (dep_of names) m.sheet.deps;
  group = group_of groups m.sheet.group;
  source = source_of m.sheet.source;
  skip = m.sheet.skip;
}

abbrev pub names_of : List Module → List (List ℕ)
names_of modules = map (λ (m : Module). m.name) modules

abbrev pub rows_of : List Module → List Row
rows_of modules = map (row_of (place_in (names_of modules)) (place_in (groups_of modules))) modules

-- a version is given exactly where the group is not private, and a skip is not empty
pub record IsFit (m : Module) : Type 0 where
  pub version : is_some m.version ≡ not (is_private m.sheet.group)
  pub skip : IsTrue (not (is_empty m.sheet.skip))

abbrev pub AreFit : List Module → Type 0
AreFit modules = AllByRecursion IsFit modules
