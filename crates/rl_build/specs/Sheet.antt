-- What a wiki says of a module, where it has one of that name.
use Rattle.std.specs.Prelude.{◌↔◌, ℕ, ◌≤◌, true, List, length, map, codes, Option, None, option_map, IsSome, IsTrue, Contains}
use Rattle.std.specs.BTreeSet.{insert_key}
use Rattle.std.specs.Cmp.Lexicographic.{slice_cmp}
use Rattle.std.specs.List.{fold}
use Rattle.std.specs.Option.{option_map_or, option_or}
use Rattle.std.specs.Ordering.{nat_cmp}
use Rattle.rl_names.specs.Limits.{limit_of}
use Rattle.rl_names.specs.declared.counted.Counted.TheVariants.{Dependencies}
use Rattle.rl_names.specs.Packing.{distinct}
use Rattle.rl_defs.specs.Ascending.{IsAscending}
use Rattle.rl_defs.specs.Catalogue.{module_named}
use Rattle.rl_defs.specs.Reading.{is_feature}
use Rattle.rl_defs.specs.declared.module_def.ModuleDef.{ModuleDef}
use Rattle.rl_build.specs.declared.built_in.BuiltIn.{BuiltIn}
use Rattle.rl_build.specs.declared.context.Context.{Context}
use Rattle.rl_build.specs.declared.sheets.Sheet.{Sheet}
use Rattle.rl_build.specs.BuiltIn.{built_ins, built_in_group, built_in_name, built_in_named, built_in_needs}
use Rattle.rl_build.specs.Sight.{Sight}

-- what the definitions say, and of its dependencies each once
abbrev pub sheet_of_module : ModuleDef → Sheet
sheet_of_module m = record { group = m.group; deps = distinct m.dependencies; source = m.source; skip = m.skip }

-- this wiki serves a built-in module, and it is never skipped
abbrev pub sheet_of_built_in : BuiltIn → Sheet
sheet_of_built_in b = record { group = built_in_group b; deps = built_in_needs b; source = codes "local"; skip = None }

-- the sheet of a name, which a built-in or a defined module has in every context
abbrev pub sheet_of : Sight → Context → List ℕ → Option Sheet
sheet_of s ctx name = option_or (option_map sheet_of_built_in (built_in_named name)) (option_map sheet_of_module (module_named s.catalogue name))

-- a name in its place among others in byte order
abbrev pub put_name : List (List ℕ) → List ℕ → List (List ℕ)
put_name names name = insert_key (slice_cmp nat_cmp) names name

-- all names with a sheet: those of the modules that are defined, and the built-in ones
abbrev pub all_names : Sight → List (List ℕ)
all_names s = fold (λ names b. put_name names (built_in_name b)) (map (λ m. m.name) s.catalogue.modules) built_ins

-- all names with a sheet, once and in byte order
pub record AreAllNames (s : Sight) (ctx : Context) (names : List (List ℕ)) : Type 0 where
  pub ascending : IsAscending names
  pub all : (name : List ℕ) → Contains names name ↔ IsSome (sheet_of s ctx name)

-- what holds of every sheet: it names at most 256 modules, and is skipped for a feature or for nothing
pub record IsLawful (sheet : Sheet) : Type 0 where
  pub few : length sheet.deps ≤ limit_of Dependencies
  pub feature : IsTrue (option_map_or is_feature sheet.skip true)
