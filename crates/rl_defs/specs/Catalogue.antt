-- What a definitions file says: the value of a `Catalog`.
use Rattle.std.specs.Prelude.{◌≡◌, ℕ, ◌≤◌, true, List, map, length, find, Option, is_some, option_map, bytes_eq, codes, IsTrue}
use Rattle.std.specs.List.{AllByRecursion, list_all}
use Rattle.std.specs.Option.{option_map_or}
use Rattle.rl_names.specs.declared.counted.Counted.TheVariants.{Dependencies, Modules}
use Rattle.rl_names.specs.Limits.{limit_of}
use Rattle.rl_names.specs.Title.{is_user_name}
use Rattle.rl_defs.specs.declared.file.File.{File}
use Rattle.rl_defs.specs.declared.language.Language.{Language}
use Rattle.rl_defs.specs.declared.module_def.ModuleDef.{ModuleDef}
use Rattle.rl_defs.specs.Named.{AreNames}
use Rattle.rl_defs.specs.Reading.{is_feature}
use Rattle.rl_defs.specs.Words.{is_definable}

-- Admins and skins are in the order of the file; languages, files and modules in byte order of their names.
pub record Catalogue : Type 0 where
  pub admins : List (List ℕ)
  pub skins : List (List ℕ)
  pub languages : List Language
  pub limit : ℕ
  pub store_version : ℕ
  pub files : List File
  pub modules : List ModuleDef

-- the text of the file of this name among these
abbrev pub text_among : List File → List ℕ → Option (List ℕ)
text_among files name = option_map (λ f. f.text) (find (λ f. bytes_eq f.name name) files)

-- the text of the file of this name
abbrev pub file_of : Catalogue → List ℕ → Option (List ℕ)
file_of c name = text_among c.files name

-- the module of this name
abbrev pub module_named : Catalogue → List ℕ → Option ModuleDef
module_named c name = find (λ m. bytes_eq m.name name) c.modules

-- What holds of each module over the files of its catalogue: its name is one that may be given, it lists at most 256
-- dependencies, this wiki serves it, it is skipped for a feature or for nothing, and each file that it lists is there.
pub record IsModule (files : List File) (m : ModuleDef) : Type 0 where
  pub name : IsTrue (is_definable m.name)
  pub few_dependencies : length m.dependencies ≤ limit_of Dependencies
  pub source : m.source ≡ codes "local"
  pub feature : IsTrue (option_map_or is_feature m.skip true)
  pub listed : IsTrue (list_all (λ file. is_some (text_among files file)) m.scripts)

-- what holds of every catalogue
pub record IsCatalogue (c : Catalogue) : Type 0 where
  pub admins : IsTrue (list_all is_user_name c.admins)
  pub files : AreNames (map (λ f. f.name) c.files)
  pub modules : AreNames (map (λ m. m.name) c.modules)
  pub each : AllByRecursion (IsModule c.files) c.modules
  pub few_modules : length c.modules ≤ limit_of Modules
  pub least_limit : 200 ≤ c.limit
  pub most_limit : c.limit ≤ 4000
  pub most_version : c.store_version ≤ 1000000
