-- What a definitions file says: as it is written, and as it is kept once every check has passed.
use Rattle.std.specs.Prelude.{ℕ, ◌≤◌, Bool, ◌&&◌, List, [], ◌∷◌, map, None, unwrap_or, option_map, option_and_then, codes, true, false, IsTrue}
use Rattle.std.specs.List.{list_all, filter_map}
use Rattle.std.specs.Option.{option_map_or, option_or}
use Rattle.toml.specs.Data.{Data, Members, get_member, as_str, as_table}
use Rattle.rl_defs.specs.declared.draft.Draft.{Draft}
use Rattle.rl_defs.specs.declared.draft.ModuleDraft.{ModuleDraft}
use Rattle.rl_defs.specs.declared.file.File.{File}
use Rattle.rl_defs.specs.declared.language.Language.{Language}
use Rattle.rl_defs.specs.declared.module_def.ModuleDef.{ModuleDef}
use Rattle.rl_names.specs.Name.{is_name}
use Rattle.rl_names.specs.Title.{user_name_of}
use Rattle.rl_defs.specs.Named.{AreNames}
use Rattle.rl_defs.specs.Catalogue.{Catalogue}
use Rattle.rl_defs.specs.Reading.{pairs, inside, read_at, table_at, texts_of, number_of, is_feature, feature_of}

abbrev pub file_draft : List ℕ × Data → File
file_draft (name, d) = record { name = name; text = unwrap_or (as_str d) [] }

abbrev pub files_of : Members → List File
files_of ms = map file_draft (pairs ms)

-- a module of which nothing is said but its name
abbrev pub named_alone : List ℕ → ModuleDraft
named_alone name = record { name = name; scripts = []; dependencies = []; group = []; source = codes "local"; skip = None }

-- a module with what a table says of it; what the table leaves out stays
abbrev pub module_with : ModuleDraft → Members → ModuleDraft
module_with m ms = record {
  name = m.name;
  scripts = read_at texts_of (codes "scripts") ms m.scripts;
  dependencies = read_at texts_of (codes "dependencies") ms m.dependencies;
  group = read_at as_str (codes "group") ms m.group;
  source = read_at as_str (codes "source") ms m.source;
  skip = option_or (option_and_then feature_of (get_member (codes "skip") ms)) m.skip;
}

abbrev pub module_draft : List ℕ × Data → ModuleDraft
module_draft (name, d) = module_with (named_alone name) (inside d)

abbrev pub modules_of : Members → List ModuleDraft
modules_of ms = map module_draft (pairs ms)

-- a draft with what the table `wiki` says
abbrev pub wiki_with : Draft → Members → Draft
wiki_with d ms = record {
  admins = read_at texts_of (codes "admins") ms d.admins;
  skins = read_at texts_of (codes "skins") ms d.skins;
  limit = read_at (number_of 200 4000) (codes "limit") ms d.limit;
  store_version = read_at (number_of 0 1000000) (codes "storeVersion") ms d.store_version;
  files = d.files;
  modules = d.modules;
}

-- a draft with what the table of a file says
abbrev pub draft_with : Draft → Members → Draft
draft_with d top = let w = wiki_with d (table_at (codes "wiki") top) in record {
  admins = w.admins;
  skins = w.skins;
  limit = w.limit;
  store_version = w.store_version;
  files = read_at (λ fs. option_map files_of (as_table fs)) (codes "files") top d.files;
  modules = read_at (λ ms. option_map modules_of (as_table ms)) (codes "modules") top d.modules;
}

-- what is meant where a file says nothing
abbrev pub empty_draft : Draft
empty_draft = record { admins = []; skins = []; limit = 2000; store_version = 1; files = []; modules = [] }

-- what the table of a file says
abbrev pub draft_of : Members → Draft
draft_of top = draft_with empty_draft top

-- a module is skipped for a feature, or for nothing
abbrev pub may_skip : ModuleDraft → Bool
may_skip m = option_map_or is_feature m.skip true

-- what holds of every draft
pub record IsDraft (d : Draft) : Type 0 where
  pub files : AreNames (map (λ f. f.name) d.files)
  pub modules : AreNames (map (λ m. m.name) d.modules)
  pub features : IsTrue (list_all may_skip d.modules)
  pub least_limit : 200 ≤ d.limit
  pub most_limit : d.limit ≤ 4000
  pub most_version : d.store_version ≤ 1000000

-- whether a module's name and its dependencies are names
abbrev pub has_names : ModuleDraft → Bool
has_names m = is_name m.name && list_all is_name m.dependencies

abbrev pub module_of : ModuleDraft → ModuleDef
module_of m = record {
  name = m.name;
  scripts = m.scripts;
  debug_scripts = [];
  styles = [];
  language_scripts = [];
  skin_scripts = [];
  skin_styles = [];
  rtl = [];
  dependencies = m.dependencies;
  messages = [];
  group = m.group;
  source = m.source;
  skip = m.skip;
}

-- the language that is known without a declaration
abbrev pub english : Language
english = record { code = codes "en"; fallback = []; rtl = false }

-- what is kept of a draft that breaks no rule; each admin then spells a user's name, and the name is what is kept
abbrev pub catalogue_of : Draft → Catalogue
catalogue_of d = record {
  admins = filter_map user_name_of d.admins;
  skins = d.skins;
  languages = english ∷ [];
  limit = d.limit;
  store_version = d.store_version;
  files = d.files;
  modules = map module_of d.modules;
}
