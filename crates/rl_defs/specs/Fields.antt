-- The fields of a definitions file, and which of them are known.
use Rattle.std.specs.Prelude.{ℕ, Bool, false, ◌&&◌, ◌||◌, if◌then◌else◌, List, [], ◌∷◌, map, is_some, bytes_eq, codes}
use Rattle.std.specs.List.{flat_map}
use Rattle.toml.specs.Data.{Data, Members, as_str, as_table}
use Rattle.rl_defs.specs.Reading.{pairs, inside, texts_of, feature_of, number_of}

-- where a field stands: in the file itself, in one of its tables, or in the table of a module
pub data Place : Type 0 where
  InFile : Place
  InFiles : Place
  InModules : Place
  InWiki : Place
  InModule : (name : List ℕ) → Place

pub record Field : Type 0 where
  pub place : Place
  pub key : List ℕ
  pub value : Data

-- ---- all fields, in their order: keys in byte order, and behind a field those of the table that it is

abbrev pub fields_at : Place → Members → List Field
fields_at place ms = map (λ (key, d). record { place = place; key = key; value = d }) (pairs ms)

-- a module, and its fields
abbrev pub module_fields : List ℕ × Data → List Field
module_fields (name, d) = record { place = InModules; key = name; value = d } ∷ fields_at (InModule name) (inside d)

abbrev pub modules_fields : Members → List Field
modules_fields ms = flat_map module_fields (pairs ms)

-- the fields of a table of the file
abbrev pub table_fields : List ℕ → Members → List Field
table_fields key ms =
    if bytes_eq key (codes "files") then fields_at InFiles ms
    else (if bytes_eq key (codes "modules") then modules_fields ms
    else (if bytes_eq key (codes "wiki") then fields_at InWiki ms else []))

-- a table of the file, and its fields
abbrev pub top_fields : List ℕ × Data → List Field
top_fields (key, d) = record { place = InFile; key = key; value = d } ∷ table_fields key (inside d)

abbrev pub fields : Members → List Field
fields top = flat_map top_fields (pairs top)

-- ---- the fields that are known, each with the kind of its value

-- the tables of the file
abbrev pub is_table_field : List ℕ → Data → Bool
is_table_field key d = is_some (as_table d) && (bytes_eq key (codes "files") || bytes_eq key (codes "modules") || bytes_eq key (codes "wiki"))

-- the fields of the table `wiki`
abbrev pub is_wiki_field : List ℕ → Data → Bool
is_wiki_field key d =
    if bytes_eq key (codes "admins") || bytes_eq key (codes "skins") then is_some (texts_of d)
    else (if bytes_eq key (codes "limit") then is_some (number_of 200 4000 d)
    else (if bytes_eq key (codes "storeVersion") then is_some (number_of 0 1000000 d) else false))

-- the fields of a module
abbrev pub is_module_field : List ℕ → Data → Bool
is_module_field key d =
    if bytes_eq key (codes "scripts") || bytes_eq key (codes "dependencies") then is_some (texts_of d)
    else (if bytes_eq key (codes "group") || bytes_eq key (codes "source") then is_some (as_str d)
    else (if bytes_eq key (codes "skip") then is_some (feature_of d) else false))

-- at a place; a file is a text under any name, and a module a table under any name
abbrev pub is_known_at : Place → List ℕ → Data → Bool
is_known_at InFile key d = is_table_field key d
is_known_at InFiles key d = is_some (as_str d)
is_known_at InModules key d = is_some (as_table d)
is_known_at InWiki key d = is_wiki_field key d
is_known_at (InModule name) key d = is_module_field key d

abbrev pub is_known : Field → Bool
is_known f = is_known_at f.place f.key f.value
