-- The startup text: the sources that modules come from, and the rows of the registry.
use Rattle.std.specs.Prelude.{◌≡◌, ◌^◌, ℕ, ◌<◌, ◌&&◌, Bool, true, false, not, nat_lt, List, [], ◌∷◌, ◌++◌, map, bytes_eq, codes}
use Rattle.std.specs.Prelude.{Option, Some, None, option_map, unwrap_or, IsTrue, IsUtf8, ⊤, is_some, IfSome}
use Rattle.std.specs.List.{AllByRecursion}
use Rattle.std.specs.Ordering.{nat_cmp}
use Rattle.std.specs.declared.cmp.Ordering.TheVariants.{Less}
use Rattle.std.specs.Cmp.Lexicographic.{slice_cmp}
use Rattle.serde_json.specs.Data.{Data, unsigned, null, number, string, array, object, no_items, Members, no_members, member}
use Rattle.rl_names.specs.Name.{is_name, is_version}
use Rattle.rl_names.specs.declared.part.Source.{Source}
use Rattle.rl_names.specs.declared.row.Dep.{Dep}
use Rattle.rl_names.specs.declared.row.Dep.TheVariants.{At, Named}
use Rattle.rl_names.specs.declared.row.Group.{Group}
use Rattle.rl_names.specs.declared.row.Group.TheVariants.{Plain, User, Private, Other}
use Rattle.rl_names.specs.declared.row.Row.{Row}
use Rattle.rl_wire.specs.declared.startup.Startup.{Startup}
use Rattle.rl_wire.specs.Payload.{array_of}
use Rattle.rl_wire.specs.Line.{call_text, line}

-- ---- the first line: where the modules of each source are served

abbrev pub source_members : List Source → Members
source_members [] = no_members
source_members (s ∷ ss) = member s.name (string s.url) (source_members ss)

abbrev pub sources_arguments : List Source → List Data
sources_arguments sources = object (source_members sources) ∷ []

-- the line of the sources, without its end
abbrev pub sources_text : List Source → List ℕ
sources_text sources = call_text (codes "mw.loader.addSource") (sources_arguments sources)

-- ---- the second line: the rows

-- the number of a row, or the name of what has none
abbrev pub dep_value : Dep → Data
dep_value (At row) = number (unsigned row)
dep_value (Named name) = string name

-- the fields that may be empty
abbrev pub deps_field : List Dep → Option Data
deps_field [] = None
deps_field (dep ∷ deps) = Some (array_of (map dep_value (dep ∷ deps)))

abbrev pub group_field : Group → Option Data
group_field Plain = None
group_field User = Some (number (unsigned 0))
group_field Private = Some (number (unsigned 1))
group_field (Other n) = Some (number (unsigned n))

abbrev pub source_field : List ℕ → Option Data
source_field [] = None
source_field (b ∷ bs) = Some (string (b ∷ bs))

abbrev pub skip_field : Option (List ℕ) → Option Data
skip_field skip = option_map string skip

-- a field before others: an empty one is blank, and left out where nothing follows
abbrev pub with_field : Data → Option Data → List Data → List Data
with_field blank (Some field) later = field ∷ later
with_field blank None [] = []
with_field blank None (next ∷ later) = blank ∷ next ∷ later

-- the fields behind the version
abbrev pub fields_of : Row → List Data
fields_of r =
    with_field (array no_items) (deps_field r.deps) (with_field null (group_field r.group)
    (with_field null (source_field r.source) (with_field null (skip_field r.skip) [])))

-- the version of a private row is empty
abbrev pub row_value : Row → Data
row_value r = array_of (string r.name ∷ string (unwrap_or r.version []) ∷ fields_of r)

abbrev pub rows_arguments : List Row → List Data
rows_arguments rows = array_of (map row_value rows) ∷ []

-- the line of the rows, without its end
abbrev pub rows_text : List Row → List ℕ
rows_text rows = call_text (codes "mw.loader.register") (rows_arguments rows)

abbrev pub startup_text : Startup → List ℕ
startup_text s = line (sources_text s.sources) ++ line (rows_text s.rows)

-- ---- what may be written

-- this name stands before those of the sources, in byte order
abbrev pub IsBefore : List ℕ → List Source → Type 0
IsBefore name sources = AllByRecursion (λ (s : Source). slice_cmp nat_cmp name s.name ≡ Less) sources

-- the names strictly increase in byte order
abbrev pub AreOrdered : List Source → Type 0
AreOrdered [] = ⊤
AreOrdered (s ∷ ss) = IsBefore s.name ss × AreOrdered ss

-- a version stands exactly where the group is not private, and the number of a group of its own is 2 or more
abbrev pub fits_group : Group → Option (List ℕ) → Bool
fits_group Private version = not (is_some version)
fits_group (Other n) version = nat_lt 1 n && is_some version
fits_group group version = is_some version

abbrev pub is_empty : Option (List ℕ) → Bool
is_empty (Some []) = true
is_empty other = false

-- the version and the group fit, a source is not named `local`, and a skip is not empty
abbrev pub is_writable : Row → Bool
is_writable r = fits_group r.group r.version && not (bytes_eq r.source (codes "local")) && not (is_empty r.skip)

abbrev pub AreWritable : List Row → Type 0
AreWritable rows = AllByRecursion (λ (r : Row). IsTrue (is_writable r)) rows

pub record IsWritable (s : Startup) : Type 0 where
  pub sources : AreOrdered s.sources
  pub rows : AreWritable s.rows

-- ---- what each startup is: its texts are UTF-8, names and versions are such, and numbers have 32 bits

abbrev pub AreSources : List Source → Type 0
AreSources sources = AllByRecursion (λ (s : Source). IsUtf8 s.name × IsUtf8 s.url) sources

abbrev pub IsDep : Dep → Type 0
IsDep (At row) = row < 2 ^ 32
IsDep (Named name) = IsUtf8 name

abbrev pub IsGroup : Group → Type 0
IsGroup (Other n) = n < 2 ^ 32
IsGroup group = ⊤

pub record AreFields (r : Row) : Type 0 where
  pub deps : AllByRecursion IsDep r.deps
  pub group : IsGroup r.group
  pub source : IsUtf8 r.source
  pub skip : IfSome r.skip IsUtf8

pub record IsRow (r : Row) : Type 0 where
  pub name : IsTrue (is_name r.name)
  pub version : IfSome r.version (λ v. IsTrue (is_version v))
  pub fields : AreFields r

pub record IsStartup (s : Startup) : Type 0 where
  pub sources : AreSources s.sources
  pub rows : AllByRecursion IsRow s.rows
