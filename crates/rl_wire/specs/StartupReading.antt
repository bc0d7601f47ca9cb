-- What startup texts say. Each line is read loosely as JSON, and counts only where what it makes may be written and is
-- written just so.
use Rattle.std.specs.Prelude.{◌≡◌, ◌≢◌, ◌⊎◌, ◌^◌, ℕ, ◌==◌, nat_lt, if◌then◌else◌, List, [], ◌∷◌, ◌++◌, drop}
use Rattle.std.specs.Prelude.{bytes_eq, Option, Some, None, option_map, option_to_list, unwrap_or, Result, Ok, Err}
use Rattle.std.specs.List.{AllByRecursion, slice_split, filter_map}
use Rattle.std.specs.Option.{option_map_or, option_or}
use Rattle.serde_json.specs.Data.{Data, null, Members, no_members, member}
use Rattle.serde_json.specs.Find.{as_array, as_object, as_str, as_number, as_u64}
use Rattle.rl_names.specs.Name.{is_name, is_version}
use Rattle.rl_names.specs.declared.part.Source.{Source}
use Rattle.rl_names.specs.declared.row.Dep.{Dep}
use Rattle.rl_names.specs.declared.row.Dep.TheVariants.{At, Named}
use Rattle.rl_names.specs.declared.row.Group.{Group}
use Rattle.rl_names.specs.declared.row.Group.TheVariants.{Plain, User, Private, Other}
use Rattle.rl_names.specs.declared.row.Row.{Row}
use Rattle.rl_wire.specs.declared.startup.Startup.{Startup}
use Rattle.rl_wire.specs.Line.{line}
use Rattle.rl_wire.specs.Arguments.{◌>>=◌, arguments_in, listed, first, is_line_end}
use Rattle.rl_wire.specs.Startup.{sources_text, rows_text, startup_text, is_writable, AreOrdered, AreWritable, IsWritable, AreSources, IsRow, IsStartup}

-- ---- sources

abbrev pub sources_among : Members → List Source
sources_among no_members = []
sources_among (member name d ms) = option_to_list (option_map (λ url. record { name = name; url = url }) (as_str d)) ++ sources_among ms

abbrev pub if_sources : List ℕ → List Source → Option (List Source)
if_sources text sources = if bytes_eq (sources_text sources) text then Some sources else None

-- the sources whose line a text is, without its end
abbrev pub sources_in : List ℕ → Option (List Source)
sources_in text = arguments_in 20 text >>= first >>= as_object >>= λ members. if_sources text (sources_among members)

-- ---- rows

-- a number below 2^32
abbrev pub number_in : Data → Option ℕ
number_in d = as_number d >>= as_u64 >>= λ n. if nat_lt n (2 ^ 32) then Some n else None

abbrev pub name_in : Data → Option (List ℕ)
name_in d = as_str d >>= λ text. if is_name text then Some text else None

abbrev pub version_in : Data → Option (List ℕ)
version_in d = as_str d >>= λ text. if is_version text then Some text else None

abbrev pub dep_in : Data → Option Dep
dep_in d = option_or (option_map At (number_in d)) (option_map Named (as_str d))

abbrev pub deps_in : Data → List Dep
deps_in d = filter_map dep_in (option_map_or listed (as_array d) [])

abbrev pub group_numbered : ℕ → Group
group_numbered n = if n == 0 then User else (if n == 1 then Private else Other n)

abbrev pub group_in : Data → Group
group_in d = option_map_or group_numbered (number_in d) Plain

-- the field that stands first; one that is left out is blank
abbrev pub next_field : List Data → Data
next_field fields = unwrap_or (first fields) null

abbrev pub row_with : Data → Data → Data → Data → Data → List ℕ → Row
row_with version deps group source skip name = record {
  name = name;
  version = version_in version;
  deps = deps_in deps;
  group = group_in group;
  source = unwrap_or (as_str source) [];
  skip = as_str skip;
}

-- the row, where it may be written
abbrev pub if_writable : Row → Option Row
if_writable row = if is_writable row then Some row else None

abbrev pub row_of : List Data → Option Row
row_of fields =
    name_in (next_field fields) >>= λ name.
    if_writable (row_with (next_field (drop 1 fields)) (next_field (drop 2 fields)) (next_field (drop 3 fields)) (next_field (drop 4 fields))
    (next_field (drop 5 fields)) name)

abbrev pub row_in : Data → Option Row
row_in d = option_map listed (as_array d) >>= row_of

abbrev pub if_rows : List ℕ → List Row → Option (List Row)
if_rows text rows = if bytes_eq (rows_text rows) text then Some rows else None

-- the rows whose line a text is, without its end
abbrev pub rows_in : List ℕ → Option (List Row)
rows_in text = option_map listed (arguments_in 19 text >>= first >>= as_array) >>= λ values. if_rows text (filter_map row_in values)

-- ---- both lines

abbrev pub with_rows : List Source → Option (List Row) → Result Startup ℕ
with_rows sources None = Err 2
with_rows sources (Some rows) = Ok (record { sources = sources; rows = rows })

-- a line with its end, and nothing behind it
abbrev pub rows_alone : List (List ℕ) → Option (List Row)
rows_alone (text ∷ [] ∷ []) = rows_in text
rows_alone other = None

-- what a first line says, and then what stands behind its end
abbrev pub startup_by : Option (List Source) → List (List ℕ) → Result Startup ℕ
startup_by None texts = Err 1
startup_by (Some sources) texts = with_rows sources (rows_alone texts)

abbrev pub of_startup_lines : List (List ℕ) → Result Startup ℕ
of_startup_lines (text ∷ next ∷ texts) = startup_by (sources_in text) (next ∷ texts)
of_startup_lines other = Err 1

-- the startup that a text says, or the number of the first line that no startup text has there
abbrev pub startup_of : List ℕ → Result Startup ℕ
startup_of bytes = of_startup_lines (slice_split is_line_end bytes)

-- ---- laws

-- no startup text has these bytes in the first line, with its end
abbrev pub BadFirst : List ℕ → Type 0
BadFirst bytes = (sources : List Source) (more : List ℕ) → AreSources sources → AreOrdered sources → bytes ≢ line (sources_text sources) ++ more

-- the first line is that of sources, and what stands behind it is no line of rows with its end
abbrev pub BadSecond : List ℕ → Type 0
BadSecond bytes =
    (sources : List Source) × (rest : List ℕ) × (bytes ≡ line (sources_text sources) ++ rest)
    × ((rows : List Row) → AllByRecursion IsRow rows → AreWritable rows → rest ≢ line (rows_text rows))

abbrev pub IsBadStartup : List ℕ → ℕ → Type 0
IsBadStartup bytes n = ((n ≡ 1) × BadFirst bytes) ⊎ ((n ≡ 2) × BadSecond bytes)

-- a startup text says its startup, no other text says it, no two startups have one text, and of any other text the first
-- bad line is told
pub record TextsSayStartups : Type 0 where
  pub written : (s : Startup) → IsStartup s → IsWritable s → startup_of (startup_text s) ≡ Ok s
  pub alone : (bytes : List ℕ) (s : Startup) → startup_of bytes ≡ Ok s → startup_text s ≡ bytes
  pub once : (a b : Startup) → IsStartup a → IsWritable a → IsStartup b → IsWritable b → startup_text a ≡ startup_text b → a ≡ b
  pub bad : (bytes : List ℕ) (n : ℕ) → startup_of bytes ≡ Err n → IsBadStartup bytes n
