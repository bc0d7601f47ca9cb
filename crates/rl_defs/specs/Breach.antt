-- The rules of a definitions file, and the first that it breaks.
--
-- The checks follow one another over the whole file. In each, tables, keys and modules are taken in byte order, and lists in
-- their order: `files` before `modules` before `wiki`, and `admins` before `skins`.
use Rattle.std.specs.Prelude.{ℕ, ◌-◌, ◌^◌, min, Bool, ◌&&◌, ◌||◌, nat_le, if◌then◌else◌, List, [], ◌∷◌, length, sum_by, find}
use Rattle.std.specs.Prelude.{Option, Some, None, is_some, unwrap_or, option_map, Result, Ok, Err, bytes_eq, codes}
use Rattle.toml.specs.Data.{Members}
use Rattle.rl_names.specs.Limits.{limit_of}
use Rattle.rl_names.specs.Name.{is_name}
use Rattle.rl_names.specs.Title.{user_name_of}
use Rattle.rl_names.specs.declared.counted.Counted.TheVariants.{Modules, ListedBytes, Dependencies}
use Rattle.rl_defs.specs.declared.draft.Draft.{Draft}
use Rattle.rl_defs.specs.declared.draft.ModuleDraft.{ModuleDraft}
use Rattle.rl_defs.specs.declared.error.FieldKind.TheVariants.{OfFile, IsModule, OfModule}
use Rattle.rl_defs.specs.Refusal.{Refusal, NotToml, UnknownField, BadName, BadDependency, NoFile, TooMany, BadSource}
use Rattle.rl_defs.specs.Catalogue.{Catalogue}
use Rattle.rl_defs.specs.Draft.{draft_of, catalogue_of}
use Rattle.rl_defs.specs.Fields.{Place, InFile, InFiles, InModules, InWiki, InModule, Field, is_known, fields}
use Rattle.rl_defs.specs.Reading.{document}
use Rattle.rl_defs.specs.Words.{is_definable, is_skin, is_built_in, is_gadget}

-- the first of two breaches
abbrev pub or_else : Option Refusal → Option Refusal → Option Refusal
or_else (Some breach) later = Some breach
or_else None later = later

-- the first breach among these
abbrev pub first_of : {X : Type 0} → (X → Option Refusal) → List X → Option Refusal
first_of breach_of [] = None
first_of breach_of (x ∷ xs) = or_else (breach_of x) (first_of breach_of xs)

-- a breach, unless a rule is kept
abbrev pub unless : Bool → Refusal → Option Refusal
unless is_kept breach = if is_kept then None else Some breach

-- ---- fields

-- A field of a module is told by the module's name and its key; a module that is no table has no field to tell. Outside
-- modules no module is told.
abbrev pub unknown_at : Place → List ℕ → Refusal
unknown_at InFile key = UnknownField OfFile [] key
unknown_at InFiles key = UnknownField OfFile [] key
unknown_at InModules key = UnknownField IsModule key []
unknown_at InWiki key = UnknownField OfFile [] key
unknown_at (InModule name) key = UnknownField OfModule name key

-- the first of these fields that is not known
abbrev pub unknown_among : List Field → Option Refusal
unknown_among fs = first_of (λ f. unless (is_known f) (unknown_at f.place f.key)) fs

-- the first field of the file that is not known
abbrev pub unknown_field : Members → Option Refusal
unknown_field top = unknown_among (fields top)

-- ---- names

abbrev pub bad_module_name : List ModuleDraft → Option Refusal
bad_module_name modules = first_of (λ m. unless (is_definable m.name) (BadName m.name)) modules

-- an admin spells the name of a user
abbrev pub bad_admin : List (List ℕ) → Option Refusal
bad_admin admins = first_of (λ admin. unless (is_some (user_name_of admin)) (BadName admin)) admins

abbrev pub bad_skin : List (List ℕ) → Option Refusal
bad_skin skins = first_of (λ skin. unless (is_skin skin) (BadName skin)) skins

abbrev pub bad_name : Draft → Option Refusal
bad_name d = or_else (bad_module_name d.modules) (or_else (bad_admin d.admins) (bad_skin d.skins))

-- ---- counts

abbrev pub too_many_dependencies : List ModuleDraft → Option Refusal
too_many_dependencies modules = first_of (λ m. unless (nat_le (length m.dependencies) (limit_of Dependencies)) (TooMany Dependencies (length m.dependencies)))
    modules

abbrev pub too_many : Draft → Option Refusal
too_many d = or_else (unless (nat_le (length d.modules) (limit_of Modules)) (TooMany Modules (length d.modules))) (too_many_dependencies d.modules)

-- ---- what modules name

abbrev pub is_defined : Draft → List ℕ → Bool
is_defined d name = is_some (find (λ m. bytes_eq m.name name) d.modules)

-- a dependency is a module of the file, a built-in module, or what may be a gadget
abbrev pub is_dependency : Draft → List ℕ → Bool
is_dependency d name = is_name name && (is_defined d name || is_built_in name || is_gadget name)

abbrev pub bad_dependency_among : Draft → List ℕ → List (List ℕ) → Option Refusal
bad_dependency_among d owner names = first_of (λ name. unless (is_dependency d name) (BadDependency owner name)) names

abbrev pub bad_dependency_of : Draft → ModuleDraft → Option Refusal
bad_dependency_of d m = bad_dependency_among d m.name m.dependencies

abbrev pub bad_dependency : Draft → Option Refusal
bad_dependency d = first_of (bad_dependency_of d) d.modules

-- the text of a file that may be missing
abbrev pub text_of : Draft → List ℕ → Option (List ℕ)
text_of d name = option_map (λ f. f.text) (find (λ f. bytes_eq f.name name) d.files)

abbrev pub no_file_among : Draft → List ℕ → List (List ℕ) → Option Refusal
no_file_among d owner files = first_of (λ file. unless (is_some (text_of d file)) (NoFile owner file)) files

abbrev pub no_file_of : Draft → ModuleDraft → Option Refusal
no_file_of d m = no_file_among d m.name m.scripts

abbrev pub no_file : Draft → Option Refusal
no_file d = first_of (no_file_of d) d.modules

abbrev pub bad_source_among : List ModuleDraft → Option Refusal
bad_source_among modules = first_of (λ m. unless (bytes_eq m.source (codes "local")) (BadSource m.name)) modules

abbrev pub bad_source : Draft → Option Refusal
bad_source d = bad_source_among d.modules

-- the bytes of listed files: a file counts at each place where it is listed
abbrev pub listed_bytes_among : Draft → List (List ℕ) → ℕ
listed_bytes_among d files = sum_by (λ file. length (unwrap_or (text_of d file) [])) files

abbrev pub listed_bytes_of : Draft → ModuleDraft → ℕ
listed_bytes_of d m = listed_bytes_among d m.scripts

abbrev pub listed_bytes : Draft → ℕ
listed_bytes d = sum_by (listed_bytes_of d) d.modules

abbrev pub too_large : Draft → Option Refusal
too_large d = unless (nat_le (listed_bytes d) (limit_of ListedBytes)) (TooMany ListedBytes (min (listed_bytes d) (2 ^ 64 - 1)))

-- ---- the file

-- the first breach of a file whose fields are known, check by check
abbrev pub breach_of : Draft → Option Refusal
breach_of d = or_else (bad_name d) (or_else (too_many d) (or_else (bad_dependency d) (or_else (no_file d) (or_else (bad_source d) (too_large d)))))

abbrev pub first_breach : Members → Option Refusal
first_breach top = or_else (unknown_field top) (breach_of (draft_of top))

-- the catalogue of a draft, or its breach
abbrev pub settled : Draft → Option Refusal → Result Catalogue Refusal
settled d (Some breach) = Err breach
settled d None = Ok (catalogue_of d)

abbrev pub reading_of : Option Members → Result Catalogue Refusal
reading_of None = Err NotToml
reading_of (Some top) = settled (draft_of top) (first_breach top)

-- what a definitions file says, or the first rule that it breaks
abbrev pub reading : List ℕ → Result Catalogue Refusal
reading bytes = reading_of (document bytes)
