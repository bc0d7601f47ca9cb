-- The grammar of a line of a `drive` script: a JSON array of a word and the members that belong to it.
use Rattle.std.specs.Prelude.{ℕ, ◌^◌, ◌==◌, ◌∷◌, [], List, Bool, if◌then◌else◌, bytes_eq, codes, length, map, nat_lt, slice_get, Option}
use Rattle.std.specs.Prelude.{Some, None, option_and_then, option_map, unwrap_or}
use Rattle.std.specs.Option.{option_map_or}
use Rattle.std.specs.Result.{result_ok}
use Rattle.serde_json.specs.Data.{Data, null, Items, no_items, item}
use Rattle.serde_json.specs.Read.{read}
use Rattle.serde_json.specs.Find.{as_array, as_null, as_number, as_str, as_u64}
use Rattle.rl_names.specs.Key.{key_of}
use Rattle.rl_names.specs.Name.{is_name, is_version}
use Rattle.rl_names.specs.declared.kind.StateKind.{StateKind}
use Rattle.rl_names.specs.declared.kind.StateKind.TheVariants as kinds
use Rattle.rl_names.specs.declared.name.Key.{Key}
use Rattle.rl_names.specs.declared.row.Dep.{Dep}
use Rattle.rl_names.specs.declared.row.Dep.TheVariants.{Named}
use Rattle.rl_names.specs.declared.row.Group.{Group}
use Rattle.rl_names.specs.declared.row.Group.TheVariants.{Plain, User, Private, Other}
use Rattle.rl_view_spec.specs.Closure.{Text}
use Rattle.rl_script_spec.specs.declared.Line.{Line}
use Rattle.rl_script_spec.specs.declared.Line.TheVariants.{Registers, HasFeatures, Does, Faulty}
use Rattle.rl_script_spec.specs.declared.Step.TheVariants.{Using, Load, Impl, State}

infixl 10 ◌>>=◌
abbrev pub ◌>>=◌ : {A B : Type 0} → Option A → (A → Option B) → Option B
o >>= f = option_and_then f o

-- ---- what one member says

abbrev pub members_of : Items → List Data
members_of no_items = []
members_of (item member members) = member ∷ members_of members

-- a text that passes the test
abbrev pub text_if : (Text → Bool) → Data → Option Text
text_if test member = as_str member >>= λ text. if test text then Some text else None

-- the texts of a list in which each member is one
abbrev pub texts_of : List Data → Option (List Text)
texts_of [] = Some []
texts_of (member ∷ members) = as_str member >>= λ text. option_map (λ texts. text ∷ texts) (texts_of members)

abbrev pub texts_in : Data → Option (List Text)
texts_in member = as_array member >>= λ items. texts_of (members_of items)

-- dependencies, each of which is named
abbrev pub deps_in : Data → Option (List Dep)
deps_in member = option_map (map Named) (texts_in member)

-- a whole number below 2^32: 0 for `user`, 1 for `private`, and each other for a group of its own
abbrev pub group_numbered : ℕ → Option Group
group_numbered number =
    if number == 0 then Some User else if number == 1 then Some Private else if nat_lt number (2 ^ 32) then Some (Other number) else None

-- `null` for no group
abbrev pub group_in : Data → Option Group
group_in null = Some Plain
group_in member = as_number member >>= as_u64 >>= group_numbered

-- `null` exactly in the private group, and else a version
abbrev pub version_in : Group → Data → Option (Option Text)
version_in Private member = option_map (λ _. None) (as_null member)
version_in other member = option_map Some (text_if is_version member)

-- `null` for this wiki, which the empty text stands for
abbrev pub source_in : Data → Option Text
source_in null = Some []
source_in member = as_str member

-- `null` for no skip
abbrev pub skip_in : Data → Option (Option Text)
skip_in null = Some None
skip_in member = option_map Some (as_str member)

-- the key that a text spells
abbrev pub key_in : Data → Option Key
key_in member = as_str member >>= λ text. result_ok (key_of text)

abbrev pub kind_named : Text → Option StateKind
kind_named word =
    if bytes_eq word (codes "missing") then Some kinds.Missing else if bytes_eq word (codes "error") then Some kinds.Error else None

-- ---- what the members after a word say: nothing where they are not of the grammar

-- a member that is left out is as `null`
abbrev pub or_null : Option Data → Data
or_null member = unwrap_or member null

-- Name and version, and then dependencies, group, source and skip, of which trailing ones may be left out: there are then
-- no dependencies, and each other is as `null`.
abbrev pub row_line : List Data → Option Line
row_line members = if nat_lt 6 (length members) then None else do
  named ← slice_get members 0 >>= text_if is_name
  grouped ← group_in (or_null (slice_get members 3))
  versioned ← slice_get members 1 >>= version_in grouped
  needed ← option_map_or deps_in (slice_get members 2) (Some [])
  sourced ← source_in (or_null (slice_get members 4))
  skipped ← skip_in (or_null (slice_get members 5))
  Some (Registers (record { name = named; version = versioned; deps = needed; group = grouped; source = sourced; skip = skipped }))

-- the texts of a list that stands alone
abbrev pub only_texts : List Data → Option (List Text)
only_texts (texts ∷ []) = texts_in texts
only_texts other = None

abbrev pub features_line : List Data → Option Line
features_line members = option_map HasFeatures (only_texts members)

abbrev pub using_line : List Data → Option Line
using_line members = option_map (λ names. Does (Using names)) (only_texts members)

abbrev pub load_line : List Data → Option Line
load_line members = option_map (λ names. Does (Load names)) (only_texts members)

-- a key text and a script
abbrev pub impl_line : List Data → Option Line
impl_line (key ∷ script ∷ []) = do
  keyed ← key_in key
  text ← as_str script
  Some (Does (Impl keyed text))
impl_line other = None

-- a name, which may be any text, and `missing` or `error`
abbrev pub state_line : List Data → Option Line
state_line members = if nat_lt 2 (length members) then None else do
  named ← slice_get members 0 >>= as_str
  word ← slice_get members 1 >>= as_str
  kind ← kind_named word
  Some (Does (State named kind))

abbrev pub word_line : Text → List Data → Option Line
word_line word members =
    if bytes_eq word (codes "row") then row_line members
    else if bytes_eq word (codes "features") then features_line members
    else if bytes_eq word (codes "using") then using_line members
    else if bytes_eq word (codes "load") then load_line members
    else if bytes_eq word (codes "impl") then impl_line members
    else if bytes_eq word (codes "state") then state_line members
    else None

-- the word, and what it says with the other members
abbrev pub members_line : List Data → Option Line
members_line [] = None
members_line (word ∷ members) = as_str word >>= λ text. word_line text members

-- what a line says that is not ignored
abbrev pub line_of : Text → Line
line_of text = unwrap_or (read text >>= as_array >>= λ items. members_line (members_of items)) Faulty
