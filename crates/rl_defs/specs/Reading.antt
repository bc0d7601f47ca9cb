-- What stands at a key of a TOML table. A value that is not of the kind asked for is read as if it were absent.
use Rattle.std.specs.Prelude.{ℕ, pos, Bool, true, ◌&&◌, nat_le, if◌then◌else◌, List, [], ◌∷◌, ◌++◌, length, Option}
use Rattle.std.specs.Prelude.{Some, None, is_some, unwrap_or, option_and_then, option_to_list}
use Rattle.std.specs.Str.{is_utf8}
use Rattle.toml.specs.Data.{Data, integer, array, Items, no_items, item, Members, no_members, member, get_member, as_str, as_table}
use Rattle.toml.specs.Parse.{parse_document}

-- the TOML document that the bytes are
abbrev pub document : List ℕ → Option Members
document bytes = if is_utf8 bytes then parse_document bytes else None

-- the keys of a table with their values, in byte order of the keys
abbrev pub pairs : Members → List (List ℕ × Data)
pairs no_members = []
pairs (member key d ms) = (key, d) ∷ pairs ms

-- the texts among the items of a list
abbrev pub texts_among : Items → List (List ℕ)
texts_among no_items = []
texts_among (item d ds) = option_to_list (as_str d) ++ texts_among ds

-- whether each item is a text
abbrev pub are_texts : Items → Bool
are_texts no_items = true
are_texts (item d ds) = is_some (as_str d) && are_texts ds

-- the texts of a list of texts
abbrev pub texts_of : Data → Option (List (List ℕ))
texts_of (array ds) = if are_texts ds then Some (texts_among ds) else None
texts_of _ = None

-- a whole number in a range
abbrev pub number_of : ℕ → ℕ → Data → Option ℕ
number_of least most (integer (pos n)) = if nat_le least n && nat_le n most then Some n else None
number_of least most _ = None

-- a feature that a module is skipped for: 1 to 100 bytes
abbrev pub is_feature : List ℕ → Bool
is_feature text = nat_le 1 (length text) && nat_le (length text) 100

abbrev pub if_feature : List ℕ → Option (List ℕ)
if_feature text = if is_feature text then Some text else None

-- the feature that a value is
abbrev pub feature_of : Data → Option (List ℕ)
feature_of d = option_and_then if_feature (as_str d)

-- the table that a value is
abbrev pub inside : Data → Members
inside d = unwrap_or (as_table d) no_members

-- what the value at a key is read as; another value where none is there, or none of that kind
abbrev pub read_at : {X : Type 0} → (Data → Option X) → List ℕ → Members → X → X
read_at kind key ms absent = unwrap_or (option_and_then kind (get_member key ms)) absent

-- the table at a key
abbrev pub table_at : List ℕ → Members → Members
table_at key ms = read_at as_table key ms no_members
