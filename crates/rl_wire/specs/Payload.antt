-- What a module brings, as JSON: the text that its version is the hash of.
use Rattle.std.specs.Prelude.{ℕ, List, [], ◌∷◌, codes}
use Rattle.serde_json.specs.Data.{Data, string, array, object, Items, no_items, item, no_members, member}
use Rattle.serde_json.specs.Written.{compact_text}
use Rattle.rl_names.specs.declared.part.Message.{Message}
use Rattle.rl_wire.specs.Message.{messages_value}

-- the styles as JSON: a list of one text under `css`, and an empty object where there are none
abbrev pub styles_value : List ℕ → Data
styles_value [] = object no_members
styles_value (b ∷ bs) = object (member (codes "css") (array (item (string (b ∷ bs)) no_items)) no_members)

-- the script, the styles and the messages, as JSON values
abbrev pub payload_values : List ℕ → List ℕ → List Message → List Data
payload_values script styles messages = string script ∷ styles_value styles ∷ messages_value messages ∷ []

-- a list of JSON values as a JSON array
abbrev pub items_of : List Data → Items
items_of [] = no_items
items_of (d ∷ ds) = item d (items_of ds)

abbrev pub array_of : List Data → Data
array_of ds = array (items_of ds)

abbrev pub payload_text : List ℕ → List ℕ → List Message → List ℕ
payload_text script styles messages = compact_text (array_of (payload_values script styles messages))
