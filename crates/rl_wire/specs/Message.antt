-- The messages that a module brings, as a JSON object from keys to texts.
use Rattle.std.specs.Prelude.{◌≡◌, ⊤, ℕ, List, [], ◌∷◌}
use Rattle.std.specs.List.{AllByRecursion}
use Rattle.std.specs.Ordering.{nat_cmp}
use Rattle.std.specs.declared.cmp.Ordering.TheVariants.{Less}
use Rattle.std.specs.Cmp.Lexicographic.{slice_cmp}
use Rattle.serde_json.specs.Data.{Data, string, object, Members, no_members, member}
use Rattle.rl_names.specs.declared.part.Message.{Message}

-- this key stands before each key of the messages, in byte order
abbrev pub IsBelow : List ℕ → List Message → Type 0
IsBelow key messages = AllByRecursion (λ (m : Message). slice_cmp nat_cmp key m.key ≡ Less) messages

-- the keys strictly increase in byte order, as JSON objects here have them
abbrev pub AreAscending : List Message → Type 0
AreAscending [] = ⊤
AreAscending (m ∷ ms) = IsBelow m.key ms × AreAscending ms

abbrev pub members_of : List Message → Members
members_of [] = no_members
members_of (m ∷ ms) = member m.key (string m.text) (members_of ms)

-- the messages as JSON
abbrev pub messages_value : List Message → Data
messages_value messages = object (members_of messages)
