-- The lines of an answer: each is a call of a function of the client, whose arguments are JSON.
use Rattle.std.specs.Prelude.{◌≡◌, ⊤, Some, ℕ, List, [], ◌∷◌, ◌++◌, map, flat_map, codes, IsTrue, IsUtf8}
use Rattle.std.specs.List.{AllByRecursion, join_with_byte}
use Rattle.serde_json.specs.Read.{read}
use Rattle.serde_json.specs.Data.{Data, string, object, no_members, member}
use Rattle.serde_json.specs.Written.{compact_text}
use Rattle.rl_names.specs.Name.{is_name, is_version, key_text}
use Rattle.rl_names.specs.declared.part.Message.{Message}
use Rattle.rl_names.specs.declared.kind.StateKind.{StateKind}
use Rattle.rl_names.specs.declared.kind.StateKind.TheVariants.{Missing, Error}
use Rattle.rl_wire.specs.declared.part.Part.{Part}
use Rattle.rl_wire.specs.declared.part.Part.TheVariants.{Impl, State}
use Rattle.rl_wire.specs.Message.{AreAscending}
use Rattle.rl_wire.specs.Payload.{payload_values, array_of}

-- the arguments of a call, with commas between them
abbrev pub arguments_text : List Data → List ℕ
arguments_text arguments = join_with_byte 44 (map compact_text arguments)

abbrev pub call_text : List ℕ → List Data → List ℕ
call_text function arguments = function ++ (codes "(" ++ (arguments_text arguments ++ codes ");"))

-- how a state line spells its kind
abbrev pub kind_text : StateKind → List ℕ
kind_text Missing = codes "missing"
kind_text Error = codes "error"

-- what a state line says of a name
abbrev pub state_arguments : List ℕ → List ℕ → List Data
state_arguments name word = object (member name (string word) no_members) ∷ []

-- the line that gives a name this state, without its end
abbrev pub state_text : List ℕ → List ℕ → List ℕ
state_text name word = call_text (codes "mw.loader.state") (state_arguments name word)

-- the key of a module, and then all that its version is made from
abbrev pub implement_arguments : List ℕ → List ℕ → List ℕ → List ℕ → List Message → List Data
implement_arguments name version script styles messages = string (key_text name version) ∷ payload_values script styles messages

-- the line that brings a module, without its end
abbrev pub implement_text : List ℕ → List ℕ → List ℕ → List ℕ → List Message → List ℕ
implement_text name version script styles messages =
    call_text (codes "mw.loader.implement") (implement_arguments name version script styles messages)

-- what the call in a part's line is given
abbrev pub arguments_of : Part → List Data
arguments_of (Impl name version script styles messages) = implement_arguments name version script styles messages
arguments_of (State name kind) = state_arguments name (kind_text kind)

-- the line of a part, without its end
abbrev pub part_text : Part → List ℕ
part_text (Impl name version script styles messages) = implement_text name version script styles messages
part_text (State name kind) = state_text name (kind_text kind)

abbrev pub line : List ℕ → List ℕ
line text = text ++ 10 ∷ []

-- an answer: the lines of its parts, in order
abbrev pub wire_text : List Part → List ℕ
wire_text parts = flat_map (λ part. line (part_text part)) parts

-- the messages of a part are in order
abbrev pub IsInOrder : Part → Type 0
IsInOrder (Impl name version script styles messages) = AreAscending messages
IsInOrder (State name kind) = ⊤

abbrev pub AreInOrder : List Part → Type 0
AreInOrder parts = AllByRecursion IsInOrder parts

abbrev pub AreTexts : List Message → Type 0
AreTexts messages = AllByRecursion (λ (m : Message). IsUtf8 m.key × IsUtf8 m.text) messages

-- what holds of each part: its name and its version are such, its texts are UTF-8, and its messages are in order
abbrev pub IsPart : Part → Type 0
IsPart (Impl name version script styles messages) =
    IsTrue (is_name name) × IsTrue (is_version version) × IsUtf8 script × IsUtf8 styles × AreTexts messages × AreAscending messages
IsPart (State name kind) = IsUtf8 name

-- what a part's line says is JSON: its arguments between brackets are read as they were written
abbrev pub ReadBack : Part → Type 0
ReadBack part = read (91 ∷ (arguments_text (arguments_of part) ++ 93 ∷ [])) ≡ Some (array_of (arguments_of part))

abbrev pub ArgumentsReadBack : Type 0
ArgumentsReadBack = (part : Part) → IsInOrder part → ReadBack part
