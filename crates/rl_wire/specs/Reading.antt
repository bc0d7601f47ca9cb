-- What answers say. The arguments of a line are read as JSON, and a line counts only where the part that they make is
-- written just so.
use Rattle.std.specs.Prelude.{◌≡◌, ◌≢◌, ℕ, ◌+◌, nat_eq, if◌then◌else◌, List, [], ◌∷◌, ◌++◌, length, bytes_eq, codes, Option}
use Rattle.std.specs.Prelude.{Some, None, option_map, option_to_list, Result, Ok, Err}
use Rattle.std.specs.List.{AllByRecursion, slice_split, starts_with}
use Rattle.std.specs.Option.{option_map_or}
use Rattle.std.specs.Result.{result_ok}
use Rattle.serde_json.specs.Data.{Data, Members, no_members, member}
use Rattle.serde_json.specs.Find.{as_object, as_str, at, get}
use Rattle.rl_names.specs.Key.{key_of}
use Rattle.rl_names.specs.declared.name.Key.{Key}
use Rattle.rl_names.specs.declared.part.Message.{Message}
use Rattle.rl_names.specs.declared.kind.StateKind.{StateKind}
use Rattle.rl_names.specs.declared.kind.StateKind.TheVariants.{Missing, Error}
use Rattle.rl_wire.specs.declared.part.Part.{Part}
use Rattle.rl_wire.specs.declared.part.Part.TheVariants.{Impl, State}
use Rattle.rl_wire.specs.Line.{line, part_text, wire_text, IsPart}
use Rattle.rl_wire.specs.Arguments.{◌>>=◌, arguments_in, is_line_end}

-- ---- parts of arguments

abbrev pub key_in : Data → Option Key
key_in d = as_str d >>= λ text. result_ok (key_of text)

-- the text under `css`, and none where nothing stands there
abbrev pub styles_in : Data → Option (List ℕ)
styles_in d = option_map_or (λ list. at 0 list >>= as_str) (get (codes "css") d) (Some [])

-- the texts of an object, under their keys
abbrev pub messages_among : Members → List Message
messages_among no_members = []
messages_among (member key d ms) = option_to_list (option_map (λ text. record { key = key; text = text }) (as_str d)) ++ messages_among ms

abbrev pub implementation_by : Data → Data → Data → Data → Option Part
implementation_by key script styles messages =
    key_in key >>= λ keyed. as_str script >>= λ text. styles_in styles >>= λ css. as_object messages >>= λ ms. Some
    (Impl keyed.name keyed.version text css (messages_among ms))

abbrev pub implementation_in : List Data → Option Part
implementation_in (key ∷ script ∷ styles ∷ messages ∷ []) = implementation_by key script styles messages
implementation_in other = None

abbrev pub kind_named : List ℕ → Option StateKind
kind_named word = if bytes_eq word (codes "missing") then Some Missing else (if bytes_eq word (codes "error") then Some Error else None)

-- the state that the first member of an object gives
abbrev pub state_by : Members → Option Part
state_by no_members = None
state_by (member name d ms) = as_str d >>= λ word. option_map (State name) (kind_named word)

abbrev pub state_in : List Data → Option Part
state_in (d ∷ []) = as_object d >>= state_by
state_in other = None

-- ---- lines

-- the part, where the line is spelt as it is
abbrev pub spelt : List ℕ → Part → Option Part
spelt text part = if bytes_eq (part_text part) text then Some part else None

-- what the line says if it brings a module; what it says otherwise
abbrev pub candidate : List ℕ → Option Part
candidate text =
    if starts_with nat_eq text (codes "mw.loader.implement(") then arguments_in 20 text >>= implementation_in else arguments_in 16 text >>= state_in

-- the part whose line a text is, without its end
abbrev pub part_in : List ℕ → Option Part
part_in text = candidate text >>= spelt text

-- a part, and then what other lines say
abbrev pub and_more : Part → Result (List Part) ℕ → Result (List Part) ℕ
and_more part (Ok parts) = Ok (part ∷ parts)
and_more part (Err number) = Err number

-- what a line says of this number, and then what the others say
abbrev pub said_by : ℕ → Option Part → Result (List Part) ℕ → Result (List Part) ℕ
said_by number None later = Err number
said_by number (Some part) later = and_more part later

-- behind the last line end nothing stands
abbrev pub at_end : ℕ → List ℕ → Result (List Part) ℕ
at_end number [] = Ok []
at_end number (b ∷ bs) = Err number

-- the parts of a line of this number and those that follow it, or the number of the first that is no part's line with its
-- end
abbrev pub parts_from : ℕ → List ℕ → List (List ℕ) → Result (List Part) ℕ
parts_from number text [] = at_end number text
parts_from number text (next ∷ texts) = said_by number (part_in text) (parts_from (number + 1) next texts)

abbrev pub of_lines : ℕ → List (List ℕ) → Result (List Part) ℕ
of_lines number [] = Ok []
of_lines number (text ∷ texts) = parts_from number text texts

-- the parts of an answer, or the number of the first bad line, counted from 1
abbrev pub answer_of : List ℕ → Result (List Part) ℕ
answer_of bytes = of_lines 1 (slice_split is_line_end bytes)

-- ---- laws

-- a line says its part, no other text says it, a text that says none is the line of none, and no two parts have one line
pub record LinesSayParts : Type 0 where
  pub written : (part : Part) → IsPart part → part_in (part_text part) ≡ Some part
  pub alone : (text : List ℕ) (part : Part) → part_in text ≡ Some part → part_text part ≡ text
  pub none : (text : List ℕ) → part_in text ≡ None → (part : Part) → IsPart part → part_text part ≢ text
  pub once : (a b : Part) → IsPart a → IsPart b → part_text a ≡ part_text b → a ≡ b

-- the rest of an answer begins with no line of a part, though something stands there
abbrev pub IsBad : List ℕ → Type 0
IsBad rest = (rest ≢ []) × ((part : Part) (more : List ℕ) → IsPart part → rest ≢ line (part_text part) ++ more)

-- an answer says its parts, no other text says them, no two lists have one text, and of any other text the first bad line
-- is told
pub record AnswersSayParts : Type 0 where
  pub written : (parts : List Part) → AllByRecursion IsPart parts → answer_of (wire_text parts) ≡ Ok parts
  pub alone : (bytes : List ℕ) (parts : List Part) → answer_of bytes ≡ Ok parts → wire_text parts ≡ bytes
  pub once : (a b : List Part) → AllByRecursion IsPart a → AllByRecursion IsPart b → wire_text a ≡ wire_text b → a ≡ b
  pub bad : (bytes : List ℕ) (number : ℕ) → answer_of bytes ≡ Err number
      → (parts : List Part) × (rest : List ℕ) × (bytes ≡ wire_text parts ++ rest) × (number ≡ length parts + 1) × IsBad rest
