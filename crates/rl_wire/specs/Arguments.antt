-- The arguments of a line, read as JSON.
use Rattle.std.specs.Prelude.{ℕ, ◌+◌, ◌-◌, ◌==◌, ◌^◌, min, Bool, nat_le, if◌then◌else◌, List, [], ◌∷◌, ◌++◌, length, take}
use Rattle.std.specs.Prelude.{drop, Option, Some, None, option_and_then, option_map, ◌≡◌, Result, Err}
use Rattle.std.specs.Str.{is_utf8}
use Rattle.serde_json.specs.Data.{Data, Items, no_items, item}
use Rattle.serde_json.specs.Read.{read}
use Rattle.serde_json.specs.Find.{as_array}
use Rattle.rl_wire.specs.declared.error.WireError.{WireError}
use Rattle.rl_wire.specs.declared.error.WireError.TheVariants.{BadLine, NoMemory}

infixl 10 ◌>>=◌
abbrev pub ◌>>=◌ : {A B : Type 0} → Option A → (A → Option B) → Option B
o >>= f = option_and_then f o

abbrev pub listed : Items → List Data
listed no_items = []
listed (item d ds) = d ∷ listed ds

-- the values in the JSON array that a text is
abbrev pub list_in : List ℕ → Option (List Data)
list_in text = option_map listed ((if is_utf8 text then read text else None) >>= as_array)

-- the arguments of a call: what stands behind so many bytes, but for the last two
abbrev pub arguments_in : ℕ → List ℕ → Option (List Data)
arguments_in front text = if nat_le (front + 2) (length text) then list_in (91 ∷ (take (length text - 2 - front) (drop front text) ++ 93 ∷ [])) else None

abbrev pub first : List Data → Option Data
first [] = None
first (d ∷ ds) = Some d

abbrev pub is_line_end : ℕ → Bool
is_line_end b = b == 10

-- the number of a line as a refusal tells it
abbrev pub capped : ℕ → ℕ
capped number = min number (2 ^ 32 - 1)

-- the number that a refusal tells; want of memory tells none
abbrev pub line_told : WireError → Option ℕ
line_told (BadLine number) = Some number
line_told NoMemory = None

-- a number tells the bad line, as far as that one's number fits
abbrev pub TellsLine : {A : Type 0} → Result A ℕ → ℕ → Type 0
TellsLine said number = (bad : ℕ) × (said ≡ Err bad) × (number ≡ capped bad)
