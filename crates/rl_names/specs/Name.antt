-- Names, versions and key texts, as tests of a list of bytes.
use Rattle.std.specs.Prelude.{◌≡◌, ◌↔◌, ℕ, ◌&&◌, ◌||◌, ◌==◌, ◌++◌, ◌∷◌, if◌then◌else◌, List, Bool, not, nat_lt}
use Rattle.std.specs.Prelude.{nat_le, length, slice_index, position, Option, Some, None, Result, Ok, Err, IsTrue}
use Rattle.std.specs.List.{list_all}
use Rattle.std.specs.Option.{option_map_or}
use Rattle.rl_names.specs.declared.name.NameError.{NameError}
use Rattle.rl_names.specs.declared.name.NameError.TheVariants as errors

-- a visible ASCII byte other than '|', ',' and '!'
abbrev pub is_name_byte : ℕ → Bool
is_name_byte b = nat_le 33 b && nat_le b 126 && not (b == 124) && not (b == 44) && not (b == 33)

-- what names a module
abbrev pub is_name : List ℕ → Bool
is_name bytes = nat_le 1 (length bytes) && nat_le (length bytes) 255 && list_all is_name_byte bytes && not (slice_index bytes 0 == 46)

-- why bytes are no name
pub data NameFault : Type 0 where
  Empty : NameFault
  TooLong : (count : ℕ) → NameFault
  BadByte : (at : ℕ) → NameFault
  LeadingDot : NameFault

-- by the first of these that holds: there is none, there are too many, one may not stand in a name (the first of those
-- is told), or a dot is the first
abbrev pub name_fault : List ℕ → Option NameFault
name_fault bytes =
    if length bytes == 0 then Some Empty
    else (if nat_lt 255 (length bytes) then Some (TooLong (length bytes))
    else option_map_or (λ at. Some (BadByte at)) (position (λ b. not (is_name_byte b)) bytes)
    (if slice_index bytes 0 == 46 then Some LeadingDot else None))

-- the name that bytes are, or why they are none
abbrev pub name_of : List ℕ → Result (List ℕ) NameFault
name_of bytes = option_map_or Err (name_fault bytes) (Ok bytes)

-- the fault that an error tells
abbrev pub fault_told : NameError → Option NameFault
fault_told errors.Empty = Some Empty
fault_told (errors.TooLong count) = Some (TooLong count)
fault_told (errors.BadByte at) = Some (BadByte at)
fault_told errors.LeadingDot = Some LeadingDot
fault_told errors.NoMemory = None

-- what has no fault is a name, and nothing else
abbrev pub NamesAreFaultless : Type 0
NamesAreFaultless = (bytes : List ℕ) → (name_fault bytes ≡ None) ↔ IsTrue (is_name bytes)

-- a digit or a small letter
abbrev pub is_version_byte : ℕ → Bool
is_version_byte b = (nat_le 48 b && nat_le b 57) || (nat_le 97 b && nat_le b 122)

abbrev pub is_version : List ℕ → Bool
is_version bytes = (length bytes == 5) && list_all is_version_byte bytes

-- a name, '@' and a version
abbrev pub key_text : List ℕ → List ℕ → List ℕ
key_text name version = name ++ 64 ∷ version
