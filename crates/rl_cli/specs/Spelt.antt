-- A text as a person is shown it within a line: as a JSON string, of a long text the characters that have room, and `…`.
use Rattle.std.specs.Prelude.{ℕ, ◌+◌, ◌-◌, ◌/◌, ◌%◌, ◌++◌, ◌∷◌, [], ◌==◌, ◌&&◌, ◌||◌, Bool, nat_lt, nat_le}
use Rattle.std.specs.Prelude.{if◌then◌else◌, List, codes, encode_utf8}
use Rattle.std.specs.Char.{len_utf8}
use Rattle.std.specs.Str.{chars}
use Rattle.rl_view_spec.specs.Closure.{Text}

-- a control character, and none that a short escape has
abbrev pub is_control : ℕ → Bool
is_control c = nat_lt c 32 || (nat_le 127 c && nat_le c 159)

-- a digit of base 16
abbrev pub hex_digit : ℕ → ℕ
hex_digit n = if nat_lt n 10 then 48 + n else 87 + n

-- the number of a control character, in a JSON string
abbrev pub control_text : ℕ → Text
control_text c = codes "\\u00" ++ encode_utf8 (hex_digit (c / 16)) ++ encode_utf8 (hex_digit (c % 16))

-- a character as it stands in a JSON string: after a backslash, by a short escape, as the number of a control character,
-- or as it is
abbrev pub spelt_char : ℕ → Text
spelt_char c =
    if (c == 34) || (c == 92) then 92 ∷ c ∷ [] else
    if c == 8 then codes "\\b" else
    if c == 12 then codes "\\f" else
    if c == 10 then codes "\\n" else
    if c == 13 then codes "\\r" else
    if c == 9 then codes "\\t" else
    if is_control c then control_text c else
    encode_utf8 c

-- characters as long as their bytes have room, and `…` in place of the others
unfoldable pub spelt_within : ℕ → List ℕ → Text
spelt_within room [] = []
spelt_within room (c ∷ cs) = if nat_lt room (len_utf8 c) then 226 ∷ 128 ∷ 166 ∷ [] else spelt_char c ++ spelt_within (room - len_utf8 c) cs

-- between quotation marks, the characters within the first 200 bytes
abbrev pub quoted : Text → Text
quoted text = (34 ∷ [] ++ spelt_within 200 (chars text)) ++ 34 ∷ []

unfoldable pub spelt : Text → Text
spelt text = quoted text
