-- How a line is cut into words. A space is the byte 32 alone.
use Rattle.std.specs.Prelude.{ℕ, ◌-◌, ◌==◌, Bool, if◌then◌else◌, List, length, take, drop, map}
use Rattle.std.specs.Prelude.{nat_lt, Option, Some, None}
use Rattle.std.specs.List.{prefix_len, suffix_len, position_or_len, before_first, after_first, slice_split}

abbrev pub is : ℕ → ℕ → Bool
is byte b = b == byte

-- what stands behind all such bytes at the front, and before all such bytes at the end
abbrev pub behind_all : ℕ → List ℕ → List ℕ
behind_all byte text = drop (prefix_len (is byte) text) text

abbrev pub before_all : ℕ → List ℕ → List ℕ
before_all byte text = take (length text - suffix_len (is byte) text) text

-- without the spaces at both ends
abbrev pub trimmed : List ℕ → List ℕ
trimmed text = before_all 32 (behind_all 32 text)

-- the pieces between such bytes, each without the spaces at its ends
abbrev pub words : ℕ → List ℕ → List (List ℕ)
words byte text = map trimmed (slice_split (is byte) text)

-- whether such a byte stands in a text
abbrev pub has : ℕ → List ℕ → Bool
has byte text = nat_lt (position_or_len (is byte) text) (length text)

-- what stands before the first such byte and behind it, where one stands there
abbrev pub cut_at : ℕ → List ℕ → Option (List ℕ × List ℕ)
cut_at byte text = if has byte text then Some (before_first (is byte) text, after_first (is byte) text) else None

-- a text from the first byte that passes on
abbrev pub from_first : (ℕ → Bool) → List ℕ → List ℕ
from_first test text = drop (position_or_len test text) text
