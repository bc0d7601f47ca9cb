-- What a sink holds, where it is told.
use Rattle.std.specs.Prelude.{ℕ, ◌++◌, List, take, Option, option_map}

-- what was written, and after it a text
abbrev pub appended : Option (List ℕ) → List ℕ → Option (List ℕ)
appended written text = option_map (λ before. before ++ text) written

-- what was written, and after it the first bytes of a piece
abbrev pub and_front : Option (List ℕ) → ℕ → List ℕ → Option (List ℕ)
and_front written count piece = appended written (take count piece)
