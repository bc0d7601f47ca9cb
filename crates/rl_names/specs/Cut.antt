-- A text cut at its last byte of a kind, as a name is at its last dot and a key at its last `@`.
use Rattle.std.specs.Prelude.{ℕ, ◌-◌, Bool, if◌then◌else◌, List, [], ◌∷◌, length, take}
use Rattle.std.specs.List.{list_any}

-- what stands up to the last byte that passes, with it; nothing where none passes
abbrev pub front_by : (ℕ → Bool) → List ℕ → List ℕ
front_by p [] = []
front_by p (b ∷ bs) = if list_any p (b ∷ bs) then b ∷ front_by p bs else []

-- what stands after the last byte that passes, or all where none passes
abbrev pub suffix_by : (ℕ → Bool) → List ℕ → List ℕ
suffix_by p [] = []
suffix_by p (b ∷ bs) = if list_any p (b ∷ bs) then suffix_by p bs else b ∷ bs

-- what stands before the last byte that passes; nothing where none passes
abbrev pub before_by : (ℕ → Bool) → List ℕ → List ℕ
before_by p bytes = take (length (front_by p bytes) - 1) bytes
