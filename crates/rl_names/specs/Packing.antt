-- A list of names in one text, grouped by what stands before the last dot.
use Rattle.std.specs.Prelude.{◌≡◌, ℕ, ◌<◌, Bool, not, ◌==◌, List, [], ◌∷◌, ◌++◌, length, map, filter, flat_map, IsTrue, bytes_eq}
use Rattle.std.specs.List.{list_all, slice_split, join_with_byte}
use Rattle.rl_names.specs.Cut.{front_by, suffix_by}
use Rattle.rl_names.specs.Name.{is_name}

abbrev pub is_dot : ℕ → Bool
is_dot b = b == 46

abbrev pub is_comma : ℕ → Bool
is_comma b = b == 44

abbrev pub is_bar : ℕ → Bool
is_bar b = b == 124

-- the front of a name: what stands up to its last dot, with the dot; nothing where it has no dot
abbrev pub front_of : List ℕ → List ℕ
front_of name = front_by is_dot name

-- its suffix: what stands after the last dot, or all where it has none
abbrev pub suffix_of : List ℕ → List ℕ
suffix_of name = suffix_by is_dot name

-- each text once, at its first place
abbrev pub distinct : List (List ℕ) → List (List ℕ)
distinct [] = []
distinct (x ∷ xs) = x ∷ filter (λ y. not (bytes_eq x y)) (distinct xs)

abbrev pub fronts : List (List ℕ) → List (List ℕ)
fronts names = distinct (map front_of names)

-- the names with this front, in their order
abbrev pub group_of : List (List ℕ) → List ℕ → List (List ℕ)
group_of names front = filter (λ name. bytes_eq front (front_of name)) names

-- the names, group by group, in the order in which their fronts first appear
abbrev pub packed_order : List (List ℕ) → List (List ℕ)
packed_order names = flat_map (group_of names) (fronts names)

-- a group: the front once, and the suffixes with commas between them
abbrev pub group_text : List (List ℕ) → List ℕ → List ℕ
group_text names front = front ++ join_with_byte 44 (map suffix_of (group_of names front))

-- the groups, with bars between them
abbrev pub pack : List (List ℕ) → List ℕ
pack names = join_with_byte 124 (map (group_text names) (fronts names))

-- the names that a group stands for: each part between the commas, behind the front
abbrev pub expand_group : List ℕ → List (List ℕ)
expand_group group = map (λ part. front_of group ++ part) (slice_split is_comma (suffix_of group))

abbrev pub expand : List ℕ → List (List ℕ)
expand text = flat_map expand_group (slice_split is_bar text)

abbrev pub AreNames : List (List ℕ) → Type 0
AreNames names = IsTrue (list_all is_name names)

-- what was packed is read again, in packed order, for every list of names that is not empty
abbrev pub PackingIsReadAgain : Type 0
PackingIsReadAgain = (names : List (List ℕ)) → 0 < length names → AreNames names → expand (pack names) ≡ packed_order names
