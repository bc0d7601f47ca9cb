-- How names are put into groups one after another, and how a group is written.
use Rattle.std.specs.Prelude.{ℕ, zero, suc, List, [], ◌∷◌, ◌++◌, map}
use Rattle.std.specs.List.{join_with_byte}
use Rattle.rl_names.specs.Packing.{front_of, suffix_of}

-- one more name in the group at a place, or in a new group at the end
abbrev pub put_at : List (List (List ℕ)) → ℕ → List ℕ → List (List (List ℕ))
put_at [] place name = (name ∷ []) ∷ []
put_at (group ∷ groups) zero name = (group ++ name ∷ []) ∷ groups
put_at (group ∷ groups) (suc place) name = group ∷ put_at groups place name

-- the front of the first name, which all of a group have
abbrev pub front_of_all : List (List ℕ) → List ℕ
front_of_all [] = []
front_of_all (name ∷ names) = front_of name

abbrev pub group_written : List (List ℕ) → List ℕ
group_written names = front_of_all names ++ join_with_byte 44 (map suffix_of names)
