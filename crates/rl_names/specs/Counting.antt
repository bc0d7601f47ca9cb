-- The pieces of a packed text, counted from its end.
use Rattle.std.specs.Prelude.{ℕ, ◌+◌, Bool, false, not, ◌&&◌, ◌||◌, if◌then◌else◌, List, [], ◌∷◌}
use Rattle.rl_names.specs.Packing.{is_bar, is_comma, is_dot}

-- whether a dot stands in the rest of the group that a text begins with
abbrev pub has_dot : List ℕ → Bool
has_dot [] = false
has_dot (b ∷ bs) = not (is_bar b) && (is_dot b || has_dot bs)

-- whether a byte divides two pieces: a bar does, and a comma behind the last dot of its group
abbrev pub divides_pieces : ℕ → Bool → Bool
divides_pieces b before_dot = is_bar b || (is_comma b && not before_dot)

abbrev pub piece_count : List ℕ → ℕ
piece_count [] = 1
piece_count (b ∷ bs) = piece_count bs + (if divides_pieces b (has_dot bs) then 1 else 0)
