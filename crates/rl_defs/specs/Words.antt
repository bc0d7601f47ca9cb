-- The names of modules and skins in a definitions file.
use Rattle.std.specs.Prelude.{ℕ, Bool, ◌&&◌, ◌||◌, ◌==◌, not, nat_le, nat_eq, List, [], ◌∷◌, length, bytes_eq, codes}
use Rattle.std.specs.List.{list_any, list_all, starts_with}
use Rattle.rl_names.specs.Name.{is_name}

-- small letters, digits and the dash
abbrev pub is_word_byte : ℕ → Bool
is_word_byte b = (nat_le 97 b && nat_le b 122) || (nat_le 48 b && nat_le b 57) || (b == 45)

-- a skin: 1 to 40 such bytes, and neither of the two words with a meaning of their own
abbrev pub is_skin : List ℕ → Bool
is_skin name =
    nat_le 1 (length name) && nat_le (length name) 40 && list_all is_word_byte name
    && not (bytes_eq name (codes "default") || bytes_eq name (codes "fallback"))

-- the modules that every wiki has
abbrev pub built_in : List (List ℕ)
built_in = codes "site" ∷ codes "site.styles" ∷ codes "user" ∷ codes "user.styles" ∷ codes "user.options" ∷ []

abbrev pub is_built_in : List ℕ → Bool
is_built_in name = list_any (bytes_eq name) built_in

-- the names that gadgets have
abbrev pub is_gadget : List ℕ → Bool
is_gadget name = starts_with nat_eq name (codes "ext.gadget.")

-- a name that a definitions file may give to a module
abbrev pub is_definable : List ℕ → Bool
is_definable name = is_name name && not (bytes_eq name (codes "startup") || is_built_in name || is_gadget name)
