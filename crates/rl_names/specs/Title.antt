-- The titles of pages and the names of users.
use Rattle.std.specs.Prelude.{ℕ, ◌&&◌, ◌||◌, ◌==◌, ◌∷◌, [], if◌then◌else◌, List, Bool, true, false, not, nat_le, length, filter}
use Rattle.std.specs.Prelude.{flat_map, Option, Some, None}
use Rattle.std.specs.List.{join_with_byte, list_all, list_any, slice_split}
use Rattle.std.specs.Str.{is_utf8}
use Rattle.rl_names.specs.declared.title.TitleError.{TitleError}
use Rattle.rl_names.specs.declared.title.TitleError.TheVariants as errors
use Rattle.rl_names.specs.declared.user_name.UserNameError.{UserNameError}
use Rattle.rl_names.specs.declared.user_name.UserNameError.TheVariants as user_errors

abbrev pub is_space : ℕ → Bool
is_space b = b == 32

abbrev pub is_underscore : ℕ → Bool
is_underscore b = b == 95

abbrev pub is_filled : List ℕ → Bool
is_filled [] = false
is_filled (b ∷ bs) = true

-- the words of a title: an underscore divides them as a space does
abbrev pub words : List ℕ → List (List ℕ)
words bytes = filter is_filled (flat_map (slice_split is_space) (slice_split is_underscore bytes))

-- its words with one space between: runs of spaces become one, and those at both ends are dropped
abbrev pub spaced : List ℕ → List ℕ
spaced bytes = join_with_byte 32 (words bytes)

-- no control character, and none of `# < > [ ] { } |`
abbrev pub is_title_byte : ℕ → Bool
is_title_byte b =
    nat_le 32 b && not (b == 127) && not (b == 35 || b == 60 || b == 62 || b == 91 || b == 93 || b == 123 || b == 125 || b == 124)

-- 1 to 255 such bytes
abbrev pub is_title : List ℕ → Bool
is_title text = nat_le 1 (length text) && nat_le (length text) 255 && list_all is_title_byte text

-- a title of at most 85 bytes without a slash
abbrev pub is_user_name : List ℕ → Bool
is_user_name text = is_title text && nat_le (length text) 85 && not (list_any (λ b. b == 47) text)

-- the title that bytes spell, as it is kept, if they spell one
abbrev pub title_of : List ℕ → Option (List ℕ)
title_of bytes = if is_utf8 bytes && is_title (spaced bytes) then Some (spaced bytes) else None

-- the user name that bytes spell, as it is kept, if they spell one
abbrev pub user_name_of : List ℕ → Option (List ℕ)
user_name_of bytes = if is_utf8 bytes && is_user_name (spaced bytes) then Some (spaced bytes) else None

-- whether an error says that bytes spell no title; want of memory does not
abbrev pub no_title_told : TitleError → Option (Unit {0})
no_title_told errors.BadTitle = Some tt
no_title_told errors.NoMemory = None

-- whether an error says that bytes spell no user name; want of memory does not
abbrev pub no_user_name_told : UserNameError → Option (Unit {0})
no_user_name_told user_errors.BadUserName = Some tt
no_user_name_told user_errors.NoMemory = None
