-- Who looks at a wiki, and whose a page is.
use Rattle.std.specs.Prelude.{◌≡◌, ℕ, ◌==◌, Bool, true, false, if◌then◌else◌, List, [], ◌∷◌, take, drop, position, nat_eq, bytes_eq}
use Rattle.std.specs.Prelude.{codes, Option, Some, None, option_map}
use Rattle.std.specs.List.{starts_with}
use Rattle.std.specs.Option.{option_map_or}
use Rattle.rl_names.specs.Title.{user_name_of}
use Rattle.rl_pages.specs.declared.viewer.Viewer.{Viewer}
use Rattle.rl_pages.specs.declared.viewer.Viewer.TheVariants.{Anon, User}
use Rattle.rl_pages.specs.declared.viewer.ViewerError.{ViewerError}
use Rattle.rl_pages.specs.declared.viewer.ViewerError.TheVariants.{BadUser, NoMemory}

-- the viewer that bytes name, if they name one: no bytes at all are nobody's
abbrev pub viewer_of : List ℕ → Option Viewer
viewer_of [] = Some Anon
viewer_of (b ∷ bs) = option_map User (user_name_of (b ∷ bs))

-- the refusal that an error tells; want of memory is none
abbrev pub viewer_refusal : ViewerError → Option ViewerError
viewer_refusal BadUser = Some BadUser
viewer_refusal NoMemory = None

-- a viewer as reading gives it
abbrev pub IsViewer : Viewer → Type 0
IsViewer Anon = Unit {0}
IsViewer (User name) = user_name_of name ≡ Some name

-- the viewer is the user of this name
abbrev pub is_user : Viewer → List ℕ → Bool
is_user Anon name = false
is_user (User user) name = bytes_eq user name

-- what stands before the first slash, if there is one
abbrev pub before_slash : List ℕ → Option (List ℕ)
before_slash text = option_map (λ at. take at text) (position (λ b. b == 47) text)

-- the user whose page a title names: what stands between `User:` and the first slash; any other page is nobody's own
abbrev pub owner_of : List ℕ → Option (List ℕ)
owner_of title = if starts_with nat_eq title (codes "User:") then before_slash (drop 5 title) else None

-- the pages of other users are not seen
abbrev pub is_seen_by : Viewer → List ℕ → Bool
is_seen_by viewer title = option_map_or (is_user viewer) (owner_of title) true
