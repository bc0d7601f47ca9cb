-- What the words of a call ask for.
use Rattle.std.specs.Prelude.{ℕ, List, [], ◌∷◌, Bool, not, if◌then◌else◌, bytes_eq, codes, map, slice_index_or, Option, Some, None}
use Rattle.std.specs.Prelude.{option_map}
use Rattle.std.specs.Borrow.{Bor}
use Rattle.std.specs.Option.{option_or}
use Rattle.rl_names.specs.Title.{user_name_of}
use Rattle.rl_pages.specs.declared.viewer.Viewer.{Viewer}
use Rattle.rl_pages.specs.declared.viewer.Viewer.TheVariants.{Anon, User}
use Rattle.rl_view_spec.specs.Closure.{Text}

-- A command, with those of its words that name no file: whether it has a file of pages, and who looks at the wiki.
pub data Command : Type 0 where
  Drive : Command
  Load : (paged : Bool) (viewer : Viewer) (query : Text) → Command
  Startup : (paged : Bool) (viewer : Viewer) (lang skin : Text) → Command
  Check : (paged : Bool) → Command

-- `drive SCRIPT`
abbrev pub drive_of : List Text → Option Command
drive_of (word ∷ script ∷ []) = if bytes_eq word (codes "drive") then Some Drive else None
drive_of other = None

-- `-` for no file of pages
abbrev pub is_file : Text → Bool
is_file pages = not (bytes_eq pages (codes "-"))

-- `-` for a viewer who is nobody; every other viewer is named by the rule of user names
abbrev pub viewer_named : Text → Option Viewer
viewer_named word = if bytes_eq word (codes "-") then Some Anon else option_map User (user_name_of word)

-- `load DEFS PAGES VIEWER QUERY`
abbrev pub load_of : List Text → Option Command
load_of (word ∷ definitions ∷ pages ∷ viewer ∷ query ∷ []) =
    if bytes_eq word (codes "load") then option_map (λ who. Load (is_file pages) who query) (viewer_named viewer) else None
load_of other = None

-- `startup DEFS PAGES VIEWER LANG SKIN`
abbrev pub startup_of : List Text → Option Command
startup_of (word ∷ definitions ∷ pages ∷ viewer ∷ lang ∷ skin ∷ []) =
    if bytes_eq word (codes "startup") then option_map (λ who. Startup (is_file pages) who lang skin) (viewer_named viewer) else None
startup_of other = None

-- `check DEFS PAGES`
abbrev pub check_of : List Text → Option Command
check_of (word ∷ definitions ∷ pages ∷ []) = if bytes_eq word (codes "check") then Some (Check (is_file pages)) else None
check_of other = None

-- no other words are a command
abbrev pub command_of : List Text → Option Command
command_of words = option_or (drive_of words) (option_or (load_of words) (option_or (startup_of words) (check_of words)))

-- the places of the definitions and of the pages
abbrev pub files_with : Bool → List ℕ
files_with paged = if paged then 1 ∷ 2 ∷ [] else 1 ∷ []

-- The places of the words that name the files of a command, in their order. The word of the command has place 0.
abbrev pub files_of : Command → List ℕ
files_of Drive = 1 ∷ []
files_of (Load paged viewer query) = files_with paged
files_of (Startup paged viewer lang skin) = files_with paged
files_of (Check paged) = files_with paged

-- the word of a place
abbrev pub word_at : List Text → ℕ → Text
word_at words place = slice_index_or words place []

-- the names of the files at these places
abbrev pub names_at : List Text → List ℕ → List Text
names_at words places = map (word_at words) places

-- the words of a call
abbrev pub texts : List (Bor Text) → List Text
texts words = map (λ word. word.now) words
