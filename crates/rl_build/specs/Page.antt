-- The pages that built-in modules are made of, as they are shown to a viewer.
use Rattle.std.specs.Prelude.{ℕ, List, [], ◌∷◌, ◌++◌, flat_map, codes, Option, option_and_then}
use Rattle.std.specs.Char.{to_ascii_uppercase}
use Rattle.std.specs.Option.{option_map_or}
use Rattle.rl_names.specs.Title.{title_of}
use Rattle.rl_wire.specs.Line.{line}
use Rattle.rl_pages.specs.declared.viewer.Viewer.{Viewer}
use Rattle.rl_pages.specs.declared.viewer.Viewer.TheVariants.{Anon, User}
use Rattle.rl_pages.specs.Seen.{Shown, page_in}

-- the text of the page whose title bytes spell, where it is shown
abbrev pub page_at : Shown → List ℕ → Option (List ℕ)
page_at s bytes = option_and_then (page_in s) (title_of bytes)

-- the text of a page and a line end behind it; a page that is not there gives nothing
abbrev pub page_lines : Shown → List ℕ → List ℕ
page_lines s bytes = option_map_or line (page_at s bytes) []

-- the texts of these pages in order; one that is named twice stands twice
abbrev pub pages_joined : Shown → List (List ℕ) → List ℕ
pages_joined s titles = flat_map (page_lines s) titles

-- with the first byte in upper case, where it is a small letter
abbrev pub upper_first : List ℕ → List ℕ
upper_first [] = []
upper_first (b ∷ bs) = to_ascii_uppercase b ∷ bs

-- the scripts of the site: for every skin, and for this one
abbrev pub site_page : List ℕ → List ℕ
site_page skin = codes "MediaWiki:" ++ (upper_first skin ++ codes ".js")

abbrev pub site_pages : List ℕ → List (List ℕ)
site_pages skin = codes "MediaWiki:Common.js" ∷ site_page skin ∷ []

-- those of a user; nobody has none
abbrev pub own_page : List ℕ → List ℕ → List ℕ
own_page name page = codes "User:" ++ (name ++ (codes "/" ++ (page ++ codes ".js")))

abbrev pub own_pages : Viewer → List ℕ → List (List ℕ)
own_pages Anon skin = []
own_pages (User name) skin = own_page name (codes "common") ∷ own_page name skin ∷ []
