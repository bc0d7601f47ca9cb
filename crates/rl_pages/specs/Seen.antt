-- What a viewer sees of the history of a wiki: all but the pages and the options of other users.
use Rattle.std.specs.Prelude.{◌≡◌, ℕ, Bool, if◌then◌else◌, List, [], filter, Option, None}
use Rattle.rl_names.specs.declared.part.Message.{Message}
use Rattle.rl_pages.specs.declared.viewer.Viewer.{Viewer}
use Rattle.rl_pages.specs.declared.viewer.Viewer.TheVariants.{Anon, User}
use Rattle.rl_pages.specs.declared.entry.Entry.{Entry}
use Rattle.rl_pages.specs.declared.entry.Entry.TheVariants.{Edit, Choice}
use Rattle.rl_pages.specs.Viewer.{is_user, is_seen_by}
use Rattle.rl_pages.specs.History.{page_of, options_of}

abbrev pub sees : Viewer → Entry → Bool
sees viewer (Edit by title text) = is_seen_by viewer title
sees viewer (Choice user key value) = is_user viewer user

abbrev pub seen : Viewer → List Entry → List Entry
seen viewer entries = filter (sees viewer) entries

-- what a wiki shows to a viewer: from this alone texts are built
pub record Shown : Type 0 where
  pub viewer : Viewer
  pub entries : List Entry

abbrev pub shown : List Entry → Viewer → Shown
shown entries viewer = record { viewer = viewer; entries = seen viewer entries }

-- the text of a page that is shown
abbrev pub page_in : Shown → List ℕ → Option (List ℕ)
page_in s title = page_of s.entries title

-- the options of the viewer; nobody has none
abbrev pub options_by : Viewer → List Entry → List Message
options_by Anon entries = []
options_by (User name) entries = options_of entries name

abbrev pub options_in : Shown → List Message
options_in s = options_by s.viewer s.entries

-- What is seen is as it is in the whole history, and seeing twice is seeing once.
pub record SeenLaws : Type 0 where
  -- a page that is seen has its text, and any other has none
  pub pages : (viewer : Viewer) (entries : List Entry) (title : List ℕ)
      → page_of (seen viewer entries) title ≡ (if is_seen_by viewer title then page_of entries title else None)
  -- a viewer sees all of their own options
  pub options : (viewer : Viewer) (entries : List Entry) → options_by viewer (seen viewer entries) ≡ options_by viewer entries
  pub again : (viewer : Viewer) (entries : List Entry) → seen viewer (seen viewer entries) ≡ seen viewer entries
