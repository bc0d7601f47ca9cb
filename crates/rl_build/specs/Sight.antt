-- What a wiki is to a viewer: its definitions, and what is shown of its history.
use Rattle.std.specs.Prelude.{List}
use Rattle.rl_defs.specs.Catalogue.{Catalogue}
use Rattle.rl_pages.specs.declared.entry.Entry.{Entry}
use Rattle.rl_pages.specs.declared.viewer.Viewer.{Viewer}
use Rattle.rl_pages.specs.Seen.{Shown, shown}

-- Everything that a viewer gets is made of this alone.
pub record Sight : Type 0 where
  pub catalogue : Catalogue
  pub history : Shown

-- what a wiki of these definitions and this history is to a viewer
abbrev pub sight : Catalogue → List Entry → Viewer → Sight
sight c entries viewer = record { catalogue = c; history = shown entries viewer }
