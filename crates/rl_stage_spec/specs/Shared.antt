-- What is stored serves every viewer: what a wiki builds of a module that is nobody's own is the same for all of them.
use Rattle.std.specs.Prelude.{◌≡◌, ◌||◌, List, Bool, not, bytes_eq, codes, Some, Ok, IsTrue}
use Rattle.std.specs.List.{list_all}
use Rattle.rl_defs.specs.Breach.{reading}
use Rattle.rl_defs.specs.Catalogue.{Catalogue}
use Rattle.rl_defs.specs.Words.{is_skin}
use Rattle.rl_build.specs.Context.{context_of}
use Rattle.rl_build.specs.Sheet.{sheet_of}
use Rattle.rl_build.specs.Sight.{sight}
use Rattle.rl_build.specs.declared.context.Context.{Context}
use Rattle.rl_build.specs.declared.sheets.Sheet.{Sheet}
use Rattle.rl_loadphp.specs.Body.{implementation_of}
use Rattle.rl_pages.specs.declared.entry.Entry.{Entry}
use Rattle.rl_pages.specs.declared.viewer.Viewer.{Viewer}
use Rattle.rl_view_spec.specs.Closure.{Text}
use Rattle.rl_stage_spec.specs.Session.{vary_of}

-- ---- equal vary texts

-- each skin is a word of small letters, digits and dashes
abbrev pub HasSkins : Catalogue → Type 0
HasSkins c = IsTrue (list_all is_skin c.skins)

-- so it is of every definitions file that is read
abbrev pub ReadHasSkins : Type 0
ReadHasSkins = (bytes : Text) (c : Catalogue) → reading bytes ≡ Ok c → HasSkins c

-- a context that the wiki has
abbrev pub IsContext : Catalogue → Context → Type 0
IsContext c ctx = (lang skin : Text) × (debug : Bool) × (ctx ≡ context_of c lang skin debug)

-- contexts for which the same is stored have one skin and one language
abbrev pub VaryTells : Type 0
VaryTells =
    (c : Catalogue) → HasSkins c → (one other : Context) → IsContext c one → IsContext c other → vary_of c one ≡ vary_of c other
    → (one.skin ≡ other.skin) × (one.lang ≡ other.lang)

-- ---- the same for all

-- neither a user's own nor private
abbrev pub is_shared : Text → Bool
is_shared group = not (bytes_eq group (codes "user") || bytes_eq group (codes "private"))

-- of a module whose group is so the same is built for each viewer, and in all contexts of one skin
abbrev pub SharedIsForAll : Type 0
SharedIsForAll =
    (c : Catalogue) (entries : List Entry) (viewer other : Viewer) (ctx alike : Context) → ctx.skin ≡ alike.skin → (name : Text) (sheet : Sheet)
    → sheet_of (sight c entries viewer) ctx name ≡ Some sheet → IsTrue (is_shared sheet.group)
    → implementation_of (sight c entries viewer) ctx name ≡ implementation_of (sight c entries other) alike name
