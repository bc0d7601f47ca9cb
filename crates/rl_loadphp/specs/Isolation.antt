-- What a viewer may not see changes no answer.
use Rattle.std.specs.Prelude.{◌≡◌, ℕ, if◌then◌else◌, List, Option, Some, None, option_and_then, bytes_eq, codes}
use Rattle.std.specs.List.{AllByRecursion}
use Rattle.rl_defs.specs.Catalogue.{Catalogue, file_of, module_named}
use Rattle.rl_defs.specs.declared.module_def.ModuleDef.{ModuleDef}
use Rattle.rl_pages.specs.declared.entry.Entry.{Entry}
use Rattle.rl_pages.specs.declared.viewer.Viewer.{Viewer}
use Rattle.rl_pages.specs.Seen.{seen}
use Rattle.rl_build.specs.declared.context.Context.{Context}
use Rattle.rl_build.specs.Sight.{sight}
use Rattle.rl_loadphp.specs.Answer.{answer_of}
use Rattle.rl_loadphp.specs.Embed.{embed_of}

-- a module unless it is private
abbrev pub if_public : ModuleDef → Option ModuleDef
if_public m = if bytes_eq m.group (codes "private") then None else Some m

-- the module of a name, where there is one and it is not private
abbrev pub public_module : Catalogue → List ℕ → Option ModuleDef
public_module c name = option_and_then if_public (module_named c name)

-- Two catalogues differ in private modules alone, and in what those alone list: both have the same languages and skins,
-- the same modules that are not private, and for these the same texts of files.
pub record DifferInPrivate (c d : Catalogue) : Type 0 where
  pub languages : c.languages ≡ d.languages
  pub skins : c.skins ≡ d.skins
  pub modules : (name : List ℕ) → public_module c name ≡ public_module d name
  pub files : (name : List ℕ) (m : ModuleDef) → public_module c name ≡ Some m → AllByRecursion (λ file. file_of c file ≡ file_of d file) m.scripts

-- then every query of every viewer has the same answer
abbrev pub PrivateIsUnseen : Type 0
PrivateIsUnseen = (c d : Catalogue) → DifferInPrivate c d → (entries : List Entry) (viewer : Viewer) (query : List ℕ)
    → answer_of (sight c entries viewer) query ≡ answer_of (sight d entries viewer) query

-- Of a wiki's history an answer tells a viewer nothing but what that viewer sees.
abbrev pub AnswersAreSeen : Type 0
AnswersAreSeen = (c : Catalogue) (entries others : List Entry) (viewer : Viewer) → seen viewer entries ≡ seen viewer others → (query : List ℕ)
    → answer_of (sight c entries viewer) query ≡ answer_of (sight c others viewer) query

-- nor does the text that is embedded in a page of that viewer
abbrev pub EmbedsAreSeen : Type 0
EmbedsAreSeen = (c : Catalogue) (entries others : List Entry) (viewer : Viewer) → seen viewer entries ≡ seen viewer others → (ctx : Context)
    → embed_of (sight c entries viewer) ctx ≡ embed_of (sight c others viewer) ctx
