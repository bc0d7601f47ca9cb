-- How modules are seen: in a language, with a skin, and debugged or not.
use Rattle.std.specs.Prelude.{ℕ, Bool, if◌then◌else◌, List, bytes_eq, codes}
use Rattle.std.specs.List.{list_any}
use Rattle.rl_defs.specs.Catalogue.{Catalogue}
use Rattle.rl_build.specs.declared.context.Context.{Context}

-- a language that the wiki has; in any other, texts show their keys, which is `qqx`
abbrev pub language_of : Catalogue → List ℕ → List ℕ
language_of c code = if list_any (λ l. bytes_eq l.code code) c.languages then code else codes "qqx"

-- a skin that the wiki has, and else `fallback`
abbrev pub skin_of : Catalogue → List ℕ → List ℕ
skin_of c name = if list_any (λ s. bytes_eq s name) c.skins then name else codes "fallback"

abbrev pub context_of : Catalogue → List ℕ → List ℕ → Bool → Context
context_of c lang skin debug = record { lang = language_of c lang; skin = skin_of c skin; debug = debug }
