-- Texts of pages, as they are shown.
use Rattle.std.proofs.Common.{◌≡◌, ℕ, List, [], ◌∷◌, ◌++◌, Option, None, sym, ap, ◌∙◌, append-nil}
use Rattle.std.specs.Prelude.{option_and_then}
use Rattle.std.specs.Option.{option_map_or}
use Rattle.rl_names.specs.Title.{title_of}
use Rattle.rl_wire.specs.Line.{line}
use Rattle.rl_pages.specs.declared.entry.Entry.{Entry}
use Rattle.rl_pages.specs.declared.viewer.Viewer.{Viewer}
use Rattle.rl_pages.specs.declared.viewer.Viewer.TheVariants.{User}
use Rattle.rl_pages.specs.History.{options_of}
use Rattle.rl_pages.specs.Seen.{Shown, options_in, page_in, shown}
use Rattle.rl_pages.proofs.SeenLemmas.{seen_laws}
use Rattle.rl_build.specs.Page.{page_lines, pages_joined}

-- a viewer is shown their own options
pub own_options : (es : List Entry) (name : List ℕ) (v : Viewer) → v ≡ User name → options_of es name ≡ options_in (shown es v)
own_options es name v is = rw is (sym (seen_laws.options (User name) es))

-- what spells no title gives nothing
pub no_page : (s : Shown) (text title : List ℕ) → title_of title ≡ None → text ≡ text ++ page_lines s title
no_page s text title none =
    sym (ap (λ (o : Option (List ℕ)). text ++ option_map_or line (option_and_then (page_in s) o) []) none ∙ append-nil text)

pub two_pages : (s : Shown) (one other : List ℕ) (old between new page : List ℕ) → old ≡ [] → between ≡ old ++ page_lines s one →
    page ≡ other → new ≡ between ++ page_lines s page → new ≡ pages_joined s (one ∷ other ∷ [])
two_pages s one other old between new page empty first same second =
    second ∙ ap (λ p. between ++ page_lines s p) same
    ∙ ap (λ t. t ++ page_lines s other) (first ∙ ap (λ t. t ++ page_lines s one) empty)
    ∙ ap (λ t. page_lines s one ++ t) (sym (append-nil (page_lines s other)))
