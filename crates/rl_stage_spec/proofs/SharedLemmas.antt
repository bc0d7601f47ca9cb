-- What a wiki builds of a module that is nobody's own is the same for every viewer.
use Rattle.std.proofs.Common.{◌≡◌, Bool, true, false, List, [], ◌∷◌, ◌++◌, filter, Option, Some, None, refl, sym, ap, ◌∙◌, codes}
use Rattle.std.specs.Prelude.{flat_map, if◌then◌else◌, option_and_then, option_map, ◌&&◌}
use Rattle.std.specs.List.{join_with_byte, onto_first, slice_split}
use Rattle.std.specs.Option.{option_map_or, option_or}
use Rattle.std.specs.Str.{is_utf8}
use Rattle.rl_names.specs.Title.{is_filled, is_space, is_title, is_underscore, spaced}
use Rattle.rl_defs.specs.Catalogue.{Catalogue, module_named}
use Rattle.rl_defs.specs.declared.module_def.ModuleDef.{ModuleDef}
use Rattle.rl_build.specs.BuiltIn.{built_in_named}
use Rattle.rl_build.specs.Page.{page_lines, pages_joined, site_page, site_pages, upper_first}
use Rattle.rl_build.specs.Payload.{payload_of_built_in, payload_of_module}
use Rattle.rl_build.specs.Sheet.{sheet_of_built_in, sheet_of_module}
use Rattle.rl_build.specs.declared.built_in.BuiltIn.{BuiltIn}
use Rattle.rl_build.specs.declared.built_in.BuiltIn.TheVariants.{Site, SiteStyles, User, UserOptions, UserStyles}
use Rattle.rl_build.specs.declared.context.Context.{Context}
use Rattle.rl_build.specs.declared.payloads.Payload.{Payload}
use Rattle.rl_build.specs.declared.sheets.Sheet.{Sheet}
use Rattle.rl_loadphp.specs.Body.{built}
use Rattle.rl_pages.specs.History.{page_of}
use Rattle.rl_pages.specs.Seen.{page_in, seen, shown}
use Rattle.rl_pages.specs.Viewer.{is_seen_by, is_user, owner_of}
use Rattle.rl_pages.specs.declared.entry.Entry.{Entry}
use Rattle.rl_pages.specs.declared.viewer.Viewer.{Viewer}
use Rattle.rl_pages.proofs.SeenLemmas.{page_if_seen}
use Rattle.rl_view_spec.specs.Closure.{Text}
use Rattle.rl_wire.specs.Line.{line}
use Rattle.rl_stage_spec.specs.Shared.{SharedIsForAll, is_shared}

-- ---- titles that begin with an M are nobody's own

-- the text begins with an M
abbrev BeginsWithM : Text → Type 0
BeginsWithM text = (rest : Text) × (text ≡ 77 ∷ rest)

joined_m : (w : Text) (ws : List Text) → BeginsWithM (join_with_byte 32 ((77 ∷ w) ∷ ws))
joined_m w [] = (w, refl)
joined_m w (v ∷ ws) = (w ++ 32 ∷ join_with_byte 32 (v ∷ ws), refl)

words_m : (words : List Text) (more : List Text) → BeginsWithM (join_with_byte 32 (filter is_filled (onto_first 77 words ++ more)))
words_m [] more = joined_m [] (filter is_filled more)
words_m (w ∷ words) more = joined_m w (filter is_filled (words ++ more))

pieces_m : (pieces : List Text) → BeginsWithM (join_with_byte 32 (filter is_filled (flat_map (slice_split is_space) (onto_first 77 pieces))))
pieces_m [] = words_m (slice_split is_space []) []
pieces_m (p ∷ pieces) = words_m (slice_split is_space p) (flat_map (slice_split is_space) pieces)

spaced_m : (text : Text) → BeginsWithM (spaced (77 ∷ text))
spaced_m text = pieces_m (slice_split is_underscore text)

nobodys : (title : Text) → BeginsWithM title → owner_of title ≡ None
nobodys title (rest, is) = ap owner_of is

seen_by_all : (v : Viewer) (title : Text) → BeginsWithM title → is_seen_by v title ≡ true
seen_by_all v title m = ap (λ (o : Option Text). option_map_or (is_user v) o true) (nobodys title m)

-- ---- pages of the site

module _ (entries : List Entry) (one other : Viewer) where
  same_page : (title : Text) → BeginsWithM title → page_of (seen one entries) title ≡ page_of (seen other entries) title
  same_page title m = sym (page_if_seen one entries title (seen_by_all one title m)) ∙ page_if_seen other entries title (seen_by_all other title m)

  same_lines : (text : Text) → page_lines (shown entries one) (77 ∷ text) ≡ page_lines (shown entries other) (77 ∷ text)
  same_lines text = step (is_utf8 (77 ∷ text) && is_title (spaced (77 ∷ text)))
    where
      step : (b : Bool) → option_map_or line (option_and_then (page_in (shown entries one)) (if b then Some (spaced (77 ∷ text)) else None)) []
          ≡ option_map_or line (option_and_then (page_in (shown entries other)) (if b then Some (spaced (77 ∷ text)) else None)) []
      step true = ap (λ (o : Option Text). option_map_or line o []) (same_page (spaced (77 ∷ text)) (spaced_m text))
      step false = refl

  same_at : (bytes : Text) → BeginsWithM bytes → page_lines (shown entries one) bytes ≡ page_lines (shown entries other) bytes
  same_at bytes (text, is) =
      ap (page_lines (shown entries one)) is ∙ same_lines text ∙ sym (ap (page_lines (shown entries other)) is)

  same_two : (page more : Text) → BeginsWithM page → BeginsWithM more
      → pages_joined (shown entries one) (page ∷ more ∷ []) ≡ pages_joined (shown entries other) (page ∷ more ∷ [])
  same_two page more h k =
      ap (λ (t : Text). t ++ (page_lines (shown entries one) more ++ [])) (same_at page h)
      ∙ ap (λ (t : Text). page_lines (shown entries other) page ++ (t ++ [])) (same_at more k)

  same_site : (skin : Text) → pages_joined (shown entries one) (site_pages skin) ≡ pages_joined (shown entries other) (site_pages skin)
  same_site skin =
      same_two (codes "MediaWiki:Common.js") (site_page skin) (codes "ediaWiki:Common.js", refl)
      (codes "ediaWiki:" ++ (upper_first skin ++ codes ".js"), refl)

  -- ---- payloads

  module _ (c : Catalogue) (ctx alike : Context) (same : ctx.skin ≡ alike.skin) where
    abbrev brought : Viewer → Context → Option BuiltIn → Option ModuleDef → Option Payload
    brought v x b m = option_or (option_map (payload_of_built_in (shown entries v) x) b) (option_map (payload_of_module c) m)

    same_brought : (b : Option BuiltIn) (m : Option ModuleDef) (sheet : Sheet)
        → option_or (option_map sheet_of_built_in b) (option_map sheet_of_module m) ≡ Some sheet → is_shared sheet.group ≡ true
        → brought one ctx b m ≡ brought other alike b m
    same_brought None m sheet is kept = refl
    same_brought (Some Site) m sheet is kept =
        ap (λ (t : Text). Some (record { script = t; styles = []; messages = [] }))
        (ap (λ (k : Text). pages_joined (shown entries one) (site_pages k)) same ∙ same_site alike.skin)
    same_brought (Some SiteStyles) m sheet is kept = refl
    same_brought (Some User) m sheet is kept =
        absurd (let group : codes "user" ≡ sheet.group = cc in let bad : is_shared (codes "user") ≡ true = ap is_shared group ∙ kept in cc)
    same_brought (Some UserOptions) m sheet is kept =
        absurd (let group : codes "private" ≡ sheet.group = cc in let bad : is_shared (codes "private") ≡ true = ap is_shared group ∙ kept in cc)
    same_brought (Some UserStyles) m sheet is kept = refl

pub shared_is_for_all : SharedIsForAll
shared_is_for_all c entries viewer other ctx alike same name sheet is kept =
    ap (option_map (built name)) (same_brought entries viewer other c ctx alike same (built_in_named name) (module_named c name) sheet is kept)
