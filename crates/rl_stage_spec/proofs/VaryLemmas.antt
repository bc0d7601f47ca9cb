-- Contexts for which the same is stored have one skin and one language.
use Rattle.std.proofs.Common.{◌≡◌, ℕ, Bool, true, false, List, [], ◌∷◌, ◌++◌, Option, Some, None, refl, sym, ap, subst, ◌∙◌, codes, bytes_eq}
use Rattle.std.specs.Prelude.{◌==◌, ◌&&◌, ◌||◌, decimal, if◌then◌else◌, nat_le, length, not, Ok}
use Rattle.std.specs.List.{list_all, list_any}
use Rattle.std.proofs.lemmas.Bool.{and_from, and_parts, or_from}
use Rattle.std.proofs.lemmas.Bool.Decides.{Decides-eqb}
use Rattle.std.proofs.lemmas.List.{append_assoc, append_cancel_left}
use Rattle.std.proofs.lemmas.Slice.Eq.{bytes_eq-Decides}
use Rattle.toml.specs.Data.{Members}
use Rattle.rl_defs.specs.Breach.{bad_admin, bad_module_name, bad_name, bad_skin, breach_of, first_breach, or_else, reading_of, settled, unless}
use Rattle.rl_defs.specs.Breach.{bad_dependency, bad_source, no_file, too_large, too_many, unknown_field}
use Rattle.rl_defs.specs.Catalogue.{Catalogue}
use Rattle.rl_defs.specs.Draft.{catalogue_of, draft_of}
use Rattle.rl_defs.specs.Reading.{document}
use Rattle.rl_defs.specs.Refusal.{Refusal, BadName}
use Rattle.rl_defs.specs.Words.{is_skin, is_word_byte}
use Rattle.rl_build.specs.Context.{skin_of}
use Rattle.rl_build.specs.declared.context.Context.{Context}
use Rattle.rl_view_spec.specs.Closure.{Text}
use Rattle.rl_stage_spec.specs.Shared.{HasSkins, IsContext, ReadHasSkins, VaryTells}

-- ---- where a bar stands first

abbrev is_bar : ℕ → Bool
is_bar b = b == 124

abbrev HasNoBar : Text → Type 0
HasNoBar text = list_any is_bar text ≡ false

later : (b : Bool) (more : Bool) → (b || more) ≡ false → (b ≡ false) × (more ≡ false)
later true more h = absurd (cc)
later false more h = (refl, h)

-- texts without a bar that stand before the first bar of one text are one
same_front : (xs ys r q : Text) → HasNoBar xs → HasNoBar ys → xs ++ 124 ∷ r ≡ ys ++ 124 ∷ q → (xs ≡ ys) × (r ≡ q)
same_front [] [] r q h k is = let same : r ≡ q = cc in (refl, same)
same_front [] (y ∷ ys) r q h k is = let same : y ≡ 124 = cc in absurd (let bar : is_bar y ≡ true = ap is_bar same in
    let none = (later (is_bar y) (list_any is_bar ys) k).0 in cc)
same_front (x ∷ xs) [] r q h k is = let same : x ≡ 124 = cc in absurd (let bar : is_bar x ≡ true = ap is_bar same in
    let none = (later (is_bar x) (list_any is_bar xs) h).0 in cc)
same_front (x ∷ xs) (y ∷ ys) r q h k is =
    let first : x ≡ y = cc in
    let rest : xs ++ 124 ∷ r ≡ ys ++ 124 ∷ q = cc in
    let more = same_front xs ys r q (later (is_bar x) (list_any is_bar xs) h).1 (later (is_bar y) (list_any is_bar ys) k).1 rest in
    (ap (λ (z : ℕ). z ∷ xs) first ∙ ap (λ (zs : Text). y ∷ zs) more.0, more.1)

-- ---- skins have no bar

no_bar_byte : (b : ℕ) → is_word_byte b ≡ true → (w : Bool) → is_bar b ≡ w → w ≡ false
no_bar_byte b h true is =
    let same : b ≡ 124 = (Decides-eqb b 124).0 is in
    let bad : is_word_byte 124 ≡ true = subst (λ (n : ℕ). is_word_byte n ≡ true) same h in absurd (cc)
no_bar_byte b h false is = refl

no_bar_word : (text : Text) → list_all is_word_byte text ≡ true → HasNoBar text
no_bar_word [] h = refl
no_bar_word (b ∷ bs) h =
    let parts = and_parts (is_word_byte b) (list_all is_word_byte bs) h in
    or_from (is_bar b) (list_any is_bar bs) (no_bar_byte b parts.0 (is_bar b) refl) (no_bar_word bs parts.1)

no_bar_skin : (name : Text) → is_skin name ≡ true → HasNoBar name
no_bar_skin name h =
    let short = nat_le 1 (length name) && nat_le (length name) 40 in
    let words = list_all is_word_byte name in
    let first = and_parts (short && words) (not (bytes_eq name (codes "default") || bytes_eq name (codes "fallback"))) h in
    no_bar_word name (and_parts short words first.0).1

no_bar_among : (skins : List Text) (name : Text) → list_all is_skin skins ≡ true → list_any (λ s. bytes_eq s name) skins ≡ true → HasNoBar name
no_bar_among [] name h k = absurd (cc)
no_bar_among (s ∷ skins) name h k =
    let parts = and_parts (is_skin s) (list_all is_skin skins) h in
    step parts.0 (λ others. no_bar_among skins name parts.1 others) (bytes_eq s name) refl k
  where
    step : is_skin s ≡ true → (list_any (λ s. bytes_eq s name) skins ≡ true → HasNoBar name) → (b : Bool) → bytes_eq s name ≡ b
        → (b || list_any (λ s. bytes_eq s name) skins) ≡ true → HasNoBar name
    step is_one rest true is k = subst HasNoBar ((bytes_eq-Decides s name).0 is) (no_bar_skin s is_one)
    step is_one rest false is k = rest k

no_bar_picked : (c : Catalogue) → HasSkins c → (skin : Text) → HasNoBar (skin_of c skin)
no_bar_picked c has skin = step (list_any (λ s. bytes_eq s skin) c.skins) refl
  where
    step : (b : Bool) → list_any (λ s. bytes_eq s skin) c.skins ≡ b → HasNoBar (if b then skin else codes "fallback")
    step true is = no_bar_among c.skins skin has is
    step false is = refl

no_bar_in : (c : Catalogue) → HasSkins c → (ctx : Context) → IsContext c ctx → HasNoBar ctx.skin
no_bar_in c has ctx (lang, skin, debug, is) = subst (λ (x : Context). HasNoBar x.skin) (sym is) (no_bar_picked c has skin)

spelled : (skin number lang : Text) → skin ++ codes "|" ++ number ++ codes "|" ++ lang ≡ skin ++ 124 ∷ (number ++ 124 ∷ lang)
spelled skin number lang =
    append_assoc (skin ++ codes "|" ++ number) (codes "|") lang ∙ append_assoc (skin ++ codes "|") number (124 ∷ lang)
    ∙ append_assoc skin (codes "|") (number ++ 124 ∷ lang)

pub vary_tells : VaryTells
vary_tells c has one other h k alike =
    let number = decimal c.store_version in
    let told = sym (spelled one.skin number one.lang) ∙ alike ∙ spelled other.skin number other.lang in
    let fronts = same_front one.skin other.skin (number ++ 124 ∷ one.lang) (number ++ 124 ∷ other.lang) (no_bar_in c has one h) (no_bar_in c has other k)
    told in
    let ends : 124 ∷ one.lang ≡ 124 ∷ other.lang = append_cancel_left number (124 ∷ one.lang) (124 ∷ other.lang) fronts.1 in
    let langs : one.lang ≡ other.lang = cc in
    (fronts.0, langs)

-- ---- what is read has such skins

no_first : (a b : Option Refusal) → or_else a b ≡ None → (a ≡ None) × (b ≡ None)
no_first None b none = (refl, none)
no_first (Some breach) b none = absurd (cc)

kept : (is_kept : Bool) (breach : Refusal) → unless is_kept breach ≡ None → is_kept ≡ true
kept true breach none = refl
kept false breach none = absurd (cc)

skins_pass : (skins : List Text) → bad_skin skins ≡ None → list_all is_skin skins ≡ true
skins_pass [] none = refl
skins_pass (s ∷ skins) none =
    let parts = no_first (unless (is_skin s) (BadName s)) (bad_skin skins) none in
    and_from (is_skin s) (list_all is_skin skins) (kept (is_skin s) (BadName s) parts.0) (skins_pass skins parts.1)

settled_skins : (top : Members) → breach_of (draft_of top) ≡ None → list_all is_skin (draft_of top).skins ≡ true
settled_skins top none =
    let d = draft_of top in
    let names = (no_first (bad_name d) (or_else (too_many d) (or_else (bad_dependency d) (or_else (no_file d) (or_else (bad_source d) (too_large d)))))
    none).0 in
    let others = (no_first (bad_module_name d.modules) (or_else (bad_admin d.admins) (bad_skin d.skins)) names).1 in
    skins_pass d.skins (no_first (bad_admin d.admins) (bad_skin d.skins) others).1

pub read_has_skins : ReadHasSkins
read_has_skins bytes c is = of_document (document bytes) is
  where
    of_breach : (top : Members) (o : Option Refusal) → first_breach top ≡ o → settled (draft_of top) o ≡ Ok c → HasSkins c
    of_breach top (Some breach) e is = absurd (cc)
    of_breach top None e is =
        let same : catalogue_of (draft_of top) ≡ c = cc in
        subst HasSkins same (settled_skins top (no_first (unknown_field top) (breach_of (draft_of top)) e).1)

    of_document : (o : Option Members) → reading_of o ≡ Ok c → HasSkins c
    of_document None is = absurd (cc)
    of_document (Some top) is = of_breach top (first_breach top) refl is
