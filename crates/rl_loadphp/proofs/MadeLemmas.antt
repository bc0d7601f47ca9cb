-- What a list of names brings, name by name.
use Rattle.std.proofs.Common.{◌≡◌, ℕ, ◌+◌, ◌<◌, ◌≤◌, List, [], ◌∷◌, ◌++◌, length, get_or, take, codes, map, Option, Some, None}
use Rattle.std.proofs.Common.{option_map, refl, sym, ap, ◌∙◌, subst}
use Rattle.std.specs.List.{flat_map, cons_option}
use Rattle.std.specs.Option.{option_map_or}
use Rattle.std.proofs.lemmas.List.{take_more, take_all, flat_map_more}
use Rattle.std.proofs.lemmas.List.Concat.{flat_map-append}
use Rattle.std.proofs.lemmas.List.Folds.{flat_map-map}
use Rattle.rl_wire.specs.declared.part.Part.{Part}
use Rattle.rl_wire.specs.Line.{line, part_text, implement_text, wire_text}
use Rattle.rl_build.specs.declared.context.Context.{Context}
use Rattle.rl_build.specs.declared.payloads.Payload.{Payload}
use Rattle.rl_build.specs.Sight.{Sight}
use Rattle.rl_build.specs.Payload.{payload_of, version_of}
use Rattle.rl_loadphp.specs.Served.{payloads}
use Rattle.rl_loadphp.specs.Body.{built, implementations, missing_part, states_text, scripts_text, styles_text}
use Rattle.rl_loadphp.specs.Steps.{line_of, version_in, script_of, styles_of}

-- ---- one more name in front

built_first : (o : Option Payload) (name : List ℕ) (parts : List Part)
    → wire_text (cons_option (option_map (built name) o) parts) ≡ option_map_or (λ (p : Payload). line (part_text (built name p))) o [] ++ wire_text parts
built_first None name parts = refl
built_first (Some p) name parts = refl

version_first : (o : Option Payload) (ps : List Payload) → map version_of (cons_option o ps) ≡ option_map_or (λ (p : Payload). version_of p ∷ []) o []
    ++ map version_of ps
version_first None ps = refl
version_first (Some p) ps = refl

script_first : (o : Option Payload) (ps : List Payload)
    → flat_map (λ (p : Payload). p.script) (cons_option o ps) ≡ option_map_or (λ (p : Payload). p.script) o [] ++ flat_map (λ (p : Payload). p.script) ps
script_first None ps = refl
script_first (Some p) ps = refl

styles_first : (o : Option Payload) (ps : List Payload)
    → flat_map (λ (p : Payload). p.styles) (cons_option o ps) ≡ option_map_or (λ (p : Payload). p.styles) o [] ++ flat_map (λ (p : Payload). p.styles) ps
styles_first None ps = refl
styles_first (Some p) ps = refl

-- ---- all names

pub wire-implementations : (s : Sight) (ctx : Context) (names : List (List ℕ)) →
    wire_text (implementations s ctx names) ≡ flat_map (line_of s ctx) names
wire-implementations s ctx [] = refl
wire-implementations s ctx (name ∷ names) =
    built_first (payload_of s ctx name) name (implementations s ctx names)
    ∙ ap (λ text. line_of s ctx name ++ text) (wire-implementations s ctx names)

pub versions-payloads : (s : Sight) (ctx : Context) (names : List (List ℕ)) →
    map version_of (payloads s ctx names) ≡ flat_map (version_in s ctx) names
versions-payloads s ctx [] = refl
versions-payloads s ctx (name ∷ names) =
    version_first (payload_of s ctx name) (payloads s ctx names)
    ∙ ap (λ versions. version_in s ctx name ++ versions) (versions-payloads s ctx names)

pub scripts-payloads : (s : Sight) (ctx : Context) (names : List (List ℕ)) → scripts_text s ctx names ≡ flat_map (script_of s ctx) names
scripts-payloads s ctx [] = refl
scripts-payloads s ctx (name ∷ names) =
    script_first (payload_of s ctx name) (payloads s ctx names)
    ∙ ap (λ text. script_of s ctx name ++ text) (scripts-payloads s ctx names)

pub styles-payloads : (s : Sight) (ctx : Context) (names : List (List ℕ)) → styles_text s ctx names ≡ flat_map (styles_of s ctx) names
styles-payloads s ctx [] = refl
styles-payloads s ctx (name ∷ names) =
    styles_first (payload_of s ctx name) (payloads s ctx names)
    ∙ ap (λ text. styles_of s ctx name ++ text) (styles-payloads s ctx names)

-- the states of missing names are their parts
pub wire-missing : (s : Sight) (ctx : Context) (served missing : List (List ℕ))
    → wire_text (implementations s ctx served ++ map missing_part missing) ≡ flat_map (line_of s ctx) served ++ states_text (codes "missing") missing
wire-missing s ctx served missing =
    flat_map-append (λ (part : Part). line (part_text part)) (implementations s ctx served) (map missing_part missing)
    ∙ ap (λ text. text ++ wire_text (map missing_part missing)) (wire-implementations s ctx served)
    ∙ ap (λ text. flat_map (line_of s ctx) served ++ text) (flat_map-map (λ (part : Part). line (part_text part)) missing_part missing)

-- ---- a loop over names

pub more_made : {A : Type 0} (f : List ℕ → List A) (old now next : List A) (names : List (List ℕ)) (i : ℕ) (item name : List ℕ)
    → i < length names → item ≡ get_or names i item → name ≡ item → now ≡ old ++ flat_map f (take i names) → next ≡ now ++ f name →
    next ≡ old ++ flat_map f (take (i + 1) names)
more_made f old now next names i item name within is same so_far one =
    one ∙ ap (λ n. now ++ f n) same ∙ ap (λ t. t ++ f item) so_far ∙ flat_map_more f old (take i names) item
    ∙ ap (λ ns. old ++ flat_map f ns) (ap (λ n. take i names ++ n ∷ []) is ∙ sym (take_more names i item within))

pub all_made : {A : Type 0} (f : List ℕ → List A) (now : List A) (items names : List (List ℕ)) (i : ℕ)
    → items ≡ names → length items ≤ i → now ≡ flat_map f (take i items) → now ≡ flat_map f names
all_made f now items names i same done is = is ∙ ap (flat_map f) (take_all i items done ∙ same)

-- ---- one module

-- the line of what a name brings
pub line_built : (old new : List ℕ) (o : Option Payload) (name : List ℕ) (p : Payload) (version : List ℕ) → o ≡ Some p → version ≡ version_of p
    → new ≡ old ++ line (implement_text name version p.script p.styles p.messages)
    → new ≡ old ++ option_map_or (λ (p : Payload). line (part_text (built name p))) o []
line_built old new o name p version brought hashed is =
    let Owed : Option Payload → Type 0 = λ o. new ≡ old ++ option_map_or (λ (p : Payload). line (part_text (built name p))) o [] in
    subst Owed (sym brought) (is ∙ rw hashed refl)
