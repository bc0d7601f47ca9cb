-- A query that was written is read again.
use Rattle.std.proofs.Common.{◌≡◌, ℕ, ◌<◌, ◌+◌, ◌/◌, Bool, true, false, cond, nat_lt, List, [], ◌∷◌, length, map, refl, sym, ap}
use Rattle.std.proofs.Common.{subst, ◌∙◌, arith, filter, inl, inr}
use Rattle.std.specs.Prelude.{fold, codes, IsUtf8}
use Rattle.std.specs.List.{All}
use Rattle.std.specs.Str.{is_utf8, chars}
use Rattle.std.specs.Str.Lossy.{utf8_lossy}
use lib.Utf8.{scalar, scalars, encode, encodes, next, scalar_cases}
use Rattle.std.proofs.lemmas.Bool.{and_parts, cond_both, ltb-true, ltb-false}
use Rattle.std.proofs.lemmas.Str.{utf8_lossy-IsUtf8, IsUtf8-from_is_utf8}
use Rattle.std.proofs.lemmas.List.Elements.{All-nil, All-cons, All-append, All-filter}
use Rattle.percent_encoding.proofs.PercentLemmas.{IsByte}
use Rattle.form_urlencoded.specs.Form as form
use Rattle.form_urlencoded.proofs.FormLemmas.{IsBytePair, round_trip}
use Rattle.rl_names.specs.declared.query.Only.{Only}
use Rattle.rl_names.specs.declared.query.Only.TheVariants.{All as everything, Scripts, Styles}
use Rattle.rl_names.specs.declared.query.Query.{Query}
use Rattle.rl_names.specs.Query.{is_on, only_of, query_text, debug_text, only_text, parameters, IsText, QueryIsReadAgain}
use Rattle.rl_names.specs.QuerySteps.{no_query, noted, noted_pair}
use Rattle.rl_names.proofs.QueryLemmas.{noted_query}

-- ---- texts are bytes

character_bytes : (c : ℕ) → scalar c ≡ true → All IsByte (encode c)
unfolding encode
character_bytes c s =
    let small : c < 1114112 = elim (scalar_cases c s) [ inl h ↦ omega arith | inr h ↦ h.1 ] in
    let last : next c < 256 = omega arith in
    cond_both (nat_lt c 128) (c ∷ []) _ (All IsByte) (λ e. All-cons IsByte c [] (omega (arith, ltb-true c 128 e)) (All-nil IsByte))
    (λ _. cond_both (nat_lt c 2048) ((192 + c / 64) ∷ next c ∷ []) _ (All IsByte)
    (λ e. All-cons IsByte (192 + c / 64) (next c ∷ []) (omega (arith, ltb-true c 2048 e)) (All-cons IsByte (next c) [] last (All-nil IsByte)))
    (λ _. cond_both (nat_lt c 65536) ((224 + c / 4096) ∷ next (c / 64) ∷ next c ∷ []) _ (All IsByte)
    (λ e. All-cons IsByte (224 + c / 4096) (next (c / 64) ∷ next c ∷ []) (omega (arith, ltb-true c 65536 e))
    (All-cons IsByte (next (c / 64)) (next c ∷ []) (omega arith) (All-cons IsByte (next c) [] last (All-nil IsByte))))
    (λ _. All-cons IsByte (240 + c / 262144) (next (c / 4096) ∷ next (c / 64) ∷ next c ∷ []) (omega arith)
    (All-cons IsByte (next (c / 4096)) (next (c / 64) ∷ next c ∷ []) (omega arith)
    (All-cons IsByte (next (c / 64)) (next c ∷ []) (omega arith) (All-cons IsByte (next c) [] last (All-nil IsByte)))))))

text_bytes_of : (cs : List ℕ) → scalars cs ≡ true → All IsByte (encodes cs)
text_bytes_of [] s = All-nil IsByte
text_bytes_of (c ∷ cs) s =
    let parts = and_parts (scalar c) (scalars cs) s in
    All-append IsByte (encode c) (encodes cs) (character_bytes c parts.0) (text_bytes_of cs parts.1)

text_bytes : (bs : List ℕ) → IsUtf8 bs → All IsByte bs
text_bytes bs (cs, (s, is)) = subst (All IsByte) is (text_bytes_of cs s)

-- ---- one parameter after another

abbrev present : List ℕ × List ℕ → Bool
present pair = nat_lt 0 (length pair.1)

abbrev decoded_pair : List ℕ × List ℕ → List ℕ × List ℕ
decoded_pair pair = (form.decode pair.0, form.decode pair.1)

-- a pair that is decoded already
abbrev plain_pair : Query → List ℕ × List ℕ → Query
plain_pair q pair = noted q (utf8_lossy pair.0) (utf8_lossy pair.1)

decoded_first : (q : Query) (ps : List (List ℕ × List ℕ)) → fold noted_pair q ps ≡ fold plain_pair q (map decoded_pair ps)
decoded_first q [] = refl
decoded_first q (p ∷ ps) = decoded_first (noted_pair q p) ps

kept : (q : Query) (p : List ℕ × List ℕ) (ps : List (List ℕ × List ℕ)) →
    fold plain_pair q (filter present (p ∷ ps)) ≡ fold plain_pair (cond (present p) (plain_pair q p) q) (filter present ps)
kept q p ps = elim (present p) as (λ v. fold plain_pair q (cond v (p ∷ filter present ps) (filter present ps))
    ≡ fold plain_pair (cond v (plain_pair q p) q) (filter present ps)) [ true ↦ refl | false ↦ refl ]

no_bytes : (bs : List ℕ) → nat_lt 0 (length bs) ≡ false → bs ≡ []
no_bytes [] h = refl
no_bytes (b ∷ bs) h = absurd (omega (arith, ltb-false 0 (length (b ∷ bs)) h))

-- a parameter is taken where it is written, and else the query has its value already
read_one : (name value : List ℕ) (q after : Query) (ps : List (List ℕ × List ℕ)) → utf8_lossy name ≡ name → utf8_lossy value ≡ value
    → noted q name value ≡ after → (value ≡ [] → q ≡ after) →
    fold plain_pair q (filter present ((name, value) ∷ ps)) ≡ fold plain_pair after (filter present ps)
read_one name value q after ps n v taken absent =
    kept q (name, value) ps
    ∙ ap (λ r. fold plain_pair r (filter present ps))
    (cond_both (nat_lt 0 (length value)) (plain_pair q (name, value)) q (λ r. r ≡ after)
    (λ _. ap (λ m. noted q m (utf8_lossy value)) n ∙ ap (noted q name) v ∙ taken) (λ e. absent (no_bytes value e)))

plain_text : (bs : List ℕ) → is_utf8 bs ≡ true → utf8_lossy bs ≡ bs
plain_text bs h = utf8_lossy-IsUtf8 bs (IsUtf8-from_is_utf8 bs h)

debug_again : (d : Bool) → is_on (debug_text d) ≡ d
debug_again true = refl
debug_again false = refl

debug_absent : (d : Bool) → debug_text d ≡ [] → no_query ≡ record no_query { debug = d }
debug_absent true e = absurd (cc)
debug_absent false e = refl

debug_utf8 : (d : Bool) → is_utf8 (debug_text d) ≡ true
unfolding is_utf8 chars encode
debug_utf8 true = refl
debug_utf8 false = refl

only_again : (o : Only) → only_of (only_text o) ≡ o
only_again everything = refl
only_again Scripts = refl
only_again Styles = refl

only_absent : (q : Query) (o : Only) → q.only ≡ everything → only_text o ≡ [] → q ≡ record q { only = o }
only_absent q everything is e = ap (λ x. record q { only = x }) is
only_absent q Scripts is e = absurd (cc)
only_absent q Styles is e = absurd (cc)

only_utf8 : (o : Only) → is_utf8 (only_text o) ≡ true
unfolding is_utf8 chars encode
only_utf8 everything = refl
only_utf8 Scripts = refl
only_utf8 Styles = refl

abbrev all_parameters : Query → List (List ℕ × List ℕ)
all_parameters q =
    (codes "debug", debug_text q.debug) ∷ (codes "lang", q.lang) ∷ (codes "modules", q.modules) ∷ (codes "only", only_text q.only)
    ∷ (codes "skin", q.skin) ∷ (codes "user", q.user) ∷ (codes "version", q.version) ∷ []

read_all : (q : Query) → IsText q → fold plain_pair no_query (filter present (all_parameters q)) ≡ q
unfolding is_utf8 chars encode
read_all q texts =
    let q1 : Query = record no_query { debug = q.debug } in
    let q2 : Query = record q1 { lang = q.lang } in
    let q3 : Query = record q2 { modules = q.modules } in
    let q4 : Query = record q3 { only = q.only } in
    let q5 : Query = record q4 { skin = q.skin } in
    let q6 : Query = record q5 { user = q.user } in
    let t7 = (codes "version", q.version) ∷ [] in
    let t6 = (codes "user", q.user) ∷ t7 in
    let t5 = (codes "skin", q.skin) ∷ t6 in
    let t4 = (codes "only", only_text q.only) ∷ t5 in
    let t3 = (codes "modules", q.modules) ∷ t4 in
    let t2 = (codes "lang", q.lang) ∷ t3 in
    read_one (codes "debug") (debug_text q.debug) no_query q1 t2 (plain_text (codes "debug") refl) (plain_text (debug_text q.debug) (debug_utf8 q.debug))
    (ap (λ d. record no_query { debug = d }) (debug_again q.debug)) (debug_absent q.debug)
    ∙ read_one (codes "lang") q.lang q1 q2 t3 (plain_text (codes "lang") refl) (utf8_lossy-IsUtf8 q.lang texts.lang) refl
    (λ e. ap (λ v. record q1 { lang = v }) (sym e))
    ∙ read_one (codes "modules") q.modules q2 q3 t4 (plain_text (codes "modules") refl) (utf8_lossy-IsUtf8 q.modules texts.modules) refl
    (λ e. ap (λ v. record q2 { modules = v }) (sym e))
    ∙ read_one (codes "only") (only_text q.only) q3 q4 t5 (plain_text (codes "only") refl) (plain_text (only_text q.only) (only_utf8 q.only))
    (ap (λ o. record q3 { only = o }) (only_again q.only)) (only_absent q3 q.only refl)
    ∙ read_one (codes "skin") q.skin q4 q5 t6 (plain_text (codes "skin") refl) (utf8_lossy-IsUtf8 q.skin texts.skin) refl
    (λ e. ap (λ v. record q4 { skin = v }) (sym e))
    ∙ read_one (codes "user") q.user q5 q6 t7 (plain_text (codes "user") refl) (utf8_lossy-IsUtf8 q.user texts.user) refl
    (λ e. ap (λ v. record q5 { user = v }) (sym e))
    ∙ read_one (codes "version") q.version q6 q [] (plain_text (codes "version") refl) (utf8_lossy-IsUtf8 q.version texts.version) refl
    (λ e. ap (λ v. record q6 { version = v }) (sym e))

-- ---- the whole

byte_pair : (name value : List ℕ) → is_utf8 name ≡ true → IsUtf8 value → IsBytePair (name, value)
byte_pair name value n v = (text_bytes name (IsUtf8-from_is_utf8 name n), text_bytes value v)

byte_pairs : (q : Query) → IsText q → All IsBytePair (all_parameters q)
unfolding is_utf8 chars encode
byte_pairs q texts =
    let t7 : List (List ℕ × List ℕ) = (codes "version", q.version) ∷ [] in
    let t6 : List (List ℕ × List ℕ) = (codes "user", q.user) ∷ t7 in
    let t5 : List (List ℕ × List ℕ) = (codes "skin", q.skin) ∷ t6 in
    let t4 : List (List ℕ × List ℕ) = (codes "only", only_text q.only) ∷ t5 in
    let t3 : List (List ℕ × List ℕ) = (codes "modules", q.modules) ∷ t4 in
    let t2 : List (List ℕ × List ℕ) = (codes "lang", q.lang) ∷ t3 in
    let debug_is = IsUtf8-from_is_utf8 (debug_text q.debug) (debug_utf8 q.debug) in
    let only_is = IsUtf8-from_is_utf8 (only_text q.only) (only_utf8 q.only) in
    let a7 : All IsBytePair t7 = All-cons IsBytePair (codes "version", q.version) [] (byte_pair (codes "version") q.version refl texts.version)
    (All-nil IsBytePair) in
    let a6 : All IsBytePair t6 = All-cons IsBytePair (codes "user", q.user) t7 (byte_pair (codes "user") q.user refl texts.user) a7 in
    let a5 : All IsBytePair t5 = All-cons IsBytePair (codes "skin", q.skin) t6 (byte_pair (codes "skin") q.skin refl texts.skin) a6 in
    let a4 : All IsBytePair t4 = All-cons IsBytePair (codes "only", only_text q.only) t5 (byte_pair (codes "only") (only_text q.only) refl only_is) a5 in
    let a3 : All IsBytePair t3 = All-cons IsBytePair (codes "modules", q.modules) t4 (byte_pair (codes "modules") q.modules refl texts.modules) a4 in
    let a2 : All IsBytePair t2 = All-cons IsBytePair (codes "lang", q.lang) t3 (byte_pair (codes "lang") q.lang refl texts.lang) a3 in
    All-cons IsBytePair (codes "debug", debug_text q.debug) t2 (byte_pair (codes "debug") (debug_text q.debug) refl debug_is) a2

pub query_is_read_again : QueryIsReadAgain
query_is_read_again q texts =
    sym (noted_query (query_text q)) ∙ decoded_first no_query (form.raw_pairs (query_text q))
    ∙ ap (fold plain_pair no_query) (round_trip (parameters q) (All-filter present IsBytePair (all_parameters q) (byte_pairs q texts)))
    ∙ read_all q texts
