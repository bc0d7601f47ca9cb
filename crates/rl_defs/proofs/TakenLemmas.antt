-- A draft as the fields of a table are taken into it, one after another.
use Rattle.std.proofs.Common.{◌≡◌, ℕ, ◌≤◌, Bool, true, false, List, [], ◌∷◌, ◌++◌, Option, Some, None, String, Global, Less, string_bytes}
use Rattle.std.proofs.Common.{nat_cmp, codes, refl, ap, sym, subst, ◌∙◌, inl, inr, arith, pos, append_assoc, BTreeMap}
use Rattle.std.specs.Prelude.{bytes_eq, unwrap_or, option_and_then, nat_le, ◌&&◌, if◌then◌else◌}
use Rattle.std.specs.Cmp.Lexicographic.{slice_cmp}
use Rattle.std.specs.List.{AllByRecursion}
use Rattle.std.specs.List.Sorted.{IsStrictlySortedBy}
use Rattle.std.specs.Map.{keys_of}
use Rattle.std.specs.String.{string_cmp}
use Rattle.std.proofs.lemmas.Bool.{and_parts, cases_Bool, false≢true, leb-true}
use Rattle.std.proofs.lemmas.Slice.Eq.{bytes_eq-Decides}
use Rattle.toml.specs.Data.{Data, integer, table, Members, member, get_member}
use Rattle.toml.specs.View.{view, members_view}
use Rattle.toml.specs.declared.value.Value.{Value, Table}
use Rattle.toml.proofs.Views.{Entry, view-Table}
use Rattle.rl_defs.specs.declared.draft.Draft.{Draft}
use Rattle.rl_defs.specs.declared.draft.ModuleDraft.{ModuleDraft}
use Rattle.rl_defs.specs.declared.error.CatalogError.{CatalogError}
use Rattle.rl_defs.specs.declared.error.FieldKind.TheVariants.{OfFile, OfModule}
use Rattle.rl_defs.specs.Refusal.{Refusal, UnknownField, refusal_told}
use Rattle.rl_defs.specs.Reading.{inside, number_of}
use Rattle.rl_defs.specs.Fields.{Place, InFiles, InWiki, InModule, Field, is_known, is_known_at, is_module_field, is_wiki_field, is_table_field}
use Rattle.rl_defs.specs.Fields.{fields, fields_at, top_fields, modules_fields, module_fields}
use Rattle.rl_defs.specs.Breach.{or_else, unless, unknown_at, unknown_among}
use Rattle.rl_defs.specs.Draft.{named_alone, module_draft, modules_of, module_with, wiki_with, draft_with, empty_draft, IsDraft}
use Rattle.rl_defs.specs.Taken.{module_taken, wiki_taken, table_taken}

-- ---- the first unknown field of two lists in a row

unknown_append : (fs gs : List Field) → unknown_among (fs ++ gs) ≡ or_else (unknown_among fs) (unknown_among gs)
unknown_append [] gs = refl
unknown_append (f ∷ fs) gs =
    let step : (b : Bool) → or_else (unless b (unknown_at f.place f.key)) (unknown_among (fs ++ gs))
    ≡ or_else (or_else (unless b (unknown_at f.place f.key)) (unknown_among fs)) (unknown_among gs) =
    λ (b : Bool). elim b as (λ b. or_else (unless b (unknown_at f.place f.key)) (unknown_among (fs ++ gs))
    ≡ or_else (or_else (unless b (unknown_at f.place f.key)) (unknown_among fs)) (unknown_among gs)) [
      | true ↦ unknown_append fs gs
      | false ↦ refl
    ] in
    step (is_known f)

pub unknown_top : (key : List ℕ) (d : Data) (ms : Members)
    → unknown_among (fields (member key d ms)) ≡ or_else (unknown_among (top_fields (key, d))) (unknown_among (fields ms))
unknown_top key d ms = unknown_append (top_fields (key, d)) (fields ms)

pub unknown_modules : (name : List ℕ) (d : Data) (ms : Members)
    → unknown_among (modules_fields (member name d ms)) ≡ or_else (unknown_among (module_fields (name, d))) (unknown_among (modules_fields ms))
unknown_modules name d ms = unknown_append (module_fields (name, d)) (modules_fields ms)

-- ---- a key that was taken is not among those that are left

absent_key : (k : String Global) (es : List Entry) → AllByRecursion (λ y. string_cmp k y ≡ Less) (keys_of es)
    → get_member (string_bytes k) (members_view es) ≡ None
absent_key k [] above = refl
absent_key k (e ∷ es) above =
    let less : slice_cmp nat_cmp (string_bytes k) (string_bytes e.0) ≡ Less = above.0 in
    rw less (absent_key k es above.1)

pub left_over : (e : Entry) (es : List Entry) → IsStrictlySortedBy string_cmp (keys_of (e ∷ es))
    → (get_member (string_bytes e.0) (members_view es) ≡ None) × IsStrictlySortedBy string_cmp (keys_of es)
unfolding IsStrictlySortedBy
left_over e es ordered = (absent_key e.0 es ordered.0, ordered.1)

is_some_none : {X : Type 0} {x : X} → Some x ≡ None → ⊥
is_some_none h = cc

-- what holds of a text holds of the key that is that text
at_key : (P : List ℕ → Type 0) (key text : List ℕ) → bytes_eq key text ≡ true → P text → P key
at_key P key text is p = subst P (sym ((bytes_eq-Decides key text).0 is)) p

-- a key is one of these, or none of them
by_key : (P : List ℕ → Type 0) (key : List ℕ) (texts : List (List ℕ)) → AllByRecursion P texts
    → (AllByRecursion (λ text. bytes_eq key text ≡ false) texts → P key) → P key
by_key P key [] each other = other tt
by_key P key (text ∷ texts) each other = elim (cases_Bool (bytes_eq key text)) [
  | inl is ↦ at_key P key text is each.0
  | inr apart ↦ by_key P key texts each.1 (λ none. other (apart, none))
]

abbrev module_keys : List (List ℕ)
module_keys = codes "scripts" ∷ codes "dependencies" ∷ codes "group" ∷ codes "source" ∷ codes "skip" ∷ []

abbrev wiki_keys : List (List ℕ)
wiki_keys = codes "admins" ∷ codes "skins" ∷ codes "limit" ∷ codes "storeVersion" ∷ []

abbrev table_keys : List (List ℕ)
table_keys = codes "files" ∷ codes "modules" ∷ codes "wiki" ∷ []

-- ---- one field of a module, of the table `wiki`, of the file: what is said at its key counts, since it is said once

pub module_step : (m : ModuleDraft) (key : List ℕ) (d : Data) (ms : Members) → get_member key ms ≡ None → is_module_field key d ≡ true
    → module_with (module_taken m key d) ms ≡ module_with m (member key d ms)
module_step m key d ms once known =
    let Counts : List ℕ → Type 0 = λ k. get_member k ms ≡ None → module_with (module_taken m k d) ms ≡ module_with m (member k d ms) in
    by_key Counts key module_keys ((λ e. rw e refl), ((λ e. rw e refl), ((λ e. rw e refl), ((λ e. rw e refl), ((λ e. rw e refl), tt))))) (λ apart.
    let none : is_module_field key d ≡ false = rw (apart.0, apart.1.0, apart.1.1.0, apart.1.1.1.0, apart.1.1.1.1.0) refl in
    absurd (false≢true (sym none ∙ known))) once

pub wiki_step : (w : Draft) (key : List ℕ) (d : Data) (ms : Members) → get_member key ms ≡ None → is_wiki_field key d ≡ true
    → wiki_with (wiki_taken w key d) ms ≡ wiki_with w (member key d ms)
wiki_step w key d ms once known =
    let Counts : List ℕ → Type 0 = λ k. get_member k ms ≡ None → wiki_with (wiki_taken w k d) ms ≡ wiki_with w (member k d ms) in
    by_key Counts key wiki_keys ((λ e. rw e refl), ((λ e. rw e refl), ((λ e. rw e refl), ((λ e. rw e refl), tt)))) (λ apart.
    let none : is_wiki_field key d ≡ false = rw (apart.0, apart.1.0, apart.1.1.0, apart.1.1.1.0) refl in
    absurd (false≢true (sym none ∙ known))) once

table_step : (w : Draft) (key : List ℕ) (t ms : Members) → get_member key ms ≡ None → is_table_field key (table t) ≡ true
    → draft_with (table_taken w key t) ms ≡ draft_with w (member key (table t) ms)
table_step w key t ms once known =
    let Counts : List ℕ → Type 0 = λ k. get_member k ms ≡ None → draft_with (table_taken w k t) ms ≡ draft_with w (member k (table t) ms) in
    by_key Counts key table_keys ((λ e. rw e refl), ((λ e. rw e refl), ((λ e. rw e refl), tt))) (λ apart.
    let none : is_table_field key (table t) ≡ false = rw (apart.0, apart.1.0, apart.1.1.0) refl in
    absurd (false≢true (sym none ∙ known))) once

pub draft_step : (w : Draft) (key : List ℕ) (d : Data) (ms : Members) → get_member key ms ≡ None → is_table_field key d ≡ true
    → draft_with (table_taken w key (inside d)) ms ≡ draft_with w (member key d ms)
draft_step w key (table t) ms once known = table_step w key t ms once known
draft_step w key d ms once known = absurd (false≢true known)

-- a first field is known where no field is unknown
pub first_known : (key : List ℕ) (d : Data) → unknown_among (top_fields (key, d)) ≡ None → is_table_field key d ≡ true
first_known key d none =
    elim (cases_Bool (is_table_field key d)) [
      | inl known ↦ known
      | inr other ↦
          let some : unknown_among (top_fields (key, d)) ≡ Some (UnknownField OfFile [] key) = rw other refl in
          absurd (is_some_none (sym some ∙ none))
    ]

-- ---- numbers in their range

abbrev InRange : ℕ → ℕ → ℕ → Type 0
InRange least most n = (least ≤ n) × (n ≤ most)

chosen : (least most n absent : ℕ) (b : Bool) → (b ≡ true → InRange least most n) → InRange least most absent
    → InRange least most (unwrap_or (if b then Some n else None) absent)
chosen least most n absent true found rest = found refl
chosen least most n absent false found rest = rest

number_in_range : (least most : ℕ) (d : Data) (absent : ℕ) → InRange least most absent → InRange least most (unwrap_or (number_of least most d) absent)
number_in_range least most (integer (pos n)) absent rest =
    chosen least most n absent (nat_le least n && nat_le n most) (λ h.
    let parts = and_parts (nat_le least n) (nat_le n most) h in
    (leb-true least n parts.0, leb-true n most parts.1)) rest
number_in_range least most d absent rest = rest

read_in_range : (least most : ℕ) (o : Option Data) (absent : ℕ) → InRange least most absent
    → InRange least most (unwrap_or (option_and_then (number_of least most) o) absent)
read_in_range least most None absent rest = rest
read_in_range least most (Some d) absent rest = number_in_range least most d absent rest

pub wiki_orderly : (w : Draft) (ms : Members) → IsDraft w → IsDraft (wiki_with w ms)
wiki_orderly w ms orderly =
    let limit = read_in_range 200 4000 (get_member (codes "limit") ms) w.limit (orderly.least_limit, orderly.most_limit) in
    let version = read_in_range 0 1000000 (get_member (codes "storeVersion") ms) w.store_version (omega arith, orderly.most_version) in
    record {
      files = orderly.files;
      modules = orderly.modules;
      features = orderly.features;
      least_limit = limit.0;
      most_limit = limit.1;
      most_version = version.1;
    }

pub empty_orderly : IsDraft empty_draft
unfolding IsStrictlySortedBy
empty_orderly =
    let low : 200 ≤ 2000 = omega arith in
    let high : 2000 ≤ 4000 = omega arith in
    let version : 1 ≤ 1000000 = omega arith in
    record {
      files = record { ascend = tt; texts = tt };
      modules = record { ascend = tt; texts = tt };
      features = refl;
      least_limit = low;
      most_limit = high;
      most_version = version;
    }

-- ---- one turn of a loop over fields

passes : (place : Place) (e : Entry) (rest : List Entry) → is_known_at place (string_bytes e.0) (view e.1) ≡ true
    → unknown_among (fields_at place (members_view (e ∷ rest))) ≡ unknown_among (fields_at place (members_view rest))
passes place e rest known =
    ap (λ (b : Bool). or_else (unless b (unknown_at place (string_bytes e.0))) (unknown_among (fields_at place (members_view rest)))) known

stops : (place : Place) (e : Entry) (rest : List Entry) → is_known_at place (string_bytes e.0) (view e.1) ≡ false
    → unknown_among (fields_at place (members_view (e ∷ rest))) ≡ Some (unknown_at place (string_bytes e.0))
stops place e rest other =
    ap (λ (b : Bool). or_else (unless b (unknown_at place (string_bytes e.0))) (unknown_among (fields_at place (members_view rest)))) other

-- a loop ends at a field that is not known, and tells it
pub stopped : (place : Place) (whole es rest : List Entry) (e : Entry) (known : Bool) (error : CatalogError)
    → unknown_among (fields_at place (members_view es)) ≡ unknown_among (fields_at place (members_view whole)) → es ≡ e ∷ rest
    → known ≡ is_known_at place (string_bytes e.0) (view e.1) → known ≡ false → refusal_told error ≡ Some (unknown_at place (string_bytes e.0))
    → (refusal : Refusal) → refusal_told error ≡ Some refusal → unknown_among (fields_at place (members_view whole)) ≡ Some refusal
stopped place whole es rest e known error answers is_es known_is was_not is_told refusal told =
    sym answers ∙ ap (λ (l : List Entry). unknown_among (fields_at place (members_view l))) is_es ∙ stops place e rest (sym known_is ∙ was_not)
    ∙ sym is_told ∙ told

-- what was said so far and what is left come to the whole; the fields that are left answer for all; no key comes twice
abbrev pub IsModuleTurn : ModuleDraft → List Entry → ModuleDraft → List Entry → Type 0
IsModuleTurn start whole m es =
    (module_with m (members_view es) ≡ module_with start (members_view whole))
    × (unknown_among (fields_at (InModule start.name) (members_view es)) ≡ unknown_among (fields_at (InModule start.name) (members_view whole)))
    × (m.name ≡ start.name)
    × IsStrictlySortedBy string_cmp (keys_of es)

pub module_turn : (start m n : ModuleDraft) (whole es rest : List Entry) (e : Entry) (known : Bool) → IsModuleTurn start whole m es → es ≡ e ∷ rest
    → known ≡ is_module_field (string_bytes e.0) (view e.1) → known ≡ true → n ≡ module_taken m (string_bytes e.0) (view e.1)
    → IsModuleTurn start whole n rest
module_turn start m n whole es rest e known turn is_es known_is was is_n =
    let at : IsModuleTurn start whole m (e ∷ rest) = subst (λ (l : List Entry). IsModuleTurn start whole m l) is_es turn in
    let left = left_over e rest at.3 in
    let step = module_step m (string_bytes e.0) (view e.1) (members_view rest) left.0 (sym known_is ∙ was) in
    let passed = passes (InModule start.name) e rest (sym known_is ∙ was) in
    subst (λ (x : ModuleDraft). IsModuleTurn start whole x rest) (sym is_n)
    (step ∙ at.0, sym passed ∙ at.1, ap (λ (x : ModuleDraft). x.name) step ∙ at.2, left.1)

abbrev pub IsWikiTurn : Draft → List Entry → Draft → List Entry → Type 0
IsWikiTurn start whole w es =
    (wiki_with w (members_view es) ≡ wiki_with start (members_view whole))
    × (unknown_among (fields_at InWiki (members_view es)) ≡ unknown_among (fields_at InWiki (members_view whole)))
    × IsStrictlySortedBy string_cmp (keys_of es)

pub wiki_turn : (start w v : Draft) (whole es rest : List Entry) (e : Entry) (known : Bool) → IsWikiTurn start whole w es → es ≡ e ∷ rest
    → known ≡ is_wiki_field (string_bytes e.0) (view e.1) → known ≡ true → v ≡ wiki_taken w (string_bytes e.0) (view e.1)
    → IsWikiTurn start whole v rest
wiki_turn start w v whole es rest e known turn is_es known_is was is_v =
    let at : IsWikiTurn start whole w (e ∷ rest) = subst (λ (l : List Entry). IsWikiTurn start whole w l) is_es turn in
    let left = left_over e rest at.2 in
    let step = wiki_step w (string_bytes e.0) (view e.1) (members_view rest) left.0 (sym known_is ∙ was) in
    let passed = passes InWiki e rest (sym known_is ∙ was) in
    subst (λ (x : Draft). IsWikiTurn start whole x rest) (sym is_v) (step ∙ at.0, sym passed ∙ at.1, left.1)

abbrev pub IsDraftTurn : Draft → List Entry → Draft → List Entry → Type 0
IsDraftTurn start whole w es =
    (draft_with w (members_view es) ≡ draft_with start (members_view whole))
    × (unknown_among (fields (members_view es)) ≡ unknown_among (fields (members_view whole)))
    × IsDraft w
    × IsStrictlySortedBy string_cmp (keys_of es)

-- a table that was taken has no unknown field
passes_table : (e : Entry) (rest : List Entry) → unknown_among (top_fields (string_bytes e.0, view e.1)) ≡ None
    → unknown_among (fields (members_view (e ∷ rest))) ≡ unknown_among (fields (members_view rest))
passes_table e rest none =
    unknown_top (string_bytes e.0) (view e.1) (members_view rest) ∙ ap (λ (o : Option Refusal). or_else o (unknown_among (fields (members_view rest)))) none

pub draft_turn : (start w v : Draft) (whole es rest : List Entry) (e : Entry) → IsDraftTurn start whole w es → es ≡ e ∷ rest
    → unknown_among (top_fields (string_bytes e.0, view e.1)) ≡ None → v ≡ table_taken w (string_bytes e.0) (inside (view e.1)) → IsDraft v
    → IsDraftTurn start whole v rest
draft_turn start w v whole es rest e turn is_es none is_v orderly =
    let at : IsDraftTurn start whole w (e ∷ rest) = subst (λ (l : List Entry). IsDraftTurn start whole w l) is_es turn in
    let left = left_over e rest at.3 in
    let step = draft_step w (string_bytes e.0) (view e.1) (members_view rest) left.0 (first_known (string_bytes e.0) (view e.1) none) in
    let same = ap (λ (x : Draft). draft_with x (members_view rest)) is_v ∙ step in
    (same ∙ at.0, sym (passes_table e rest none) ∙ at.1, orderly, left.1)

pub table_refused : (whole es rest : List Entry) (e : Entry) (error : CatalogError)
    → unknown_among (fields (members_view es)) ≡ unknown_among (fields (members_view whole)) → es ≡ e ∷ rest
    → ((refusal : Refusal) → refusal_told error ≡ Some refusal → unknown_among (top_fields (string_bytes e.0, view e.1)) ≡ Some refusal)
    → (refusal : Refusal) → refusal_told error ≡ Some refusal → unknown_among (fields (members_view whole)) ≡ Some refusal
table_refused whole es rest e error answers is_es refused refusal told =
    sym answers ∙ ap (λ (l : List Entry). unknown_among (fields (members_view l))) is_es ∙ unknown_top (string_bytes e.0) (view e.1) (members_view rest)
    ∙ ap (λ (o : Option Refusal). or_else o (unknown_among (fields (members_view rest)))) (refused refusal told)

abbrev pub IsModulesTurn : List ModuleDraft → List Entry → List ModuleDraft → List Entry → Type 0
IsModulesTurn all whole taken es =
    (taken ++ modules_of (members_view es) ≡ all) × (unknown_among (modules_fields (members_view es)) ≡ unknown_among (modules_fields (members_view whole)))

pub modules_turn : (all taken more : List ModuleDraft) (m : ModuleDraft) (whole es rest : List Entry) (e : Entry) → IsModulesTurn all whole taken es
    → es ≡ e ∷ rest → unknown_among (module_fields (string_bytes e.0, view e.1)) ≡ None → m ≡ module_draft (string_bytes e.0, view e.1)
    → more ≡ taken ++ (m ∷ []) → IsModulesTurn all whole more rest
modules_turn all taken more m whole es rest e turn is_es none is_m is_more =
    let at : IsModulesTurn all whole taken (e ∷ rest) = subst (λ (l : List Entry). IsModulesTurn all whole taken l) is_es turn in
    let passed = unknown_modules (string_bytes e.0) (view e.1) (members_view rest)
    ∙ ap (λ (o : Option Refusal). or_else o (unknown_among (modules_fields (members_view rest)))) none in
    let joined = ap (λ (l : List ModuleDraft). l ++ modules_of (members_view rest)) is_more
    ∙ append_assoc taken (m ∷ []) (modules_of (members_view rest))
    ∙ ap (λ (x : ModuleDraft). taken ++ (x ∷ modules_of (members_view rest))) is_m in
    (joined ∙ at.0, sym passed ∙ at.1)

pub module_refused : (whole es rest : List Entry) (e : Entry) (error : CatalogError)
    → unknown_among (modules_fields (members_view es)) ≡ unknown_among (modules_fields (members_view whole)) → es ≡ e ∷ rest
    → ((refusal : Refusal) → refusal_told error ≡ Some refusal → unknown_among (module_fields (string_bytes e.0, view e.1)) ≡ Some refusal)
    → (refusal : Refusal) → refusal_told error ≡ Some refusal → unknown_among (modules_fields (members_view whole)) ≡ Some refusal
module_refused whole es rest e error answers is_es refused refusal told =
    sym answers ∙ ap (λ (l : List Entry). unknown_among (modules_fields (members_view l))) is_es
    ∙ unknown_modules (string_bytes e.0) (view e.1) (members_view rest)
    ∙ ap (λ (o : Option Refusal). or_else o (unknown_among (modules_fields (members_view rest)))) (refused refusal told)

-- ---- the whole of a module, and of the table `files`

abbrev Map : Type 0
Map = BTreeMap (String Global) Value

table_in : (v : Value) (t : Map) → v ≡ Table t → view v ≡ table (members_view t.entries)
table_in v t is = ap view is ∙ view-Table t

taken_name : (m : ModuleDraft) (key : List ℕ) (d : Data) → (module_taken m key d).name ≡ m.name
taken_name m key d =
    by_key (λ (k : List ℕ). (module_taken m k d).name ≡ m.name) key module_keys (refl, (refl, (refl, (refl, (refl, tt)))))
    (λ apart. rw (apart.0, apart.1.0, apart.1.1.0, apart.1.1.1.0, apart.1.1.1.1.0) refl)

-- the loop of a module began with nothing but its name, and goes over its table
begun : (name : List ℕ) (start m : ModuleDraft) (whole entries es : List Entry) → start ≡ named_alone name → whole ≡ entries
    → IsModuleTurn start whole m es → IsModuleTurn (named_alone name) entries m es
begun name start m whole entries es is_start is_whole turn =
    subst (λ (w : List Entry). IsModuleTurn (named_alone name) w m es) is_whole (subst (λ (s : ModuleDraft). IsModuleTurn s whole m es) is_start turn)

pub module_all : (name : List ℕ) (v : Value) (t : Map) (start m : ModuleDraft) (whole es : List Entry) → v ≡ Table t → start ≡ named_alone name
    → whole ≡ t.entries → IsModuleTurn start whole m es → es ≡ []
    → (unknown_among (module_fields (name, view v)) ≡ None) × (m ≡ module_draft (name, view v))
module_all name v t start m whole es is_v is_start is_whole turn is_es =
    let at : IsModuleTurn (named_alone name) t.entries m [] =
    subst (λ (l : List Entry). IsModuleTurn (named_alone name) t.entries m l) is_es (begun name start m whole t.entries es is_start is_whole turn) in
    subst (λ (d : Data). (unknown_among (module_fields (name, d)) ≡ None) × (m ≡ module_draft (name, d))) (sym (table_in v t is_v)) (sym at.1, at.0)

pub module_stopped : (name owner key : List ℕ) (v : Value) (t : Map) (start m n : ModuleDraft) (whole es rest : List Entry) (e : Entry) (known : Bool)
    (error : CatalogError) → v ≡ Table t → start ≡ named_alone name → whole ≡ t.entries → IsModuleTurn start whole m es → es ≡ e ∷ rest
    → known ≡ is_module_field (string_bytes e.0) (view e.1) → known ≡ false → n ≡ module_taken m (string_bytes e.0) (view e.1)
    → refusal_told error ≡ Some (UnknownField OfModule owner key) → owner ≡ n.name → key ≡ string_bytes e.0
    → (refusal : Refusal) → refusal_told error ≡ Some refusal → unknown_among (module_fields (name, view v)) ≡ Some refusal
module_stopped name owner key v t start m n whole es rest e known error is_v is_start is_whole turn is_es known_is was_not is_n is_told is_owner is_key refusal told =
    let at = begun name start m whole t.entries es is_start is_whole turn in
    let named : owner ≡ name = is_owner ∙ ap (λ (x : ModuleDraft). x.name) is_n ∙ taken_name m (string_bytes e.0) (view e.1) ∙ at.2 in
    let said : refusal_told error ≡ Some (UnknownField OfModule name (string_bytes e.0)) =
    is_told ∙ ap (λ (o : List ℕ). Some (UnknownField OfModule o key)) named ∙ ap (λ (k : List ℕ). Some (UnknownField OfModule name k)) is_key in
    subst (λ (d : Data). unknown_among (module_fields (name, d)) ≡ Some refusal) (sym (table_in v t is_v))
    (stopped (InModule name) t.entries es rest e known error at.1 is_es known_is was_not said refusal told)

pub files_refused : (key : List ℕ) (v : Value) (t : Map) (error : CatalogError) → key ≡ codes "files" → v ≡ Table t
    → ((refusal : Refusal) → refusal_told error ≡ Some refusal → unknown_among (fields_at InFiles (members_view t.entries)) ≡ Some refusal)
    → (refusal : Refusal) → refusal_told error ≡ Some refusal → unknown_among (top_fields (key, view v)) ≡ Some refusal
files_refused key v t error is_key is_v refused refusal told =
    subst (λ (k : List ℕ). unknown_among (top_fields (k, view v)) ≡ Some refusal) (sym is_key)
    (subst (λ (d : Data). unknown_among (top_fields (codes "files", d)) ≡ Some refusal) (sym (table_in v t is_v)) (refused refusal told))
