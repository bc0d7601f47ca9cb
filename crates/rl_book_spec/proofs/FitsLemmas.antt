-- Queries stay within the limit, but for those that ask for one row.
use Rattle.std.proofs.Common.{◌≡◌, ℕ, zero, suc, ◌+◌, ◌-◌, ◌<◌, ◌≤◌, ◌⊎◌, List, [], ◌∷◌, ◌++◌, Bool, true}
use Rattle.std.proofs.Common.{false, ◌&&◌, length, cond, replicate, refl, ap, subst, ◌∙◌, inl, inr, ⊎_elim, arith, take, length-append}
use Rattle.std.specs.Prelude.{◌/◌, ◌%◌, ◌==◌, Contains, bytes_eq, codes, flat_map, fold, if◌then◌else◌, nat_eq, nat_lt, nat_le}
use Rattle.std.specs.Fmt.{digit_glyph, digits, digits_onto}
use Rattle.std.specs.List.{AllByRecursion, list_all, range_with_len}
use Rattle.std.proofs.lemmas.Bool.{and_parts, eqb-true, leb-true}
use Rattle.std.proofs.lemmas.Bool.Decides.{nat_tests}
use Rattle.std.proofs.lemmas.List.{map-append}
use Rattle.std.proofs.lemmas.List.FromFn.{get_or-range_with_len}
use Rattle.form_urlencoded.specs.Form.{append_pair, byte_serialize, separator, is_nonempty}
use Rattle.percent_encoding.specs.Percent.{percent_encode_byte}
use Rattle.rl_names.specs.Hash.{base_36, combined, fnv, hash_5, padded, version_of_hash}
use Rattle.rl_names.specs.Packing.{pack, packed_order}
use Rattle.rl_names.specs.Query.{only_text, query_text}
use Rattle.rl_names.specs.QuerySteps.{with_parameter}
use Rattle.rl_names.specs.declared.query.Query.{Query}
use Rattle.rl_names.specs.declared.row.Group.{Group}
use Rattle.rl_names.specs.declared.row.Group.TheVariants.{Plain, User, Private, Other}
use Rattle.rl_names.proofs.QueryWrittenLemmas.{in_steps, up_to_lang, up_to_only, up_to_user}
use Rattle.rl_view_spec.specs.Closure.{Text}
use Rattle.rl_view_spec.proofs.ToolsLemmas.{all_each, contains_cases, contains_head, contains_none, contains_tail}
use Rattle.rl_book_spec.specs.Batches.{Numbered, added_len, base_in, base_len, batch_of, collect, collected_len, encoded_len, goes_on, group_rank}
use Rattle.rl_book_spec.specs.Batches.{is_before, is_one_split, names_in, sorted_by, source_name, versions_in}
use Rattle.rl_book_spec.specs.Laws.{QueriesFit}
use Rattle.rl_book_spec.proofs.BatchesLemmas.{pushed_filled}
use Rattle.rl_book_spec.proofs.LengthsLemmas.{collected_more, len_append, len_nothing, packed_collected}

-- ---- parameters

-- how much a separator takes
abbrev gap : Text → ℕ
gap text = length (separator text)

gap_most : (text : Text) → gap text ≤ 1
gap_most text = step (is_nonempty text)
  where
    step : (b : Bool) → length {A = ℕ} (if b then 38 ∷ [] else []) ≤ 1
    step true = omega arith
    step false = omega arith

gap_filled : (text : Text) → 0 < length text → gap text ≡ 1
gap_filled text h = let filled : nat_lt 0 (length text) ≡ true = grind (arith, nat_tests)
    in ap (λ (b : Bool). length {A = ℕ} (if b then 38 ∷ [] else [])) filled

pair_len : (name value text : Text) → length (append_pair text name value) ≡ length text + gap text + (encoded_len name + 1 + encoded_len value)
pair_len name value text = simp length-append (omega arith)

-- a text is ahead of another by so much, and by a separator
abbrev IsAhead : Text → Text → ℕ → Type 0
IsAhead x y k = length y ≤ length x + k + gap x

ahead_step : (x y name value : Text) (k : ℕ) → IsAhead x y k → IsAhead (with_parameter x name value) (with_parameter y name value) k
ahead_step x y name value k h = step (nat_lt 0 (length value))
  where
    step : (b : Bool) → IsAhead (if b then append_pair x name value else x) (if b then append_pair y name value else y) k
    step false = h
    step true =
        let a = pair_len name value x in
        let b = pair_len name value y in
        let most = gap_most y in
        let full = gap_filled (append_pair x name value) (omega (arith, a)) in
        omega (arith, a, b, most, full, h)

ahead_more : (x name value : Text) → IsAhead x (with_parameter x name value) (encoded_len name + 1 + encoded_len value)
ahead_more x name value = step (nat_lt 0 (length value))
  where
    step : (b : Bool) → IsAhead x (if b then append_pair x name value else x) (encoded_len name + 1 + encoded_len value)
    step false = omega arith
    step true = let a = pair_len name value x in omega (arith, a)

longer_most : (text name value : Text) → length (with_parameter text name value) ≤ length text + 1 + (encoded_len name + 1 + encoded_len value)
longer_most text name value = let a = ahead_more text name value in let most = gap_most text in omega (arith, a, most)

modules_len : encoded_len (codes "modules") ≡ 7
unfolding byte_serialize
modules_len = refl

version_len : encoded_len (codes "version") ≡ 7
unfolding byte_serialize
version_len = refl

-- what modules and a version add to a query
pub query_longer : (q : Query) (modules version : Text) → q.modules ≡ [] → q.version ≡ []
    → length (query_text (record q { modules = modules; version = version })) ≤ length (query_text q) + 18 + encoded_len modules + encoded_len version
query_longer q modules version no_modules no_version =
    let full : Query = record q { modules = modules; version = version } in
    let begin : IsAhead (up_to_lang q) (with_parameter (up_to_lang q) (codes "modules") modules) (7 + 1 + encoded_len modules) =
    subst (λ (n : ℕ). IsAhead (up_to_lang q) (with_parameter (up_to_lang q) (codes "modules") modules) (n + 1 + encoded_len modules)) modules_len
    (ahead_more (up_to_lang q) (codes "modules") modules) in
    let only = ahead_step (up_to_lang q) (with_parameter (up_to_lang q) (codes "modules") modules) (codes "only") (only_text q.only)
    (7 + 1 + encoded_len modules) begin in
    let skin = ahead_step (with_parameter (up_to_lang q) (codes "only") (only_text q.only)) (up_to_only full) (codes "skin") q.skin
    (7 + 1 + encoded_len modules) only in
    let user = ahead_step (with_parameter (with_parameter (up_to_lang q) (codes "only") (only_text q.only)) (codes "skin") q.skin)
    (with_parameter (up_to_only full) (codes "skin") q.skin) (codes "user") q.user (7 + 1 + encoded_len modules) skin in
    let plain : Text = with_parameter (with_parameter (with_parameter (up_to_lang q) (codes "only") (only_text q.only)) (codes "skin") q.skin)
    (codes "user") q.user in
    let without : query_text q ≡ plain = in_steps q
    ∙ ap (λ (text : Text). with_parameter (up_to_user q) (codes "version") text) no_version
    ∙ ap (λ (text : Text). with_parameter (with_parameter (with_parameter (with_parameter (up_to_lang q) (codes "modules") text) (codes "only")
    (only_text q.only)) (codes "skin") q.skin) (codes "user") q.user) no_modules in
    let last = longer_most (up_to_user full) (codes "version") version in
    let whole = ap length (in_steps full) in
    let base = ap length without in
    let most = gap_most plain in
    omega (arith, user, last, whole, base, most, version_len)

-- ---- versions

Spare : Text → Type 0
Spare bytes = AllByRecursion (λ (b : ℕ). encoded_len (b ∷ []) ≡ 1) bytes

spare_append : (xs ys : Text) → Spare xs → Spare ys → Spare (xs ++ ys)
unfolding Spare
spare_append [] ys a b = b
spare_append (x ∷ xs) ys a b = (a.0, spare_append xs ys a.1 b)

spare_take : (k : ℕ) (xs : Text) → Spare xs → Spare (take k xs)
unfolding Spare
spare_take zero xs a = tt
spare_take (suc k) [] a = tt
spare_take (suc k) (x ∷ xs) a = (a.0, spare_take k xs a.1)

spare_len : (xs : Text) → Spare xs → encoded_len xs ≡ length xs
unfolding Spare
spare_len [] a = len_nothing
spare_len (x ∷ xs) a = let whole = len_append (x ∷ []) xs in let later = spare_len xs a.1 in omega (arith, whole, later, a.0)

spare_digits : list_all (λ (d : ℕ). encoded_len (digit_glyph false d ∷ []) == 1) (range_with_len 0 36) ≡ true
unfolding byte_serialize percent_encode_byte
spare_digits = refl

digit_there : (d : ℕ) → d < 36 → Contains (range_with_len 0 36) d
digit_there d low = let plain : 0 + d ≡ d = omega arith in (d, low, get_or-range_with_len 0 36 d d low ∙ plain)

spare_digit : (d : ℕ) → d < 36 → encoded_len (digit_glyph false d ∷ []) ≡ 1
spare_digit d low = eqb-true (encoded_len (digit_glyph false d ∷ [])) 1 (all_each (λ (d : ℕ). encoded_len (digit_glyph false d ∷ []) == 1) (range_with_len 0 36)
    d spare_digits (digit_there d low))

spare_either : (t : Bool) (xs ys : Text) → Spare xs → Spare ys → Spare (cond t xs ys)
spare_either true xs ys first second = first
spare_either false xs ys first second = second

spare_onto : (count n : ℕ) (more : Text) → Spare more → Spare (digits_onto count 36 false n more)
unfolding Spare
spare_onto zero n more h = h
spare_onto (suc count) n more h =
    let digit : ℕ = digit_glyph false (n % 36) in
    let low : n % 36 < 36 = omega arith in
    let longer : Spare (digit ∷ more) = (spare_digit (n % 36) low, h) in
    spare_either (n / 36 == 0) (digit ∷ more) (digits_onto count 36 false (n / 36) (digit ∷ more)) longer (spare_onto count (n / 36) (digit ∷ more) longer)

spare_zeros : (count : ℕ) → Spare (replicate count 48)
unfolding Spare
spare_zeros zero = tt
spare_zeros (suc count) = (spare_digit 0 (omega arith), spare_zeros count)

spare_version : (n : ℕ) → Spare (padded 5 (base_36 n))
unfolding Spare digits
spare_version n = spare_append (replicate (5 - length (base_36 n)) 48) (base_36 n) (spare_zeros (5 - length (base_36 n))) (spare_onto 64 n [] tt)

take_most : (k : ℕ) (xs : Text) → length (take k xs) ≤ k
take_most zero xs = omega arith
take_most (suc k) [] = omega arith
take_most (suc k) (x ∷ xs) = let later = take_most k xs in omega (arith, later)

hash_len : (bytes : Text) → encoded_len (hash_5 bytes) ≤ 5
unfolding version_of_hash
hash_len bytes =
    let digits : Text = padded 5 (base_36 (fnv bytes)) in
    let same = spare_len (take 5 digits) (spare_take 5 digits (spare_version (fnv bytes))) in
    let most = take_most 5 digits in
    omega (arith, same, most)

-- ---- batches

-- every element of what is collected has a property that one alone has, and that one more keeps
pub record Collects {X : Type 0} (joins : List X → X → Bool) (P : List X → Type 0) : Type 0 where
  pub one : (x : X) → P (x ∷ [])
  pub more : (first : X) (batch : List X) (x : X) → joins (first ∷ batch) x ≡ true → P ((first ∷ batch) ++ x ∷ [])

abbrev Each : {X : Type 0} → (List X → Type 0) → List (List X) → Type 0
Each {X} P batches = (batch : List X) → Contains batches batch → (0 < length batch) × P batch

just : {X : Type 0} (P : List X → Type 0) (batch : List X) → 0 < length batch → P batch → Each P (batch ∷ [])
just {X = X} P batch filled h other c = ⊎_elim (λ e. subst (λ (xs : List X). (0 < length xs) × P xs) e (filled, h)) (λ t. absurd (contains_none other t))
    (contains_cases batch [] other c)

before : {X : Type 0} (P : List X → Type 0) (batch : List X) (batches : List (List X)) → (0 < length batch) × P batch → Each P batches
    → Each P (batch ∷ batches)
before {X = X} P batch batches h all other c = ⊎_elim (λ e. subst (λ (xs : List X). (0 < length xs) × P xs) e h) (λ t. all other t)
    (contains_cases batch batches other c)

collect_each : {X : Type 0} (joins : List X → X → Bool) (P : List X → Type 0) → Collects joins P → (batches : List (List X)) (x : X)
    → Each P batches → Each P (collect joins batches x)
collect_each joins P h [] x all = just P (x ∷ []) (omega arith) (h.one x)
collect_each {X = X} joins P h (batch ∷ []) x all = at batch (all batch (contains_head batch []))
  where
    step : (batch : List X) → (0 < length batch) × P batch → (b : Bool) → (b ≡ true → P (batch ++ x ∷ []))
        → Each P (if b then (batch ++ x ∷ []) ∷ [] else batch ∷ (x ∷ []) ∷ [])
    step batch kept true more = just P (batch ++ x ∷ []) (pushed_filled batch x) (more refl)
    step batch kept false more = before P batch ((x ∷ []) ∷ []) kept (just P (x ∷ []) (omega arith) (h.one x))

    at : (batch : List X) → (0 < length batch) × P batch → Each P (collect joins (batch ∷ []) x)
    at [] kept = absurd (omega (arith, kept.0))
    at (first ∷ batch) kept = step (first ∷ batch) kept (joins (first ∷ batch) x) (h.more first batch x)
collect_each joins P h (batch ∷ next ∷ batches) x all =
    before P batch (collect joins (next ∷ batches) x) (all batch (contains_head batch (next ∷ batches)))
    (collect_each joins P h (next ∷ batches) x (λ other c. all other (contains_tail batch (next ∷ batches) other c)))

fold_each : {X : Type 0} (joins : List X → X → Bool) (P : List X → Type 0) → Collects joins P → (batches : List (List X)) (xs : List X)
    → Each P batches → Each P (fold (collect joins) batches xs)
fold_each joins P h batches [] all = all
fold_each joins P h batches (x ∷ xs) all = fold_each joins P h (collect joins batches x) xs (collect_each joins P h batches x all)

-- one row, or within the limit by what its names add
abbrev Within : Query → ℕ → List Numbered → Type 0
Within base limit [] = Unit {0}
Within base limit (row ∷ rows) = (base_len base row.1 + 23 + collected_len (names_in (row ∷ rows)) ≤ limit) ⊎ (length (row ∷ rows) ≡ 1)

-- groups of one rank are asked for by one base
pub same_rank : (base : Query) (a b : Group) → group_rank a ≡ group_rank b → base_in base a ≡ base_in base b
same_rank base Plain Plain e = refl
same_rank base Plain User e = absurd (omega (arith, e))
same_rank base Plain Private e = refl
same_rank base Plain (Other n) e = refl
same_rank base User Plain e = absurd (omega (arith, e))
same_rank base User User e = refl
same_rank base User Private e = absurd (omega (arith, e))
same_rank base User (Other n) e = absurd (omega (arith, e))
same_rank base Private Plain e = refl
same_rank base Private User e = absurd (omega (arith, e))
same_rank base Private Private e = refl
same_rank base Private (Other n) e = refl
same_rank base (Other n) Plain e = refl
same_rank base (Other n) User e = absurd (omega (arith, e))
same_rank base (Other n) Private e = refl
same_rank base (Other n) (Other m) e = refl

within_collects : (base : Query) (limit : ℕ) → Collects (goes_on base limit) (Within base limit)
within_collects base limit = record {
  one = λ row. inr refl;
  more = joined;
}
  where
    joined : (first : Numbered) (rows : List Numbered) (row : Numbered) → goes_on base limit (first ∷ rows) row ≡ true
        → Within base limit ((first ∷ rows) ++ row ∷ [])
    joined first rows row h =
        let parts = and_parts (is_one_split (first ∷ rows) row) (nat_le (base_len base row.1 + 23 + collected_len (names_in (first ∷ rows))
        + added_len (names_in (first ∷ rows)) row.1.name) limit) h in
        let split = and_parts (bytes_eq (source_name first.1.source) (source_name row.1.source)) (nat_eq (group_rank first.1.group) (group_rank row.1.group))
        (all_each (λ (other : Numbered). bytes_eq (source_name other.1.source) (source_name row.1.source)
        && nat_eq (group_rank other.1.group) (group_rank row.1.group)) (first ∷ rows) first parts.0 (contains_head first rows)) in
        let ranks : group_rank first.1.group ≡ group_rank row.1.group = eqb-true (group_rank first.1.group) (group_rank row.1.group) split.1 in
        let bases : base_len base first.1 ≡ base_len base row.1 = ap (λ (q : Query). length (query_text q)) (same_rank base first.1.group row.1.group ranks)
        in
        let low : base_len base row.1 + 23 + collected_len (names_in (first ∷ rows))
        + added_len (names_in (first ∷ rows)) row.1.name ≤ limit = leb-true _ _ parts.1 in
        let names : collected_len (names_in ((first ∷ rows) ++ row ∷ [])) ≡ collected_len (names_in (first ∷ rows))
        + added_len (names_in (first ∷ rows)) row.1.name =
        ap collected_len (map-append (λ (p : Numbered). p.1.name) (first ∷ rows) (row ∷ [])) ∙ collected_more (names_in (first ∷ rows)) row.1.name in
        inl (omega (arith, bases, low, names))

no_modules : (base : Query) (group : Group) → base.modules ≡ [] → (base_in base group).modules ≡ []
no_modules base Plain e = e
no_modules base User e = e
no_modules base Private e = e
no_modules base (Other n) e = e

no_version : (base : Query) (group : Group) → base.version ≡ [] → (base_in base group).version ≡ []
no_version base Plain e = e
no_version base User e = e
no_version base Private e = e
no_version base (Other n) e = e

batch_len : (base : Query) (row : Numbered) (rows : List Numbered) → base.modules ≡ [] → base.version ≡ []
    → length (batch_of base (row ∷ rows)).query + 3 ≤ base_len base row.1 + 23 + collected_len (names_in (row ∷ rows))
batch_len base row rows e f =
    let longer = query_longer (base_in base row.1.group) (pack (names_in (row ∷ rows)))
    (combined (versions_in (row ∷ rows) (packed_order (names_in (row ∷ rows))))) (no_modules base row.1.group e) (no_version base row.1.group f) in
    let packed = packed_collected row.1.name (names_in rows) in
    let version = hash_len (flat_map (λ (version : Text). version) (versions_in (row ∷ rows) (packed_order (names_in (row ∷ rows))))) in
    omega (arith, longer, packed, version)

pub queries_fit : QueriesFit
queries_fit base limit rows batch e f c = at batch (fold_each (goes_on base limit) (Within base limit) (within_collects base limit) []
    (sorted_by is_before rows) (λ other d. absurd (contains_none other d)) batch c)
  where
    at : (batch : List Numbered) → (0 < length batch) × Within base limit batch → (length (batch_of base batch).query ≤ limit) ⊎ (length batch ≡ 1)
    at [] h = absurd (omega (arith, h.0))
    at (row ∷ rows) (filled, inl low) = let len = batch_len base row rows e f in inl (omega (arith, low, len))
    at (row ∷ rows) (filled, inr one) = inr one
