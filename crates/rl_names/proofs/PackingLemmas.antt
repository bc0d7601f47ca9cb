-- What was packed is read again, in packed order.
use Rattle.std.proofs.Common.{◌≡◌, ℕ, Bool, true, false, ◌||◌, not, cond, List, [], ◌∷◌, ◌++◌, map, get_or, refl, sym, ap, ◌∙◌}
use Rattle.std.proofs.Common.{subst, arith, append_assoc, filter, flat_map, bytes_eq}
use Rattle.std.specs.List.{list_any, list_all, slice_split, join_with_byte, All, AllByRecursion}
use Rattle.std.proofs.lemmas.Bool.{and_parts, or_parts, or_from, or_right, false_from_ne_true}
use Rattle.std.proofs.lemmas.List.Folds.{list_any-append, list_any_at}
use Rattle.std.proofs.lemmas.List.Splits.{slice_split_at, slice_split_none}
use Rattle.std.proofs.lemmas.Slice.Eq.{bytes_eq-Decides}
use Rattle.rl_names.proofs.CutLemmas.{cut, none_after, front_front, front-append, suffix-append}
use Rattle.rl_names.specs.Name.{is_name, is_name_byte}
use Rattle.rl_names.specs.Packing.{is_dot, is_comma, is_bar, front_of, suffix_of, distinct, fronts, group_of, group_text, expand_group, PackingIsReadAgain}

pub same_text : (xs ys : List ℕ) → bytes_eq xs ys ≡ true → xs ≡ ys
same_text xs ys h = (bytes_eq-Decides xs ys).0 h

pub text_itself : (xs : List ℕ) → bytes_eq xs xs ≡ true
text_itself xs = (bytes_eq-Decides xs xs).1 refl

none_passes : (p : ℕ → Bool) (xs : List ℕ) → list_any p xs ≡ false → All (λ x. p x ≡ false) xs
none_passes p xs e k d h = false_from_ne_true (p (get_or xs k d)) (λ t. let u : list_any p xs ≡ true = list_any_at p xs k d h t in cc)

-- ---- joined parts

pub join_none : (p : ℕ → Bool) (c : ℕ) (parts : List (List ℕ)) → p c ≡ false → AllByRecursion (λ part. list_any p part ≡ false) parts →
    list_any p (join_with_byte c parts) ≡ false
join_none p c [] h a = refl
join_none p c (x ∷ []) h a = a.0
join_none p c (x ∷ y ∷ xs) h a =
    list_any-append p x (c ∷ join_with_byte c (y ∷ xs)) ∙ or_from (list_any p x) (p c || list_any p (join_with_byte c (y ∷ xs))) a.0
    (or_from (p c) (list_any p (join_with_byte c (y ∷ xs))) h (join_none p c (y ∷ xs) h a.1))

-- parts without the separator, joined by it, are cut there again
pub split_join : (p : ℕ → Bool) (c : ℕ) (x : List ℕ) (xs : List (List ℕ)) → p c ≡ true →
    AllByRecursion (λ part. list_any p part ≡ false) (x ∷ xs) → slice_split p (join_with_byte c (x ∷ xs)) ≡ x ∷ xs
split_join p c x [] h a = slice_split_none p x (none_passes p x a.0)
split_join p c x (y ∷ ys) h a = slice_split_at p x c (join_with_byte c (y ∷ ys)) (none_passes p x a.0) h ∙ ap (λ l. x ∷ l) (split_join p c y ys h a.1)

-- ---- one group

-- a name, all of whose bytes are bytes of names
AllowedText : List ℕ → Type 0
AllowedText text = (list_any is_bar text ≡ false) × (list_any is_comma text ≡ false)

allowed_byte : (b : ℕ) → is_name_byte b ≡ true → (is_bar b ≡ false) × (is_comma b ≡ false)
allowed_byte b h = (false_from_ne_true (is_bar b) (λ t. grind arith), false_from_ne_true (is_comma b) (λ t. grind arith))

allowed_bytes : (bs : List ℕ) → list_all is_name_byte bs ≡ true → AllowedText bs
unfolding AllowedText
allowed_bytes [] h = (refl, refl)
allowed_bytes (b ∷ bs) h =
    let parts = and_parts (is_name_byte b) (list_all is_name_byte bs) h in
    let first = allowed_byte b parts.0 in
    let rest = allowed_bytes bs parts.1 in
    (or_from (is_bar b) (list_any is_bar bs) first.0 rest.0, or_from (is_comma b) (list_any is_comma bs) first.1 rest.1)

allowed_name : (name : List ℕ) → is_name name ≡ true → AllowedText name
allowed_name name h = allowed_bytes name (grind arith)

-- the two parts of a name are allowed
front_allowed : (p : ℕ → Bool) (name : List ℕ) → list_any p name ≡ false →
    (list_any p (front_of name) ≡ false) × (list_any p (suffix_of name) ≡ false)
front_allowed p name h =
    or_parts (list_any p (front_of name)) (list_any p (suffix_of name))
    (sym (list_any-append p (front_of name) (suffix_of name)) ∙ ap (list_any p) (cut is_dot name) ∙ h)

-- the names of a group: allowed, and with this front
InGroup : List ℕ → List ℕ → Type 0
InGroup front name = AllowedText name × (front_of name ≡ front)

suffixes_none : (p : ℕ → Bool) (names : List (List ℕ)) → AllByRecursion (λ name. list_any p (suffix_of name) ≡ false) names →
    AllByRecursion (λ part. list_any p part ≡ false) (map suffix_of names)
suffixes_none p [] a = tt
suffixes_none p (n ∷ ns) a = (a.0, suffixes_none p ns a.1)

no_dots : (names : List (List ℕ)) → AllByRecursion (λ name. list_any is_dot (suffix_of name) ≡ false) names
no_dots [] = tt
no_dots (n ∷ ns) = (none_after is_dot n, no_dots ns)

no_commas : (front : List ℕ) (names : List (List ℕ)) → AllByRecursion (InGroup front) names →
    AllByRecursion (λ name. list_any is_comma (suffix_of name) ≡ false) names
unfolding InGroup AllowedText
no_commas front [] a = tt
no_commas front (n ∷ ns) a = ((front_allowed is_comma n a.0.0.1).1, no_commas front ns a.1)

no_bars : (front : List ℕ) (names : List (List ℕ)) → AllByRecursion (InGroup front) names →
    AllByRecursion (λ name. list_any is_bar (suffix_of name) ≡ false) names
unfolding InGroup AllowedText
no_bars front [] a = tt
no_bars front (n ∷ ns) a = ((front_allowed is_bar n a.0.0.0).1, no_bars front ns a.1)

put_back : (front : List ℕ) (names : List (List ℕ)) → AllByRecursion (InGroup front) names →
    map (λ part. front ++ part) (map suffix_of names) ≡ names
unfolding InGroup
put_back front [] a = refl
put_back front (n ∷ ns) a =
    let whole : front ++ suffix_of n ≡ n = ap (λ f. f ++ suffix_of n) (sym a.0.1) ∙ cut is_dot n in
    ap (λ x. x ∷ map (λ part. front ++ part) (map suffix_of ns)) whole ∙ ap (λ l. n ∷ l) (put_back front ns a.1)

own_front : (front n : List ℕ) → InGroup front n → front_of front ≡ front
unfolding InGroup
own_front front n h = ap front_of (sym h.1) ∙ front_front is_dot n ∙ h.1

group_expands : (front n : List ℕ) (ns : List (List ℕ)) → AllByRecursion (InGroup front) (n ∷ ns) →
    expand_group (front ++ join_with_byte 44 (map suffix_of (n ∷ ns))) ≡ n ∷ ns
group_expands front n ns a =
    let joined = join_with_byte 44 (map suffix_of (n ∷ ns)) in
    let dotless : list_any is_dot joined ≡ false = join_none is_dot 44 (map suffix_of (n ∷ ns)) refl (suffixes_none is_dot (n ∷ ns) (no_dots (n ∷ ns)))
    in
    let own = own_front front n a.0 in
    let pieces : slice_split is_comma joined ≡ map suffix_of (n ∷ ns) =
    split_join is_comma 44 (suffix_of n) (map suffix_of ns) refl (suffixes_none is_comma (n ∷ ns) (no_commas front (n ∷ ns) a)) in
    ap (λ f. map (λ part. f ++ part) (slice_split is_comma (suffix_of (front ++ joined)))) (front-append is_dot front joined own dotless)
    ∙ ap (λ s. map (λ part. front ++ part) (slice_split is_comma s)) (suffix-append is_dot front joined own dotless)
    ∙ ap (λ l. map (λ part. front ++ part) l) pieces
    ∙ put_back front (n ∷ ns) a

group_barless : (front n : List ℕ) (ns : List (List ℕ)) → AllByRecursion (InGroup front) (n ∷ ns) →
    list_any is_bar (front ++ join_with_byte 44 (map suffix_of (n ∷ ns))) ≡ false
unfolding InGroup AllowedText
group_barless front n ns a =
    let before : list_any is_bar front ≡ false = ap (list_any is_bar) (sym a.0.1) ∙ (front_allowed is_bar n a.0.0.0).0 in
    list_any-append is_bar front (join_with_byte 44 (map suffix_of (n ∷ ns)))
    ∙ or_from (list_any is_bar front) (list_any is_bar (join_with_byte 44 (map suffix_of (n ∷ ns)))) before
    (join_none is_bar 44 (map suffix_of (n ∷ ns)) refl (suffixes_none is_bar (n ∷ ns) (no_bars front (n ∷ ns) a)))

-- ---- all groups

grouped_step : (v : Bool) (front n : List ℕ) (rest : List (List ℕ)) → bytes_eq front (front_of n) ≡ v → AllowedText n →
    AllByRecursion (InGroup front) rest → AllByRecursion (InGroup front) (cond v (n ∷ rest) rest)
unfolding InGroup
grouped_step true front n rest e allowed a = ((allowed, sym (same_text front (front_of n) e)), a)
grouped_step false front n rest e allowed a = a

grouped : (front : List ℕ) (names : List (List ℕ)) → AllByRecursion AllowedText names → AllByRecursion (InGroup front) (group_of names front)
grouped front [] a = tt
grouped front (n ∷ ns) a = grouped_step (bytes_eq front (front_of n)) front n (group_of ns front) refl a.0 (grouped front ns a.1)

-- a front that some name has
abbrev pub IsUsed : List (List ℕ) → List ℕ → Type 0
IsUsed names front = list_any (λ name. bytes_eq front (front_of name)) names ≡ true

pub used_fronts : (done names : List (List ℕ)) → AllByRecursion (IsUsed (done ++ names)) (map front_of names)
used_fronts done [] = tt
used_fronts done (n ∷ ns) =
    let here : list_any (λ name. bytes_eq (front_of n) (front_of name)) (done ++ n ∷ ns) ≡ true =
    list_any-append (λ name. bytes_eq (front_of n) (front_of name)) done (n ∷ ns)
    ∙ or_right (list_any (λ name. bytes_eq (front_of n) (front_of name)) done)
    (bytes_eq (front_of n) (front_of n) || list_any (λ name. bytes_eq (front_of n) (front_of name)) ns)
    (ap (λ v. v || list_any (λ name. bytes_eq (front_of n) (front_of name)) ns) (text_itself (front_of n))) in
    let more = used_fronts (done ++ n ∷ []) ns in
    let P : List (List ℕ) → Type 0 = λ l. AllByRecursion (IsUsed l) (map front_of ns) in
    (here, subst P (append_assoc done (n ∷ []) ns) more)

kept_step : (P : List ℕ → Type 0) (v : Bool) (x : List ℕ) (rest : List (List ℕ)) → P x → AllByRecursion P rest →
    AllByRecursion P (cond v (x ∷ rest) rest)
kept_step P true x rest h a = (h, a)
kept_step P false x rest h a = a

kept : (P : List ℕ → Type 0) (test : List ℕ → Bool) (xs : List (List ℕ)) → AllByRecursion P xs → AllByRecursion P (filter test xs)
kept P test [] a = tt
kept P test (x ∷ xs) a = kept_step P (test x) x (filter test xs) a.0 (kept P test xs a.1)

pub distinct_kept : (P : List ℕ → Type 0) (xs : List (List ℕ)) → AllByRecursion P xs → AllByRecursion P (distinct xs)
distinct_kept P [] a = tt
distinct_kept P (x ∷ xs) a = (a.0, kept P (λ y. not (bytes_eq x y)) (distinct xs) (distinct_kept P xs a.1))

-- a group that some name is in is not empty
some_name : (front : List ℕ) (names : List (List ℕ)) → IsUsed names front →
    (n : List ℕ) × (ns : List (List ℕ)) × (group_of names front ≡ n ∷ ns)
some_name front [] h = absurd (cc)
some_name front (n ∷ ns) h =
    let step : (v : Bool) → (v || list_any (λ name. bytes_eq front (front_of name)) ns) ≡ true →
    (m : List ℕ) × (ms : List (List ℕ)) × (cond v (n ∷ group_of ns front) (group_of ns front) ≡ m ∷ ms) =
    λ (v : Bool). elim v as (λ w. (w || list_any (λ name. bytes_eq front (front_of name)) ns) ≡ true →
    (m : List ℕ) × (ms : List (List ℕ)) × (cond w (n ∷ group_of ns front) (group_of ns front) ≡ m ∷ ms)) [
      | true ↦ λ e. (n, group_of ns front, refl)
      | false ↦ λ e. some_name front ns e
    ] in
    step (bytes_eq front (front_of n)) h

-- what is owed of each front
one_front : (names : List (List ℕ)) (front : List ℕ) → AllByRecursion AllowedText names → IsUsed names front
    → (expand_group (group_text names front) ≡ group_of names front) × (list_any is_bar (group_text names front) ≡ false)
one_front names front a used =
    let (n, ns, is) = some_name front names used in
    let all : AllByRecursion (InGroup front) (n ∷ ns) = subst (AllByRecursion (InGroup front)) is (grouped front names a) in (
      ap (λ l. expand_group (front ++ join_with_byte 44 (map suffix_of l))) is ∙ group_expands front n ns all ∙ sym is,
      ap (λ l. list_any is_bar (front ++ join_with_byte 44 (map suffix_of l))) is ∙ group_barless front n ns all,
    )

barless_texts : (names fs : List (List ℕ)) → AllByRecursion AllowedText names → AllByRecursion (IsUsed names) fs →
    AllByRecursion (λ part. list_any is_bar part ≡ false) (map (group_text names) fs)
barless_texts names [] a used = tt
barless_texts names (f ∷ fs) a used = ((one_front names f a used.0).1, barless_texts names fs a used.1)

expanded_texts : (names fs : List (List ℕ)) → AllByRecursion AllowedText names → AllByRecursion (IsUsed names) fs →
    flat_map expand_group (map (group_text names) fs) ≡ flat_map (group_of names) fs
expanded_texts names [] a used = refl
expanded_texts names (f ∷ fs) a used =
    ap (λ l. l ++ flat_map expand_group (map (group_text names) fs)) (one_front names f a used.0).0
    ∙ ap (λ l. group_of names f ++ l) (expanded_texts names fs a used.1)

allowed_names : (names : List (List ℕ)) → list_all is_name names ≡ true → AllByRecursion AllowedText names
allowed_names [] h = tt
allowed_names (n ∷ ns) h =
    let parts = and_parts (is_name n) (list_all is_name ns) h in
    (allowed_name n parts.0, allowed_names ns parts.1)

pub packing_is_read_again : PackingIsReadAgain
packing_is_read_again [] some names = absurd (omega arith)
packing_is_read_again (n ∷ ns) some names =
    let all = n ∷ ns in
    let a = allowed_names all (grind arith) in
    let used = distinct_kept (IsUsed all) (map front_of all) (used_fronts [] all) in
    ap (flat_map expand_group) (split_join is_bar 124 (group_text all (front_of n))
    (map (group_text all) (filter (λ y. not (bytes_eq (front_of n) y)) (distinct (map front_of ns)))) refl (barless_texts all (fronts all) a used))
    ∙ expanded_texts all (fronts all) a used
