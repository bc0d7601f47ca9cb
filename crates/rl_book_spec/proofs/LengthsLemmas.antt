-- How long packed names are once they are encoded: what they add, one after another.
use Rattle.std.proofs.Common.{◌≡◌, ℕ, ◌+◌, List, [], ◌∷◌, ◌++◌, Bool, true, false, ◌||◌, cond, not, length, map, refl, ap}
use Rattle.std.proofs.Common.{ap₂, sym, subst, ◌∙◌, arith, append-nil, append_assoc, length-append}
use Rattle.std.specs.Prelude.{bytes_eq, filter, flat_map, if◌then◌else◌}
use Rattle.std.specs.List.{list_any, join_with_byte, AllByRecursion}
use Rattle.std.proofs.lemmas.Bool.{or_right}
use Rattle.std.proofs.lemmas.Grind.{flat_map-append}
use Rattle.std.proofs.lemmas.List.{map-append}
use Rattle.form_urlencoded.specs.Form.{byte_serialize, serialize_byte}
use Rattle.percent_encoding.specs.Percent.{percent_encode_byte}
use Rattle.rl_names.specs.Packing.{is_dot, front_of, suffix_of, distinct, fronts, group_of, group_text, pack}
use Rattle.rl_names.proofs.CutLemmas.{cut}
use Rattle.rl_names.proofs.GroupingLemmas.{has, distinct_push}
use Rattle.rl_names.proofs.PackingLemmas.{same_text, text_itself, IsUsed, used_fronts, distinct_kept}
use Rattle.rl_view_spec.specs.Closure.{Text, is_among}
use Rattle.rl_book_spec.specs.Batches.{encoded_len, added_len, added_lens, collected_len}

-- ---- encoded lengths

pub len_append : (x y : Text) → encoded_len (x ++ y) ≡ encoded_len x + encoded_len y
unfolding byte_serialize
len_append x y = ap length (flat_map-append serialize_byte x y) ∙ length-append (flat_map serialize_byte x) (flat_map serialize_byte y)

pub len_nothing : encoded_len [] ≡ 0
unfolding byte_serialize
len_nothing = refl

len_comma : encoded_len (44 ∷ []) ≡ 3
unfolding byte_serialize percent_encode_byte
len_comma = refl

len_bar : encoded_len (124 ∷ []) ≡ 3
unfolding byte_serialize percent_encode_byte
len_bar = refl

-- a name is its front and its suffix
len_name : (name : Text) → encoded_len name ≡ encoded_len (front_of name) + encoded_len (suffix_of name)
len_name name = ap encoded_len (sym (cut is_dot name)) ∙ len_append (front_of name) (suffix_of name)

-- ---- sums

abbrev pub total : {X : Type 0} → (X → ℕ) → List X → ℕ
total f [] = 0
total f (x ∷ xs) = f x + total f xs

total_append : {X : Type 0} (f : X → ℕ) (xs ys : List X) → total f (xs ++ ys) ≡ total f xs + total f ys
total_append f [] ys = omega arith
total_append f (x ∷ xs) ys = let later = total_append f xs ys in omega (arith, later)

total_map : {X Y : Type 0} (f : Y → ℕ) (g : X → Y) (xs : List X) → total f (map g xs) ≡ total (λ x. f (g x)) xs
total_map f g [] = refl
total_map f g (x ∷ xs) = ap (λ (n : ℕ). f (g x) + n) (total_map f g xs)

total_zero : {X : Type 0} (xs : List X) → total (λ (x : X). 0) xs ≡ 0
total_zero [] = refl
total_zero (x ∷ xs) = let later = total_zero xs in omega (arith, later)

total_sum : {X : Type 0} (f g : X → ℕ) (xs : List X) → total (λ x. f x + g x) xs ≡ total f xs + total g xs
total_sum f g [] = refl
total_sum f g (x ∷ xs) = let later = total_sum f g xs in omega (arith, later)

total_alike : {X : Type 0} (f g : X → ℕ) (xs : List X) → ((x : X) → f x ≡ g x) → total f xs ≡ total g xs
total_alike f g [] h = refl
total_alike f g (x ∷ xs) h = ap₂ (λ (a b : ℕ). a + b) (h x) (total_alike f g xs h)

-- ---- texts joined by a byte that takes three

joined : (c : ℕ) → encoded_len (c ∷ []) ≡ 3 → (x : Text) (xs : List Text) → encoded_len (join_with_byte c (x ∷ xs)) + 3
    ≡ total (λ (part : Text). encoded_len part + 3) (x ∷ xs)
joined c three x [] = omega arith
joined c three x (y ∷ ys) =
    let later = joined c three y ys in
    let here = len_append x (c ∷ join_with_byte c (y ∷ ys)) in
    let next = len_append (c ∷ []) (join_with_byte c (y ∷ ys)) in
    omega (arith, later, here, next, three)

-- what a name adds but for its front
abbrev suffix_len : Text → ℕ
suffix_len name = encoded_len (suffix_of name) + 3

group_len : (names : List Text) (front n : Text) (ns : List Text) → group_of names front ≡ n ∷ ns → encoded_len (group_text names front) + 3
    ≡ encoded_len front + total suffix_len (group_of names front)
group_len names front n ns e =
    ap (λ (group : List Text). encoded_len (front ++ join_with_byte 44 (map suffix_of group)) + 3) e
    ∙ whole
    ∙ ap (λ (group : List Text). encoded_len front + total suffix_len group) (sym e)
  where
    whole : encoded_len (front ++ join_with_byte 44 (map suffix_of (n ∷ ns))) + 3 ≡ encoded_len front + total suffix_len (n ∷ ns)
    whole =
        let parts = joined 44 len_comma (suffix_of n) (map suffix_of ns) in
        let same = total_map (λ (part : Text). encoded_len part + 3) suffix_of ns in
        let here = len_append front (join_with_byte 44 (map suffix_of (n ∷ ns))) in
        omega (arith, parts, same, here)

-- a group that some name is in is not empty
used_group : (front : Text) (names : List Text) → IsUsed names front → (n : Text) × (ns : List Text) × (group_of names front ≡ n ∷ ns)
used_group front [] h = cc
used_group front (name ∷ names) h = step (bytes_eq front (front_of name)) (λ e. used_group front names e) h
  where
    step : (b : Bool) → (IsUsed names front → (n : Text) × (ns : List Text) × (group_of names front ≡ n ∷ ns))
        → (b || list_any (λ (other : Text). bytes_eq front (front_of other)) names) ≡ true
        → (n : Text) × (ns : List Text) × (cond b (name ∷ group_of names front) (group_of names front) ≡ n ∷ ns)
    step true later e = (name, group_of names front, refl)
    step false later e = later e

groups_len : (names fs : List Text) → AllByRecursion (IsUsed names) fs → total (λ (front : Text). encoded_len (group_text names front) + 3) fs
    ≡ total encoded_len fs + total (λ (front : Text). total suffix_len (group_of names front)) fs
groups_len names [] used = refl
groups_len names (front ∷ fs) used =
    let some = used_group front names used.0 in
    let here = group_len names front some.0 some.1 some.2 in
    let later = groups_len names fs used.1 in
    omega (arith, here, later)

-- ---- each name is in one group

has_not : (q x : Text) → bytes_eq x q ≡ true → (ys : List Text) (k : ℕ) →
    total (λ (f : Text). if bytes_eq f q then k else 0) (filter (λ (y : Text). not (bytes_eq x y)) ys) ≡ 0
has_not q x e [] k = refl
has_not q x e (y ∷ ys) k = step (bytes_eq x y) refl (bytes_eq y q) refl (has_not q x e ys k)
  where
    step : (b : Bool) → bytes_eq x y ≡ b → (c : Bool) → bytes_eq y q ≡ c →
        total (λ (f : Text). if bytes_eq f q then k else 0) (filter (λ (y : Text). not (bytes_eq x y)) ys) ≡ 0
        → total (λ (f : Text). if bytes_eq f q then k else 0) (cond (not b) (y ∷ filter (λ (y : Text). not (bytes_eq x y)) ys)
        (filter (λ (y : Text). not (bytes_eq x y)) ys)) ≡ 0
    step true f c g later = later
    step false f true g later =
        let same : x ≡ y = same_text x q e ∙ sym (same_text y q g) in
        let yes : bytes_eq x y ≡ true = subst (λ (z : Text). bytes_eq x z ≡ true) same (text_itself x) in
        let no : true ≡ false = sym yes ∙ f in cc
    step false f false g later = let here = ap (λ (b : Bool). (if b then k else 0)
        + total (λ (f : Text). if bytes_eq f q then k else 0) (filter (λ (y : Text). not (bytes_eq x y)) ys)) g in here
        ∙ (let zero_and = later in omega (arith, zero_and))

has_kept : (q x : Text) → bytes_eq x q ≡ false → (ys : List Text) (k : ℕ)
    → total (λ (f : Text). if bytes_eq f q then k else 0) (filter (λ (y : Text). not (bytes_eq x y)) ys)
    ≡ total (λ (f : Text). if bytes_eq f q then k else 0) ys
has_kept q x e [] k = refl
has_kept q x e (y ∷ ys) k = step (bytes_eq x y) refl (has_kept q x e ys k)
  where
    step : (b : Bool) → bytes_eq x y ≡ b → total (λ (f : Text). if bytes_eq f q then k else 0) (filter (λ (y : Text). not (bytes_eq x y)) ys)
        ≡ total (λ (f : Text). if bytes_eq f q then k else 0) ys
        → total (λ (f : Text). if bytes_eq f q then k else 0) (cond (not b) (y ∷ filter (λ (y : Text). not (bytes_eq x y)) ys)
        (filter (λ (y : Text). not (bytes_eq x y)) ys))
        ≡ (if bytes_eq y q then k else 0) + total (λ (f : Text). if bytes_eq f q then k else 0) ys
    step false f later = ap (λ (n : ℕ). (if bytes_eq y q then k else 0) + n) later
    step true f later =
        let same : bytes_eq y q ≡ false = subst (λ (z : Text). bytes_eq z q ≡ false) (same_text x y f) e in
        later ∙ (let plain : total (λ (f : Text). if bytes_eq f q then k else 0) ys ≡ 0
        + total (λ (f : Text). if bytes_eq f q then k else 0) ys = omega arith in plain)
        ∙ ap (λ (b : Bool). (if b then k else 0) + total (λ (f : Text). if bytes_eq f q then k else 0) ys) (sym same)

picked : (q : Text) (k : ℕ) (xs : List Text) → total (λ (f : Text). if bytes_eq f q then k else 0) (distinct xs) ≡ (if has q xs then k else 0)
picked q k [] = refl
picked q k (x ∷ xs) = step (bytes_eq x q) refl (picked q k xs)
  where
    step : (b : Bool) → bytes_eq x q ≡ b → total (λ (f : Text). if bytes_eq f q then k else 0) (distinct xs) ≡ (if has q xs then k else 0)
        → (if b then k else 0) + total (λ (f : Text). if bytes_eq f q then k else 0) (filter (λ (y : Text). not (bytes_eq x y)) (distinct xs))
        ≡ (if b || has q xs then k else 0)
    step true e later = let none = has_not q x e (distinct xs) k in omega (arith, none)
    step false e later = let kept = has_kept q x e (distinct xs) k in let plain : 0
        + total (λ (f : Text). if bytes_eq f q then k else 0) (filter (λ (y : Text). not (bytes_eq x y)) (distinct xs))
        ≡ total (λ (f : Text). if bytes_eq f q then k else 0) (filter (λ (y : Text). not (bytes_eq x y)) (distinct xs)) = omega arith in plain ∙ kept
        ∙ later

in_groups : (g : Text → ℕ) (xs names : List Text) → AllByRecursion (λ (name : Text). has (front_of name) xs ≡ true) names
    → total (λ (front : Text). total g (group_of names front)) (distinct xs) ≡ total g names
in_groups g xs [] h = total_zero (distinct xs)
in_groups g xs (name ∷ names) h =
    total_alike (λ (front : Text). total g (group_of (name ∷ names) front))
    (λ (front : Text). (if bytes_eq front (front_of name) then g name else 0) + total g (group_of names front)) (distinct xs) split
    ∙ total_sum (λ (front : Text). if bytes_eq front (front_of name) then g name else 0) (λ (front : Text). total g (group_of names front)) (distinct xs)
    ∙ ap₂ (λ (a b : ℕ). a + b) (picked (front_of name) (g name) xs ∙ ap (λ (b : Bool). if b then g name else 0) h.0) (in_groups g xs names h.1)
  where
    split : (front : Text) → total g (group_of (name ∷ names) front) ≡ (if bytes_eq front (front_of name) then g name else 0)
        + total g (group_of names front)
    split front = step (bytes_eq front (front_of name))
      where
        step : (b : Bool) → total g (cond b (name ∷ group_of names front) (group_of names front)) ≡ (if b then g name else 0)
            + total g (group_of names front)
        step true = refl
        step false = omega arith

own_fronts : (done names : List Text) → AllByRecursion (λ (name : Text). has (front_of name) (map front_of (done ++ names)) ≡ true) names
own_fronts done [] = tt
own_fronts done (name ∷ names) = (
  here done,
  subst (λ (all : List Text). AllByRecursion (λ (other : Text). has (front_of other) (map front_of all) ≡ true) names)
      (append_assoc done (name ∷ []) names) (own_fronts (done ++ name ∷ []) names),
)
  where
    here : (before : List Text) → has (front_of name) (map front_of (before ++ name ∷ names)) ≡ true
    here [] = ap (λ (b : Bool). b || has (front_of name) (map front_of names)) (text_itself (front_of name))
    here (other ∷ before) = or_right (bytes_eq (front_of other) (front_of name)) (has (front_of name) (map front_of (before ++ name ∷ names))) (here before)

-- ---- what names add, altogether

abbrev sum_of : List Text → ℕ
sum_of names = total suffix_len names + total encoded_len (fronts names)

pub packed_len : (n : Text) (ns : List Text) → encoded_len (pack (n ∷ ns)) + 3 ≡ sum_of (n ∷ ns)
packed_len n ns =
    let fs : List Text = fronts (n ∷ ns) in
    let used : AllByRecursion (IsUsed (n ∷ ns)) fs = distinct_kept (IsUsed (n ∷ ns)) (map front_of (n ∷ ns)) (used_fronts [] (n ∷ ns)) in
    let whole = joined 124 len_bar (group_text (n ∷ ns) (front_of n)) (map (group_text (n ∷ ns))
    (filter (λ (y : Text). not (bytes_eq (front_of n) y)) (distinct (map front_of ns)))) in
    let mapped = total_map (λ (part : Text). encoded_len part + 3) (group_text (n ∷ ns)) fs in
    let grouped = groups_len (n ∷ ns) fs used in
    let each = in_groups suffix_len (map front_of (n ∷ ns)) (n ∷ ns) (own_fronts [] (n ∷ ns)) in
    whole ∙ mapped ∙ grouped ∙ (let swapped : total encoded_len fs + total (λ (front : Text). total suffix_len (group_of (n ∷ ns) front)) fs
    ≡ total suffix_len (n ∷ ns) + total encoded_len fs = omega (arith, each) in swapped)

-- ---- one name more

among_has : (q : Text) (xs : List Text) → is_among xs q ≡ has q xs
among_has q [] = refl
among_has q (x ∷ xs) = ap₂ (λ (a b : Bool). a || b) (either (bytes_eq q x) refl (bytes_eq x q) refl) (among_has q xs)
  where
    either : (a : Bool) → bytes_eq q x ≡ a → (b : Bool) → bytes_eq x q ≡ b → a ≡ b
    either true e true f = refl
    either false e false f = refl
    either true e false f = let yes : bytes_eq x q ≡ true = subst (λ (y : Text). bytes_eq x y ≡ true) (sym (same_text q x e)) (text_itself x)
        in let no : true ≡ false = sym yes ∙ f in cc
    either false e true f = let yes : bytes_eq q x ≡ true = subst (λ (y : Text). bytes_eq q y ≡ true) (sym (same_text x q f)) (text_itself q)
        in let no : false ≡ true = sym e ∙ yes in cc

fronts_more : (before : List Text) (name : Text) → fronts (before ++ name ∷ [])
    ≡ cond (has (front_of name) (map front_of before)) (fronts before) (fronts before ++ front_of name ∷ [])
fronts_more before name = ap distinct (map-append front_of before (name ∷ [])) ∙ distinct_push (map front_of before) (front_of name)

added_step : (before : List Text) (name : Text) → added_len before name + sum_of before ≡ sum_of (before ++ name ∷ [])
added_step before name =
    ap (λ (b : Bool). 3 + encoded_len (if b then suffix_of name else name) + sum_of before) (among_has (front_of name) (map front_of before))
    ∙ step (has (front_of name) (map front_of before))
    ∙ ap (λ (fs : List Text). total suffix_len (before ++ name ∷ []) + total encoded_len fs) (sym (fronts_more before name))
  where
    step : (b : Bool) → 3 + encoded_len (if b then suffix_of name else name) + sum_of before
        ≡ total suffix_len (before ++ name ∷ []) + total encoded_len (cond b (fronts before) (fronts before ++ front_of name ∷ []))
    step true = let more = total_append suffix_len before (name ∷ []) in omega (arith, more)
    step false =
        let more = total_append suffix_len before (name ∷ []) in
        let front = total_append encoded_len (fronts before) (front_of name ∷ []) in
        let whole = len_name name in
        omega (arith, more, front, whole)

added_all : (before next : List Text) → added_lens before next + sum_of before ≡ sum_of (before ++ next)
added_all before [] = (let plain : 0 + sum_of before ≡ sum_of before = omega arith in plain)
    ∙ ap (λ (names : List Text). sum_of names) (sym (append-nil before))
added_all before (name ∷ next) =
    let here = added_step before name in
    let later = added_all (before ++ name ∷ []) next in
    let sum : added_len before name + added_lens (before ++ name ∷ []) next + sum_of before
    ≡ sum_of ((before ++ name ∷ []) ++ next) = omega (arith, here, later) in
    sum ∙ ap (λ (names : List Text). sum_of names) (append_assoc before (name ∷ []) next)

pub collected_sum : (names : List Text) → collected_len names ≡ sum_of names
collected_sum names = let all = added_all [] names in omega (arith, all)

-- packed names take three bytes less than what they add one after another
pub packed_collected : (n : Text) (ns : List Text) → encoded_len (pack (n ∷ ns)) + 3 ≡ collected_len (n ∷ ns)
packed_collected n ns = packed_len n ns ∙ sym (collected_sum (n ∷ ns))

-- what names add goes on name by name
pub collected_more : (names : List Text) (name : Text) → collected_len (names ++ name ∷ []) ≡ collected_len names + added_len names name
collected_more names name =
    let here = added_step names name in
    let before = collected_sum names in
    let after = collected_sum (names ++ name ∷ []) in
    omega (arith, here, before, after)
