-- Groups that names are put into one after another are the groups of packing.
use Rattle.std.proofs.Common.{◌≡◌, ◌==◌, ℕ, zero, suc, ◌<◌, ◌≤◌, ◌+◌, Bool, true, false, ◌||◌, not, cond, Option, Some, None}
use Rattle.std.proofs.Common.{List, [], ◌∷◌, ◌++◌, length, map, get_or, set, refl, sym, ap, ◌∙◌, subst, arith, append_assoc, append-nil, filter}
use Rattle.std.proofs.Common.{flat_map, bytes_eq, unwrap_or, is_some, Result, Ok, Err, IfOk}
use Rattle.std.specs.List.{list_any, join_with_byte, position_from, AllByRecursion}
use Rattle.std.proofs.lemmas.Bool.{or_parts, or_from, or_right, ne_eqb}
use Rattle.std.proofs.lemmas.List.Folds.{list_any-append}
use Rattle.std.proofs.lemmas.List.{map-append}
use Rattle.std.proofs.lemmas.List.Elements.{filter-append}
use Rattle.rl_names.specs.Packing.{front_of, suffix_of, distinct, fronts, group_of, group_text, pack, packed_order, expand, AreNames}
use Rattle.rl_names.specs.declared.text.NoMemory.{NoMemory}
use Rattle.rl_names.specs.Grouping.{put_at, front_of_all, group_written}
use Rattle.rl_names.proofs.PackingLemmas.{same_text, text_itself, IsUsed, used_fronts, distinct_kept, packing_is_read_again}

-- ---- one more name, in the code's vectors

pub put_within : {A : Type 0} (f : A → List (List ℕ)) (gs : List A) (p : ℕ) (g d : A) (n : List ℕ) → p < length gs →
    f g ≡ f (get_or gs p d) ++ n ∷ [] → map f (set gs p g) ≡ put_at (map f gs) p n
put_within f [] p g d n within e = absurd (omega arith)
put_within f (x ∷ xs) zero g d n within e = ap (λ l. l ∷ map f xs) e
put_within f (x ∷ xs) (suc p) g d n within e = ap (λ l. f x ∷ l) (put_within f xs p g d n (omega arith) e)

behind : {A : Type 0} (f : A → List (List ℕ)) (gs : List A) (p : ℕ) (g : A) (n : List ℕ) → length gs ≤ p → f g ≡ n ∷ [] →
    map f (gs ++ g ∷ []) ≡ put_at (map f gs) p n
behind f [] p g n above e = ap (λ l. l ∷ []) e
behind f (x ∷ xs) zero g n above e = absurd (omega arith)
behind f (x ∷ xs) (suc p) g n above e = ap (λ l. f x ∷ l) (behind f xs p g n (omega arith) e)

pub put_behind : {A : Type 0} (f : A → List (List ℕ)) (gs after : List A) (p : ℕ) (g : A) (n : List ℕ) → after ≡ gs ++ g ∷ [] →
    length gs ≤ p → f g ≡ n ∷ [] → map f after ≡ put_at (map f gs) p n
put_behind f gs after p g n is above e = ap (map f) is ∙ behind f gs p g n above e

-- ---- tests of texts

agree : (xs ys : List ℕ) (v w : Bool) → bytes_eq xs ys ≡ v → bytes_eq ys xs ≡ w → v ≡ w
agree xs ys true true e f = refl
agree xs ys false false e f = refl
agree xs ys true false e f = absurd (let t : bytes_eq ys xs ≡ true = rw (same_text xs ys e) (text_itself ys) in cc)
agree xs ys false true e f = absurd (let t : bytes_eq xs ys ≡ true = rw (same_text ys xs f) (text_itself xs) in cc)

-- the test of two texts in either order
same_either_way : (xs ys : List ℕ) → bytes_eq xs ys ≡ bytes_eq ys xs
same_either_way xs ys = agree xs ys (bytes_eq xs ys) (bytes_eq ys xs) refl refl

-- whether a text is in a list
abbrev pub has : List ℕ → List (List ℕ) → Bool
has q xs = list_any (λ x. bytes_eq x q) xs

-- whether it is, with one more
pub has_more : (q : List ℕ) (xs : List (List ℕ)) (y : List ℕ) → cond (bytes_eq y q) true (has q xs) ≡ has q (xs ++ y ∷ [])
has_more q xs y =
    let either : (v w : Bool) → cond v true w ≡ (w || (v || false)) = λ v w. elim v as (λ a. cond a true w ≡ (w || (a || false))) [
      | true ↦ sym (or_right w true refl)
      | false ↦ elim w as (λ b. b ≡ (b || false)) [ true ↦ refl | false ↦ refl ]
    ] in
    either (bytes_eq y q) (has q xs) ∙ sym (list_any-append (λ x. bytes_eq x q) xs (y ∷ []))

-- ---- distinct texts

push_step : (more : Bool) (same : Bool) (x y : List ℕ) (d : List (List ℕ)) → bytes_eq x y ≡ same
    → x ∷ filter (λ z. not (bytes_eq x z)) (cond more d (d ++ y ∷ []))
    ≡ cond (same || more) (x ∷ filter (λ z. not (bytes_eq x z)) d) ((x ∷ filter (λ z. not (bytes_eq x z)) d) ++ y ∷ [])
push_step true true x y d e = refl
push_step true false x y d e = refl
push_step false true x y d e =
    ap (λ l. x ∷ l) (filter-append (λ z. not (bytes_eq x z)) d (y ∷ []) ∙ ap (λ v. filter (λ z. not (bytes_eq x z)) d ++ cond (not v) (y ∷ []) []) e
    ∙ append-nil (filter (λ z. not (bytes_eq x z)) d))
push_step false false x y d e =
    ap (λ l. x ∷ l) (filter-append (λ z. not (bytes_eq x z)) d (y ∷ [])
    ∙ ap (λ v. filter (λ z. not (bytes_eq x z)) d ++ cond (not v) (y ∷ []) []) e)

-- one more text: it is kept where none before is the same
pub distinct_push : (xs : List (List ℕ)) (y : List ℕ) → distinct (xs ++ y ∷ []) ≡ cond (has y xs) (distinct xs) (distinct xs ++ y ∷ [])
distinct_push [] y = refl
distinct_push (x ∷ xs) y =
    ap (λ l. x ∷ filter (λ z. not (bytes_eq x z)) l) (distinct_push xs y)
    ∙ push_step (has y xs) (bytes_eq x y) x y (distinct xs) refl

kept_step : (q x y : List ℕ) (v : Bool) (rest rest' : Bool) → bytes_eq x q ≡ false → bytes_eq x y ≡ v → rest ≡ rest' →
    (xs : List (List ℕ)) → has q xs ≡ rest
    → has q (cond (not v) (y ∷ xs) xs) ≡ (bytes_eq y q || rest')
kept_step q x y false rest rest' apart e same xs is = ap (λ v. bytes_eq y q || v) (is ∙ same)
kept_step q x y true rest rest' apart e same xs is =
    let other : bytes_eq y q ≡ false = rw (same_text x y e) at apart in
    rw other (is ∙ same)

-- to leave out what is the same as x takes away no other text
has_kept : (q x : List ℕ) (xs : List (List ℕ)) → bytes_eq x q ≡ false → has q (filter (λ y. not (bytes_eq x y)) xs) ≡ has q xs
has_kept q x [] apart = refl
has_kept q x (y ∷ ys) apart =
    kept_step q x y (bytes_eq x y) (has q (filter (λ z. not (bytes_eq x z)) ys)) (has q ys) apart refl (has_kept q x ys apart)
    (filter (λ z. not (bytes_eq x z)) ys) refl

has_distinct_step : (q x : List ℕ) (xs d : List (List ℕ)) (v : Bool) → bytes_eq x q ≡ v → has q d ≡ has q xs →
    (v || has q (filter (λ y. not (bytes_eq x y)) d)) ≡ (v || has q xs)
has_distinct_step q x xs d true e same = refl
has_distinct_step q x xs d false e same = has_kept q x d e ∙ same

pub has_distinct : (q : List ℕ) (xs : List (List ℕ)) → has q (distinct xs) ≡ has q xs
has_distinct q [] = refl
has_distinct q (x ∷ xs) = has_distinct_step q x xs (distinct xs) (bytes_eq x q) refl (has_distinct q xs)

-- no text stands twice
Once : List (List ℕ) → Type 0
Once [] = Unit {0}
Once (x ∷ xs) = (has x xs ≡ false) × Once xs

left_out_step : (x y : List ℕ) (v : Bool) (xs : List (List ℕ)) → bytes_eq x y ≡ v → has x xs ≡ false →
    has x (cond (not v) (y ∷ xs) xs) ≡ false
left_out_step x y true xs e h = h
left_out_step x y false xs e h = or_from (bytes_eq y x) (has x xs) (same_either_way y x ∙ e) h

left_out : (x : List ℕ) (xs : List (List ℕ)) → has x (filter (λ y. not (bytes_eq x y)) xs) ≡ false
left_out x [] = refl
left_out x (y ∷ ys) = left_out_step x y (bytes_eq x y) (filter (λ z. not (bytes_eq x z)) ys) refl (left_out x ys)

fewer_step : (q y : List ℕ) (v : Bool) (xs ys : List (List ℕ)) → (has q xs ≡ false) → (bytes_eq y q || has q ys) ≡ false →
    has q (cond v (y ∷ xs) xs) ≡ false
fewer_step q y false xs ys h k = h
fewer_step q y true xs ys h k = or_from (bytes_eq y q) (has q xs) (or_parts (bytes_eq y q) (has q ys) k).0 h

fewer : (q : List ℕ) (p : List ℕ → Bool) (xs : List (List ℕ)) → has q xs ≡ false → has q (filter p xs) ≡ false
fewer q p [] h = refl
fewer q p (y ∷ ys) h = fewer_step q y (p y) (filter p ys) ys (fewer q p ys (or_parts (bytes_eq y q) (has q ys) h).1) h

once_step : (v : Bool) (x : List ℕ) (xs : List (List ℕ)) → has x xs ≡ false → Once xs → Once (cond v (x ∷ xs) xs)
unfolding Once
once_step true x xs h o = (h, o)
once_step false x xs h o = o

once_kept : (p : List ℕ → Bool) (xs : List (List ℕ)) → Once xs → Once (filter p xs)
unfolding Once
once_kept p [] o = tt
once_kept p (x ∷ xs) o = once_step (p x) x (filter p xs) (fewer x p xs o.0) (once_kept p xs o.1)

once_distinct : (xs : List (List ℕ)) → Once (distinct xs)
unfolding Once
once_distinct [] = tt
once_distinct (x ∷ xs) = (left_out x (distinct xs), once_kept (λ y. not (bytes_eq x y)) (distinct xs) (once_distinct xs))

-- ---- the place of a front

place_from : (q : List ℕ) (i : ℕ) (xs : List (List ℕ)) → i ≤ unwrap_or (position_from (λ x. bytes_eq x q) i xs) (i + length xs)
place_from q i [] = omega arith
place_from q i (x ∷ xs) =
    elim (bytes_eq x q) as (λ v. i ≤ unwrap_or (cond v (Some i) (position_from (λ y. bytes_eq y q) (i + 1) xs)) (i + suc (length xs))) [
      | true ↦ omega arith
      | false ↦
          let later = place_from q (i + 1) xs in
          let same : i + 1 + length xs ≡ i + suc (length xs) = omega arith in
          let there : i + 1 ≤ unwrap_or (position_from (λ y. bytes_eq y q) (i + 1) xs) (i + suc (length xs)) = rw same at later in
          omega (arith, there)
    ]

-- ---- the groups after one more name

group_push : (names : List (List ℕ)) (name front : List ℕ) →
    group_of (names ++ name ∷ []) front ≡ cond (bytes_eq front (front_of name)) (group_of names front ++ name ∷ []) (group_of names front)
group_push names name front =
    filter-append (λ n. bytes_eq front (front_of n)) names (name ∷ [])
    ∙ elim (bytes_eq front (front_of name)) as (λ v. group_of names front ++ cond v (name ∷ []) []
    ≡ cond v (group_of names front ++ name ∷ []) (group_of names front)) [
      | true ↦ refl
      | false ↦ append-nil (group_of names front)
    ]

unchanged : (done : List (List ℕ)) (y : List ℕ) (fs : List (List ℕ)) → has (front_of y) fs ≡ false →
    map (group_of (done ++ y ∷ [])) fs ≡ map (group_of done) fs
unchanged done y [] h = refl
unchanged done y (f ∷ fs) h =
    let parts = or_parts (bytes_eq f (front_of y)) (has (front_of y) fs) h in
    let first : group_of (done ++ y ∷ []) f ≡ group_of done f = group_push done y f
    ∙ ap (λ v. cond v (group_of done f ++ y ∷ []) (group_of done f)) parts.0 in
    ap (λ g. g ∷ map (group_of (done ++ y ∷ [])) fs) first ∙ ap (λ gs. group_of done f ∷ gs) (unchanged done y fs parts.1)

grown_group : (done : List (List ℕ)) (y f : List ℕ) → bytes_eq f (front_of y) ≡ true → group_of (done ++ y ∷ []) f ≡ group_of done f ++ y ∷ []
grown_group done y f e = group_push done y f ∙ ap (λ v. cond v (group_of done f ++ y ∷ []) (group_of done f)) e

-- the fronts after one more name
fronts_after : List (List ℕ) → List ℕ → List (List ℕ)
fronts_after fs front = cond (has front fs) fs (fs ++ front ∷ [])

IsPlace : ℕ → ℕ → List ℕ → List (List ℕ) → Type 0
IsPlace i place front fs = i + place ≡ unwrap_or (position_from (λ f. bytes_eq f front) i fs) (i + length fs)

puts_step : (done : List (List ℕ)) (y : List ℕ) (i : ℕ) (f : List ℕ) (fs : List (List ℕ)) (v : Bool) → bytes_eq f (front_of y) ≡ v →
    Once (f ∷ fs)
    → (place : ℕ) → i + place ≡ unwrap_or (cond v (Some i) (position_from (λ g. bytes_eq g (front_of y)) (i + 1) fs)) (i + suc (length fs))
    → ((p : ℕ) → v ≡ false → IsPlace (i + 1) p (front_of y) fs →
    put_at (map (group_of done) fs) p y ≡ map (group_of (done ++ y ∷ [])) (fronts_after fs (front_of y)))
    → put_at (map (group_of done) (f ∷ fs)) place y ≡ map (group_of (done ++ y ∷ []))
    (cond (v || has (front_of y) fs) (f ∷ fs) (f ∷ (fs ++ front_of y ∷ [])))
unfolding Once IsPlace fronts_after
puts_step done y i f fs true e once zero at more =
    let none : has (front_of y) fs ≡ false = rw (same_text f (front_of y) e) at once.0 in
    ap (λ g. g ∷ map (group_of done) fs) (sym (grown_group done y f e)) ∙ ap (λ gs. group_of (done ++ y ∷ []) f ∷ gs) (sym (unchanged done y fs none))
puts_step done y i f fs true e once (suc place) at more = absurd (omega arith)
puts_step done y i f fs false e once zero at more =
    absurd (
    let least = place_from (front_of y) (i + 1) fs in
    let same : i + 1 + length fs ≡ i + suc (length fs) = omega arith in
    let there : i + 1 ≤ unwrap_or (position_from (λ g. bytes_eq g (front_of y)) (i + 1) fs) (i + suc (length fs)) = rw same at least in
    omega (arith, there, at)
    )
puts_step done y i f fs false e once (suc place) at more =
    let same : i + suc (length fs) ≡ i + 1 + length fs = omega arith in
    let there : i + suc place ≡ unwrap_or (position_from (λ g. bytes_eq g (front_of y)) (i + 1) fs) (i + 1 + length fs) = rw same at at in
    let here : i + 1 + place ≡ unwrap_or (position_from (λ g. bytes_eq g (front_of y)) (i + 1) fs) (i + 1 + length fs) = omega (arith, there) in
    let first : group_of (done ++ y ∷ []) f ≡ group_of done f = group_push done y f
    ∙ ap (λ v. cond v (group_of done f ++ y ∷ []) (group_of done f)) e in
    let out : cond (has (front_of y) fs) (f ∷ fs) (f ∷ (fs ++ front_of y ∷ [])) ≡ f ∷ cond (has (front_of y) fs) fs (fs ++ front_of y ∷ []) =
    elim (has (front_of y) fs) as (λ w. cond w (f ∷ fs) (f ∷ (fs ++ front_of y ∷ [])) ≡ f
    ∷ cond w fs (fs ++ front_of y ∷ [])) [ true ↦ refl | false ↦ refl ] in
    ap (λ gs. group_of done f ∷ gs) (more place refl here)
    ∙ ap (λ g. g ∷ map (group_of (done ++ y ∷ [])) (cond (has (front_of y) fs) fs (fs ++ front_of y ∷ []))) (sym first)
    ∙ ap (map (group_of (done ++ y ∷ []))) (sym out)

puts : (done : List (List ℕ)) (y : List ℕ) (i : ℕ) (fs : List (List ℕ)) → Once fs →
    (has (front_of y) fs ≡ false → group_of done (front_of y) ≡ [])
    → (place : ℕ) → IsPlace i place (front_of y) fs →
    put_at (map (group_of done) fs) place y ≡ map (group_of (done ++ y ∷ [])) (fronts_after fs (front_of y))
unfolding Once IsPlace fronts_after
puts done y i [] once none place at =
    ap (λ g. g ∷ []) (sym (grown_group done y (front_of y) (text_itself (front_of y)) ∙ ap (λ l. l ++ y ∷ []) (none refl)))
puts done y i (f ∷ fs) once none place at =
    puts_step done y i f fs (bytes_eq f (front_of y)) refl once place at
    (λ p apart there. puts done y (i + 1) fs once.1 (λ h. none (or_from (bytes_eq f (front_of y)) (has (front_of y) fs) apart h)) p there)

no_group : (front : List ℕ) (done : List (List ℕ)) → has front (map front_of done) ≡ false → group_of done front ≡ []
no_group front [] h = refl
no_group front (n ∷ ns) h =
    let parts = or_parts (bytes_eq (front_of n) front) (has front (map front_of ns)) h in
    let apart : bytes_eq front (front_of n) ≡ false = same_either_way front (front_of n) ∙ parts.0 in
    rw apart (no_group front ns parts.1)

fronts_push : (done : List (List ℕ)) (y : List ℕ) → fronts (done ++ y ∷ []) ≡ fronts_after (fronts done) (front_of y)
unfolding fronts_after
fronts_push done y =
    ap distinct (map-append front_of done (y ∷ [])) ∙ distinct_push (map front_of done) (front_of y)
    ∙ ap (λ v. cond v (fronts done) (fronts done ++ front_of y ∷ [])) (sym (has_distinct (front_of y) (map front_of done)))

-- a name that is put at the place of its front
pub name_put : (done : List (List ℕ)) (y : List ℕ) (place : ℕ) →
    place ≡ unwrap_or (position_from (λ f. bytes_eq f (front_of y)) 0 (fronts done)) (length (fronts done))
    → put_at (map (group_of done) (fronts done)) place y ≡ map (group_of (done ++ y ∷ [])) (fronts (done ++ y ∷ []))
unfolding IsPlace
name_put done y place at =
    let none : has (front_of y) (fronts done) ≡ false → group_of done (front_of y)
    ≡ [] = λ h. no_group (front_of y) done (sym (has_distinct (front_of y) (map front_of done)) ∙ h) in
    let start : 0 + length (fronts done) ≡ length (fronts done) = omega arith in
    let there : 0 + place ≡ unwrap_or (position_from (λ f. bytes_eq f (front_of y)) 0 (fronts done)) (0 + length (fronts done)) =
    rw start (omega (arith, at)) in
    puts done y 0 (fronts done) (once_distinct (map front_of done)) none place there ∙ ap (map (group_of (done ++ y ∷ []))) (sym (fronts_push done y))

-- ---- the places after one more name

found_step : (p : List ℕ → Bool) (y : List ℕ) (i n m : ℕ) (v : Bool) (o o' : Option ℕ) → i + 1 + m ≡ n →
    o' ≡ cond (is_some o) o (cond (p y) (Some (i + 1 + m)) None)
    → cond v (Some i) o' ≡ cond (is_some (cond v (Some i) o)) (cond v (Some i) o) (cond (p y) (Some n) None)
found_step p y i n m true o o' same is = refl
found_step p y i n m false o o' same is = is ∙ ap (λ k. cond (is_some o) o (cond (p y) (Some k) None)) same

position_push : (p : List ℕ → Bool) (i : ℕ) (xs : List (List ℕ)) (y : List ℕ)
    → position_from p i (xs ++ y ∷ []) ≡ cond (is_some (position_from p i xs)) (position_from p i xs) (cond (p y) (Some (i + length xs)) None)
position_push p i [] y = ap (λ k. cond (p y) (Some k) None) (omega arith)
position_push p i (x ∷ xs) y =
    found_step p y i (i + suc (length xs)) (length xs) (p x) (position_from p (i + 1) xs) (position_from p (i + 1) (xs ++ y ∷ [])) (omega arith)
    (position_push p (i + 1) xs y)

is_found : (p : List ℕ → Bool) (i : ℕ) (xs : List (List ℕ)) → is_some (position_from p i xs) ≡ list_any p xs
is_found p i [] = refl
is_found p i (x ∷ xs) = elim (p x) as (λ v. is_some (cond v (Some i) (position_from p (i + 1) xs))
    ≡ (v || list_any p xs)) [ true ↦ refl | false ↦ is_found p (i + 1) xs ]

kept_found : (o : Option ℕ) → cond (is_some o) o None ≡ o
kept_found None = refl
kept_found (Some k) = refl

known : (o : Option ℕ) (n : ℕ) → is_some o ≡ true → Some (unwrap_or o n) ≡ o
known None n e = absurd (cc)
known (Some k) n e = refl

unknown : (o : Option ℕ) (n : ℕ) → is_some o ≡ false → unwrap_or o n ≡ n
unknown None n e = refl
unknown (Some k) n e = absurd (cc)

noted_same : (fs : List (List ℕ)) (front : List ℕ) (v : Bool) → has front fs ≡ v
    → Some (unwrap_or (position_from (λ f. bytes_eq f front) 0 fs) (length fs)) ≡ position_from (λ f. bytes_eq f front) 0 (cond v fs (fs ++ front ∷ []))
noted_same fs front true e = known (position_from (λ f. bytes_eq f front) 0 fs) (length fs) (is_found (λ f. bytes_eq f front) 0 fs ∙ e)
noted_same fs front false e =
    let none : is_some (position_from (λ f. bytes_eq f front) 0 fs) ≡ false = is_found (λ f. bytes_eq f front) 0 fs ∙ e in
    let start : length fs ≡ 0 + length fs = omega arith in
    ap Some (unknown (position_from (λ f. bytes_eq f front) 0 fs) (length fs) none ∙ start)
    ∙ sym (position_push (λ f. bytes_eq f front) 0 fs front ∙ rw (none, text_itself front) refl)

noted_other : (fs : List (List ℕ)) (front q : List ℕ) (v : Bool) → bytes_eq front q ≡ false
    → position_from (λ f. bytes_eq f q) 0 fs ≡ position_from (λ f. bytes_eq f q) 0 (cond v fs (fs ++ front ∷ []))
noted_other fs front q true apart = refl
noted_other fs front q false apart =
    sym (position_push (λ f. bytes_eq f q) 0 fs front ∙ rw apart (kept_found (position_from (λ f. bytes_eq f q) 0 fs)))

noted_step : (fs : List (List ℕ)) (front q : List ℕ) (v : Bool) → bytes_eq front q ≡ v
    → cond v (Some (unwrap_or (position_from (λ f. bytes_eq f front) 0 fs) (length fs))) (position_from (λ f. bytes_eq f q) 0 fs)
    ≡ position_from (λ f. bytes_eq f q) 0 (cond (has front fs) fs (fs ++ front ∷ []))
noted_step fs front q true e =
    let P : List ℕ → Type 0 = λ r. Some (unwrap_or (position_from (λ f. bytes_eq f front) 0 fs) (length fs))
    ≡ position_from (λ f. bytes_eq f r) 0 (cond (has front fs) fs (fs ++ front ∷ [])) in
    subst P (same_text front q e) (noted_same fs front (has front fs) refl)
noted_step fs front q false e = noted_other fs front q (has front fs) e

pub place_noted : (done : List (List ℕ)) (y : List ℕ) (place : ℕ) →
    place ≡ unwrap_or (position_from (λ f. bytes_eq f (front_of y)) 0 (fronts done)) (length (fronts done))
    → (q : List ℕ) → cond (bytes_eq (front_of y) q) (Some place) (position_from (λ f. bytes_eq f q) 0 (fronts done))
    ≡ position_from (λ f. bytes_eq f q) 0 (fronts (done ++ y ∷ []))
unfolding fronts_after
place_noted done y place at q =
    ap (λ p. cond (bytes_eq (front_of y) q) (Some p) (position_from (λ f. bytes_eq f q) 0 (fronts done))) at
    ∙ noted_step (fronts done) (front_of y) q (bytes_eq (front_of y) q) refl
    ∙ ap (position_from (λ f. bytes_eq f q) 0) (sym (fronts_push done y))

-- ---- what is written

some : List (List ℕ) → Bool
some [] = false
some (x ∷ xs) = true

-- what one more text adds to texts that are joined
join_push : (c : ℕ) (xs : List (List ℕ)) (y : List ℕ) → join_with_byte c (xs ++ y ∷ []) ≡ join_with_byte c xs ++ cond (some xs) (c ∷ y) y
unfolding some
join_push c [] y = refl
join_push c (x ∷ []) y = refl
join_push c (x ∷ z ∷ zs) y = ap (λ l. x ++ (c ∷ l)) (join_push c (z ∷ zs) y) ∙ sym (append_assoc x (c ∷ join_with_byte c (z ∷ zs)) (c ∷ y))

later : (n i : ℕ) → suc n ≡ i → (i == 0) ≡ false
later n i at = ne_eqb i 0 (λ e. omega arith)

-- one more piece of a joined text, at its place
pub join_more : (c : ℕ) (xs : List (List ℕ)) (i : ℕ) (y : List ℕ) → length xs ≡ i →
    join_with_byte c (xs ++ y ∷ []) ≡ join_with_byte c xs ++ (cond (i == 0) [] (c ∷ []) ++ y)
unfolding some
join_more c [] i y at = rw (← at) refl
join_more c (x ∷ xs) i y at = join_push c (x ∷ xs) y ∙ rw (later (length xs) i at) refl

-- one more name of a group, at its place
pub written_more : (names : List (List ℕ)) (i : ℕ) (y : List ℕ) → length names ≡ i →
    group_written (names ++ y ∷ []) ≡ group_written names ++ (cond (i == 0) (front_of y) (44 ∷ []) ++ suffix_of y)
unfolding some
written_more [] i y at = rw (← at) refl
written_more (n ∷ ns) i y at =
    let joined : join_with_byte 44 (map suffix_of (n ∷ (ns ++ y ∷ []))) ≡ join_with_byte 44 (map suffix_of (n ∷ ns)) ++ 44 ∷ suffix_of y =
    ap (join_with_byte 44) (map-append suffix_of (n ∷ ns) (y ∷ [])) ∙ join_push 44 (map suffix_of (n ∷ ns)) (suffix_of y) in
    ap (λ l. front_of n ++ l) joined ∙ sym (append_assoc (front_of n) (join_with_byte 44 (map suffix_of (n ∷ ns))) (44 ∷ suffix_of y))
    ∙ rw (later (length ns) i at) refl

-- the front of a group is that of its first name
front_shared_step : (v : Bool) (f n : List ℕ) (ns : List (List ℕ)) → bytes_eq f (front_of n) ≡ v →
    (v || list_any (λ name. bytes_eq f (front_of name)) ns) ≡ true
    → (list_any (λ name. bytes_eq f (front_of name)) ns ≡ true → front_of_all (group_of ns f) ≡ f) →
    front_of_all (cond v (n ∷ group_of ns f) (group_of ns f)) ≡ f
front_shared_step true f n ns e h more = sym (same_text f (front_of n) e)
front_shared_step false f n ns e h more = more h

front_shared : (names : List (List ℕ)) (f : List ℕ) → IsUsed names f → front_of_all (group_of names f) ≡ f
front_shared [] f h = absurd (cc)
front_shared (n ∷ ns) f h = front_shared_step (bytes_eq f (front_of n)) f n ns refl h (front_shared ns f)

groups_written : (names fs : List (List ℕ)) → AllByRecursion (IsUsed names) fs → map group_written (map (group_of names) fs) ≡ map (group_text names) fs
groups_written names [] used = refl
groups_written names (f ∷ fs) used =
    ap (λ front. (front ++ join_with_byte 44 (map suffix_of (group_of names f))) ∷ map group_written (map (group_of names) fs)) (front_shared names f used.0)
    ∙ ap (λ l. group_text names f ∷ l) (groups_written names fs used.1)

map_map : {A : Type 0} (f : A → List (List ℕ)) (g : List (List ℕ) → List ℕ) (xs : List A) → map (λ x. g (f x)) xs ≡ map g (map f xs)
map_map f g [] = refl
map_map f g (x ∷ xs) = ap (λ l. g (f x) ∷ l) (map_map f g xs)

flat_map_map : {A : Type 0} (f : A → List (List ℕ)) (xs : List A) → flat_map f xs ≡ flat_map (λ l. l) (map f xs)
flat_map_map f [] = refl
flat_map_map f (x ∷ xs) = ap (λ l. f x ++ l) (flat_map_map f xs)

-- the groups of the code, written, are the packed text
pub groups_pack : {A : Type 0} (f : A → List (List ℕ)) (gs : List A) (names : List (List ℕ)) → map f gs ≡ map (group_of names) (fronts names)
    → join_with_byte 124 (map (λ g. group_written (f g)) gs) ≡ pack names
groups_pack f gs names is =
    let used = distinct_kept (IsUsed names) (map front_of names) (used_fronts [] names) in
    ap (join_with_byte 124) (map_map f group_written gs ∙ ap (map group_written) is ∙ groups_written names (fronts names) used)

-- and one after another they are the names in packed order
pub groups_order : {A : Type 0} (f : A → List (List ℕ)) (gs : List A) (names : List (List ℕ)) → map f gs ≡ map (group_of names) (fronts names)
    → flat_map f gs ≡ packed_order names
groups_order f gs names is = flat_map_map f gs ∙ ap (flat_map (λ l. l)) is ∙ sym (flat_map_map (group_of names) (fronts names))

pub expands_again : (names : List (List ℕ)) (r : Result (List ℕ) NoMemory) → IfOk r (λ t. t ≡ pack names) → AreNames names →
    IfOk r (λ t. 0 < length names → expand t ≡ packed_order names)
expands_again names (Ok t) is all = λ some_names. ap expand is ∙ packing_is_read_again names some_names all
expands_again names (Err e) is all = tt
