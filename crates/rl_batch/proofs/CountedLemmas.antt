-- The rows of one batch, counted one by one.
use Rattle.std.proofs.Common.{◌≡◌, ◌≤◌, ◌<◌, ◌+◌, ◌-◌, ℕ, zero, suc, List, [], ◌∷◌, ◌++◌, Bool, true, false}
use Rattle.std.proofs.Common.{◌&&◌, ◌||◌, refl, ap, ap₂, sym, ◌∙◌, length, get_or, arith, map, take, drop, Bor}
use Rattle.std.specs.Prelude.{bytes_eq, if◌then◌else◌, nat_eq, nat_le}
use Rattle.std.specs.List.{list_all, list_any}
use Rattle.std.proofs.lemmas.Bool.{and_parts, eqb-true}
use Rattle.std.proofs.lemmas.Bool.Decides.{nat_tests}
use Rattle.std.proofs.lemmas.List.{take_more}
use Rattle.std.proofs.lemmas.List as lists
use Rattle.std.proofs.Math.Seq.{drop-cons}
use Rattle.rl_names.specs.Packing.{front_of, suffix_of}
use Rattle.rl_names.specs.declared.row.Row.{Row}
use Rattle.rl_view_spec.specs.Closure.{Text}
use Rattle.rl_view_spec.proofs.ChainsLemmas.{same}
use Rattle.rl_view_spec.proofs.PlacesLemmas.{bytes_eq-from}
use Rattle.rl_book_spec.specs.Batches.{Numbered, added_len, collected_len, encoded_len, group_rank, is_one_split, names_in, source_name}
use Rattle.rl_book_spec.proofs.LengthsLemmas.{collected_more}
use Rattle.rl_batch.specs.Split.{Open, Fills, cuts, cuts_from, fits, is_split, seen}
use Rattle.rl_batch.proofs.DistinctLemmas.{text_flips}
use Rattle.rl_batch.proofs.CutsLemmas.{joined, parted, map_take}

-- ---- one more row

pub seen_push : (xs : List (ℕ × Bor Row)) (x : ℕ × Bor Row) → map seen (xs ++ x ∷ []) ≡ map seen xs ++ seen x ∷ []
seen_push [] x = refl
seen_push (y ∷ xs) x = ap (λ (ys : List Numbered). seen y ∷ ys) (seen_push xs x)

pub names_push : (xs : List Numbered) (x : Numbered) → names_in (xs ++ x ∷ []) ≡ names_in xs ++ x.1.name ∷ []
names_push [] x = refl
names_push (y ∷ xs) x = ap (λ (ys : List Text). y.1.name ∷ ys) (names_push xs x)

pub fronts_push : (xs : List Text) (x : Text) → map front_of (xs ++ x ∷ []) ≡ map front_of xs ++ front_of x ∷ []
fronts_push [] x = refl
fronts_push (y ∷ xs) x = ap (λ (ys : List Text). front_of y ∷ ys) (fronts_push xs x)

pub all_push : (p : Numbered → Bool) (xs : List Numbered) (x : Numbered) → list_all p xs ≡ true → p x ≡ true → list_all p (xs ++ x ∷ []) ≡ true
all_push p [] x h e = ap (λ (b : Bool). b && true) e
all_push p (y ∷ xs) x h e = let parts = and_parts (p y) (list_all p xs) h in ap₂ (λ (a b : Bool). a && b) parts.0 (all_push p xs x parts.1 e)

pub seen_more : (rows : List (ℕ × Bor Row)) (i : ℕ) (d : ℕ × Bor Row) → i < length rows → map seen (take (i + 1) rows) ≡ map seen (take i rows)
    ++ seen (get_or rows i d) ∷ []
seen_more rows i d low = ap (map seen) (take_more rows i d low) ∙ seen_push (take i rows) (get_or rows i d)

pub len_more : (xs : List Numbered) (x : Numbered) (len added : ℕ) → len ≡ collected_len (names_in xs) → added ≡ added_len (names_in xs) x.1.name
    → len + added ≡ collected_len (names_in (xs ++ x ∷ []))
len_more xs x len added a b = ap₂ (λ (m n : ℕ). m + n) a b ∙ sym (ap collected_len (names_push xs x) ∙ collected_more (names_in xs) x.1.name)

-- ---- one source and one group

split_parts : (a b : Row) → is_split a b ≡ true → (source_name a.source ≡ source_name b.source) × (group_rank a.group ≡ group_rank b.group)
split_parts a b h = let parts = and_parts (bytes_eq (source_name a.source) (source_name b.source)) (nat_eq (group_rank a.group) (group_rank b.group)) h
    in (same _ _ parts.0, eqb-true _ _ parts.1)

swap_split : (a b c : Row) → is_split a b ≡ true → is_split b c ≡ is_split a c
swap_split a b c h = let parts = split_parts a b h in
    ap₂ (λ (s : Text) (g : ℕ). bytes_eq s (source_name c.source) && nat_eq g (group_rank c.group)) (sym parts.0) (sym parts.1)

all_split : (first : Row) (xs : List Numbered) (x : Numbered) → list_all (λ (other : Numbered). is_split first other.1) xs ≡ true → is_split first x.1
    ≡ true → is_one_split xs x ≡ true
all_split first [] x h e = refl
all_split first (y ∷ xs) x h e = let parts = and_parts (is_split first y.1) (list_all (λ (other : Numbered). is_split first other.1) xs) h in
    ap₂ (λ (a b : Bool). a && b) (swap_split first y.1 x.1 parts.0 ∙ e) (all_split first xs x parts.1 e)

pub one_split : (first : Numbered) (xs : List Numbered) (x : Numbered) → list_all (λ (other : Numbered). is_split first.1 other.1) (first ∷ xs) ≡ true
    → is_one_split (first ∷ xs) x ≡ is_split first.1 x.1
one_split first xs x h = step (is_split first.1 x.1) refl
  where
    step : (b : Bool) → is_split first.1 x.1 ≡ b → is_one_split (first ∷ xs) x ≡ b
    step true e = all_split first.1 (first ∷ xs) x h e
    step false e = ap (λ (b : Bool). b && is_one_split xs x) e

-- ---- within the limit

pub room_left : (limit base len added : ℕ) → 3 ≤ added → nat_le (base + 23 + len + added) limit ≡ nat_le (len + added) (limit - base - 23)
room_left limit base len added least = grind (arith, nat_tests, least)

pub fits_is : (base limit : ℕ) (first : Numbered) (xs : List Numbered) (x : Numbered) (len added room : ℕ)
    → list_all (λ (other : Numbered). is_split first.1 other.1) (first ∷ xs) ≡ true
    → len ≡ collected_len (names_in (first ∷ xs)) → added ≡ added_len (names_in (first ∷ xs)) x.1.name → 3 ≤ added → room
    ≡ limit - base - 23
    → fits base limit (first ∷ xs) x ≡ (is_split first.1 x.1 && nat_le (len + added) room)
fits_is base limit first xs x len added room h a b least e =
    ap₂ (λ (s t : Bool). s && t) (one_split first xs x h)
    (ap₂ (λ (m n : ℕ). nat_le (base + 23 + m + n) limit) (sym a) (sym b) ∙ room_left limit base len added least ∙ ap (nat_le (len + added)) (sym e))

-- ---- cuts

take_first : (rows more : List Numbered) (first : Numbered) (i : ℕ) → rows ≡ first ∷ more → take (suc i) rows ≡ first ∷ take i more
take_first rows more first i e = ap (take (suc i)) e

one_on : (i : ℕ) → suc i + 1 ≡ suc (suc i)
one_on i = omega arith

pub open_more : (base limit : ℕ) (rows : List Numbered) (i : ℕ) (x : Numbered) → i < length rows → get_or rows i x ≡ x
    → (0 < i → fits base limit (take i rows) x ≡ true) → Open base limit rows i → Open base limit rows (i + 1)
open_more base limit rows zero x low is fit opened joins first more e agree pos =
    ap (cuts joins) e ∙ sym (ap₂ (λ (xs ys : List Numbered). cuts_from joins xs ys) (ap (take 1) e) (ap (drop 1) e))
open_more base limit rows (suc i) x low is fit opened joins first more e agree pos =
    opened joins first more e agree (omega arith)
    ∙ ap (cuts_from joins (take (suc i) rows)) (drop-cons rows (suc i) x low ∙ ap (λ (y : Numbered). y ∷ drop (suc (suc i)) rows) is)
    ∙ joined joins (take (suc i) rows) x (drop (suc (suc i)) rows)
    (ap (λ (xs : List Numbered). joins xs x) (take_first rows more first i e) ∙ agree (take i more) x
    ∙ sym (ap (λ (xs : List Numbered). fits base limit xs x) (take_first rows more first i e)) ∙ fit (omega arith))
    ∙ ap₂ (λ (xs ys : List Numbered). cuts_from joins xs ys) (sym (take_more rows (suc i) x low
    ∙ ap (λ (y : Numbered). take (suc i) rows ++ y ∷ []) is)) (sym (ap (λ (k : ℕ). drop k rows) (one_on i)))

pub fills_here : (base limit : ℕ) (rows : List Numbered) (i : ℕ) (x : Numbered) → i < length rows → get_or rows i x ≡ x → 0 < i
    → fits base limit (take i rows) x ≡ false → Open base limit rows i → Fills base limit rows i
fills_here base limit rows zero x low is pos fit opened joins first more e agree = absurd (omega (arith, pos))
fills_here base limit rows (suc i) x low is pos fit opened joins first more e agree =
    let dropped : drop (suc i) rows ≡ x ∷ drop (suc (suc i)) rows = drop-cons rows (suc i) x low
    ∙ ap (λ (y : Numbered). y ∷ drop (suc (suc i)) rows) is in
    opened joins first more e agree pos
    ∙ ap (cuts_from joins (take (suc i) rows)) dropped
    ∙ parted joins (take (suc i) rows) x (drop (suc (suc i)) rows)
    (ap (λ (xs : List Numbered). joins xs x) (take_first rows more first i e) ∙ agree (take i more) x
    ∙ sym (ap (λ (xs : List Numbered). fits base limit xs x) (take_first rows more first i e)) ∙ fit)
    ∙ ap (λ (ys : List Numbered). take (suc i) rows ∷ cuts joins ys) (sym dropped)

pub all_taken : {X : Type 0} (xs : List X) → take (length xs) xs ≡ xs
all_taken [] = refl
all_taken {X = X} (x ∷ xs) = ap (λ (ys : List X). x ∷ ys) (all_taken xs)

all_dropped : {X : Type 0} (xs : List X) → drop (length xs) xs ≡ []
all_dropped [] = refl
all_dropped (x ∷ xs) = all_dropped xs

pub fills_all : (base limit : ℕ) (rows : List Numbered) (i : ℕ) → i ≡ length rows → 0 < i → Open base limit rows i → Fills base limit rows i
fills_all base limit rows i e pos opened joins first more is agree =
    let none : drop i rows ≡ [] = ap (λ (k : ℕ). drop k rows) e ∙ all_dropped rows in
    opened joins first more is agree pos ∙ ap (cuts_from joins (take i rows)) none ∙ sym (ap (λ (ys : List Numbered). take i rows ∷ cuts joins ys) none)

-- ---- fronts

any_flip : (q : Text) (xs : List Text) → list_any (bytes_eq q) xs ≡ list_any (λ (x : Text). bytes_eq x q) xs
any_flip q [] = refl
any_flip q (x ∷ xs) = ap₂ (λ (a b : Bool). a || b) (text_flips q x) (any_flip q xs)

pub added_is : (names : List Text) (name : Text) (there : Bool) (added : ℕ) → there
    ≡ list_any (λ (x : Text). bytes_eq x (front_of name)) (map front_of names)
    → added ≡ 3 + encoded_len (if there then suffix_of name else name) → added ≡ added_len names name
added_is names name there added e a = a ∙ ap (λ (b : Bool). 3 + encoded_len (if b then suffix_of name else name))
    (e ∙ sym (any_flip (front_of name) (map front_of names)))

-- ---- at the place of a row

pub fits_here : (base limit : ℕ) (rows : List (ℕ × Bor Row)) (i : ℕ) (d x : ℕ × Bor Row) (len added room : ℕ) → 0 < i → i < length rows
    → list_all (λ (other : Numbered). is_split (get_or rows 0 d).1.now other.1) (map seen (take i rows)) ≡ true
    → len ≡ collected_len (names_in (map seen (take i rows))) → added ≡ added_len (names_in (map seen (take i rows))) x.1.now.name → 3 ≤ added
    → room ≡ limit - base - 23
    → fits base limit (take i (map seen rows)) (seen x) ≡ (is_split (get_or rows 0 d).1.now x.1.now && nat_le (len + added) room)
fits_here base limit [] i d x len added room pos low h a b least e = absurd (omega (arith, low))
fits_here base limit (r ∷ rows) zero d x len added room pos low h a b least e = absurd (omega (arith, pos))
fits_here base limit (r ∷ rows) (suc i) d x len added room pos low h a b least e =
    ap (λ (xs : List Numbered). fits base limit xs (seen x)) (sym (map_take seen (suc i) (r ∷ rows)))
    ∙ fits_is base limit (seen r) (map seen (take i rows)) (seen x) len added room h a b least e

pub low_more : (rows : List (ℕ × Bor Row)) (i len added room : ℕ) → len ≡ collected_len (names_in (map seen (take i rows))) → added < 1024
    → (0 < i → len + added ≤ room) → len + added ≤ room + 1024
low_more rows zero len added room e most went = let none : len ≡ 0 = e in omega (arith, none, most)
low_more rows (suc i) len added room e most went = let low = went (omega arith) in omega (arith, low)

pub seen_at : (rows : List (ℕ × Bor Row)) (i : ℕ) (d : ℕ × Bor Row) (y : Numbered) → i < length rows → get_or (map seen rows) i y
    ≡ seen (get_or rows i d)
seen_at rows i d y low = lists.get_or-map seen rows i d y low

split_self : (a : Row) → is_split a a ≡ true
split_self a = ap₂ (λ (s t : Bool). s && t) (bytes_eq-from (source_name a.source) (source_name a.source) refl) (eqb-same (group_rank a.group))
  where
    eqb-same : (n : ℕ) → nat_eq n n ≡ true
    eqb-same n = grind (arith, nat_tests)

pub split_more : (rows : List (ℕ × Bor Row)) (i : ℕ) (d x : ℕ × Bor Row) → i < length rows → x ≡ get_or rows i x
    → list_all (λ (other : Numbered). is_split (get_or rows 0 d).1.now other.1) (map seen (take i rows)) ≡ true
    → (0 < i → is_split (get_or rows 0 d).1.now x.1.now ≡ true) → list_all (λ (other : Numbered). is_split (get_or rows 0 d).1.now other.1)
    (map seen (take (i + 1) rows)) ≡ true
split_more [] i d x low is h went = absurd (omega (arith, low))
split_more (r ∷ rows) zero d x low is h went = all_push (λ (other : Numbered). is_split r.1.now other.1) [] (seen r) refl (split_self r.1.now)
split_more (r ∷ rows) (suc i) d x low is h went =
    ap (list_all (λ (other : Numbered). is_split r.1.now other.1)) (seen_more (r ∷ rows) (suc i) x low)
    ∙ all_push (λ (other : Numbered). is_split r.1.now other.1) (map seen (take (suc i) (r ∷ rows))) (seen (get_or (r ∷ rows) (suc i) x)) h
    (ap (λ (y : ℕ × Bor Row). is_split r.1.now y.1.now) (sym is) ∙ went (omega arith))
