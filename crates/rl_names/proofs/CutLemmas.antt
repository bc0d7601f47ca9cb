-- A text cut at its last byte that passes: the two parts, and what they are where the place is known.
use Rattle.std.proofs.Common.{◌≡◌, ℕ, suc, ◌<◌, ◌+◌, ◌-◌, Bool, true, false, ◌||◌, cond, List, [], ◌∷◌, ◌++◌, length, get_or}
use Rattle.std.proofs.Common.{take, drop, length-drop, length-append, refl, sym, ap, ◌∙◌, arith, append_assoc}
use Rattle.std.specs.List.{list_any}
use Rattle.std.proofs.lemmas.Bool.{or_from, or_right}
use Rattle.std.proofs.Math.Seq.{take-append_seam}
use Rattle.std.proofs.lemmas.List.{take-append-drop, take_more, get_or-drop}
use Rattle.std.proofs.lemmas.List.Folds.{list_any-append, list_any_at}
use Rattle.rl_names.specs.Cut.{front_by, suffix_by, before_by}

-- ---- the parts

pub cut : (p : ℕ → Bool) (xs : List ℕ) → front_by p xs ++ suffix_by p xs ≡ xs
cut p [] = refl
cut p (b ∷ bs) =
    elim (list_any p (b ∷ bs)) as (λ v. cond v (b ∷ front_by p bs) [] ++ cond v (suffix_by p bs) (b ∷ bs) ≡ b ∷ bs) [
      | true ↦ ap (λ l. b ∷ l) (cut p bs)
      | false ↦ refl
    ]

none_step : (p : ℕ → Bool) (v : Bool) (b : ℕ) (bs : List ℕ) → list_any p (b ∷ bs) ≡ v → list_any p (suffix_by p bs) ≡ false →
    list_any p (cond v (suffix_by p bs) (b ∷ bs)) ≡ false
none_step p true b bs e h = h
none_step p false b bs e h = e

-- nothing in the suffix passes
pub none_after : (p : ℕ → Bool) (xs : List ℕ) → list_any p (suffix_by p xs) ≡ false
none_after p [] = refl
none_after p (b ∷ bs) = none_step p (list_any p (b ∷ bs)) b bs refl (none_after p bs)

pub any_front : (p : ℕ → Bool) (xs : List ℕ) → list_any p (front_by p xs) ≡ list_any p xs
any_front p xs =
    let whole : list_any p xs ≡ (list_any p (front_by p xs) || list_any p (suffix_by p xs)) = ap (list_any p) (sym (cut p xs))
    ∙ list_any-append p (front_by p xs) (suffix_by p xs) in
    let or_false : (a : Bool) → (a || false) ≡ a = λ (a : Bool). elim a as (λ v. (v || false) ≡ v) [ true ↦ refl | false ↦ refl ] in
    sym (whole ∙ ap (λ v. list_any p (front_by p xs) || v) (none_after p xs) ∙ or_false (list_any p (front_by p xs)))

front_step : (p : ℕ → Bool) (v : Bool) (b : ℕ) (bs : List ℕ) → list_any p (b ∷ bs) ≡ v → front_by p (front_by p bs) ≡ front_by p bs →
    front_by p (cond v (b ∷ front_by p bs) []) ≡ cond v (b ∷ front_by p bs) []
front_step p false b bs e h = refl
front_step p true b bs e h =
    let still : (p b || list_any p (front_by p bs)) ≡ true = ap (λ v. p b || v) (any_front p bs) ∙ e in
    rw still (ap (λ l. b ∷ l) h)

-- a front is its own front
pub front_front : (p : ℕ → Bool) (xs : List ℕ) → front_by p (front_by p xs) ≡ front_by p xs
front_front p [] = refl
front_front p (b ∷ bs) = front_step p (list_any p (b ∷ bs)) b bs refl (front_front p bs)

front_cons : (v : Bool) (b : ℕ) (x bs : List ℕ) → cond v (b ∷ x) [] ≡ b ∷ bs → (v ≡ true) × (x ≡ bs)
front_cons true b x bs e = (refl, cc)
front_cons false b x bs e = absurd (cc)

pub no_front : (p : ℕ → Bool) (xs : List ℕ) → list_any p xs ≡ false → front_by p xs ≡ []
no_front p [] h = refl
no_front p (b ∷ bs) h = rw h refl

pub all_suffix : (p : ℕ → Bool) (xs : List ℕ) → list_any p xs ≡ false → suffix_by p xs ≡ xs
all_suffix p [] h = refl
all_suffix p (b ∷ bs) h = rw h refl

any_more : (p : ℕ → Bool) (b : ℕ) (bs ys : List ℕ) → list_any p (b ∷ bs) ≡ true → list_any p (b ∷ (bs ++ ys)) ≡ true
any_more p b bs ys h = list_any-append p (b ∷ bs) ys ∙ ap (λ v. v || list_any p ys) h

-- a front, and after it what has none that passes, are the front and the suffix of both together
pub front-append : (p : ℕ → Bool) (xs ys : List ℕ) → front_by p xs ≡ xs → list_any p ys ≡ false → front_by p (xs ++ ys) ≡ xs
front-append p [] ys h k = no_front p ys k
front-append p (b ∷ bs) ys h k =
    let parts = front_cons (list_any p (b ∷ bs)) b (front_by p bs) bs h in
    rw (any_more p b bs ys parts.0) (ap (λ l. b ∷ l) (front-append p bs ys parts.1 k))

pub suffix-append : (p : ℕ → Bool) (xs ys : List ℕ) → front_by p xs ≡ xs → list_any p ys ≡ false → suffix_by p (xs ++ ys) ≡ ys
suffix-append p [] ys h k = all_suffix p ys k
suffix-append p (b ∷ bs) ys h k =
    let parts = front_cons (list_any p (b ∷ bs)) b (front_by p bs) bs h in
    rw (any_more p b bs ys parts.0) (suffix-append p bs ys parts.1 k)

-- ---- where the place is known

any_last : (p : ℕ → Bool) (xs : List ℕ) (c : ℕ) → p c ≡ true → list_any p (xs ++ c ∷ []) ≡ true
any_last p xs c h = list_any-append p xs (c ∷ []) ∙ or_right (list_any p xs) (p c || false) (rw h refl)

ends_with : (p : ℕ → Bool) (xs : List ℕ) (c : ℕ) → p c ≡ true → front_by p (xs ++ c ∷ []) ≡ xs ++ c ∷ []
ends_with p [] c h = rw h refl
ends_with p (b ∷ bs) c h = rw (any_last p (b ∷ bs) c h) (ap (λ l. b ∷ l) (ends_with p bs c h))

-- the parts round a byte that passes, after which none does
pub cut_round : (p : ℕ → Bool) (xs : List ℕ) (c : ℕ) (ys : List ℕ) → p c ≡ true → list_any p ys ≡ false
    → (front_by p (xs ++ c ∷ ys) ≡ xs ++ c ∷ []) × (suffix_by p (xs ++ c ∷ ys) ≡ ys)
cut_round p xs c ys h k =
    let whole : xs ++ c ∷ ys ≡ (xs ++ c ∷ []) ++ ys = sym (append_assoc xs (c ∷ []) ys) in (
      ap (front_by p) whole ∙ front-append p (xs ++ c ∷ []) ys (ends_with p xs c h) k,
      ap (suffix_by p) whole ∙ suffix-append p (xs ++ c ∷ []) ys (ends_with p xs c h) k,
    )

pub before_round : (p : ℕ → Bool) (xs : List ℕ) (c : ℕ) (ys : List ℕ) → p c ≡ true → list_any p ys ≡ false →
    before_by p (xs ++ c ∷ ys) ≡ xs
before_round p xs c ys h k =
    let front : length (front_by p (xs ++ c ∷ ys)) - 1 ≡ length xs = omega (arith, ap length (cut_round p xs c ys h k).0, length-append xs (c ∷ [])) in
    ap (λ n. take n (xs ++ c ∷ ys)) front ∙ take-append_seam xs (c ∷ ys)

pub none_from_places : (p : ℕ → Bool) (bs : List ℕ) → ((i : ℕ) → i < length bs → p (get_or bs i 0) ≡ false) → list_any p bs ≡ false
none_from_places p [] h = refl
none_from_places p (b ∷ bs) h = or_from (p b) (list_any p bs) (h 0 (omega arith)) (none_from_places p bs (λ i within. h (suc i) (omega arith)))

-- the same, by the place of that byte
pub cut_at : (p : ℕ → Bool) (bs : List ℕ) (k : ℕ) → k < length bs → p (get_or bs k 0) ≡ true →
    ((i : ℕ) → k < i → i < length bs → p (get_or bs i 0) ≡ false)
    → (front_by p bs ≡ take (k + 1) bs) × (suffix_by p bs ≡ drop (k + 1) bs) × (before_by p bs ≡ take k bs)
cut_at p bs k within here later =
    let c = get_or bs k 0 in
    let front : take (k + 1) bs ≡ take k bs ++ c ∷ [] = take_more bs k 0 within in
    let whole : bs ≡ take k bs ++ c ∷ drop (k + 1) bs = sym (take-append-drop (k + 1) bs) ∙ ap (λ l. l ++ drop (k + 1) bs) front
    ∙ append_assoc (take k bs) (c ∷ []) (drop (k + 1) bs) in
    let none : list_any p (drop (k + 1) bs) ≡ false =
    none_from_places p (drop (k + 1) bs) (λ i inside. ap p (get_or-drop (k + 1) bs i 0)
    ∙ later (k + 1 + i) (omega arith) (omega (arith, length-drop (k + 1) bs))) in
    let parts = cut_round p (take k bs) c (drop (k + 1) bs) here none in (
      ap (front_by p) whole ∙ parts.0 ∙ sym front,
      ap (suffix_by p) whole ∙ parts.1,
      ap (before_by p) whole ∙ before_round p (take k bs) c (drop (k + 1) bs) here none,
    )

-- and where there is none
pub cut_nowhere : (p : ℕ → Bool) (bs : List ℕ) → list_any p bs ≡ false → (front_by p bs ≡ []) × (suffix_by p bs ≡ bs)
cut_nowhere p bs h = (no_front p bs h, all_suffix p bs h)

pub any_at : (p : ℕ → Bool) (bs : List ℕ) (k : ℕ) → k < length bs → p (get_or bs k 0) ≡ true → list_any p bs ≡ true
any_at p bs k within here = list_any_at p bs k 0 within here
