-- Lists whose elements are changed one after another.
use Rattle.std.proofs.Common.{◌≡◌, ◌++◌, ◌∷◌, [], ◌∙◌, ◌<◌, ◌≤◌, ◌+◌, ℕ, List, Bool, ◌||◌, map, set}
use Rattle.std.proofs.Common.{take, drop, length, get_or, sym, ap, refl, subst, arith}
use Rattle.std.specs.List.{list_any, All}
use Rattle.std.proofs.Math.Seq.{map-set_same}
use Rattle.std.proofs.lemmas.List.{map-set, append_assoc, drop_more, map_more, set_at, get_or_at, get_or-map, length-map, length-take-le, take_more_set}
use Rattle.std.proofs.lemmas.List.{take_all, drop-set-lt, drop-drop, get_or-drop, length-drop}
use Rattle.std.proofs.lemmas.List.Elements.{All-push, All-same, All-drop, All-get_or}
use Rattle.std.proofs.lemmas.List.Folds.{list_any_more}

-- one element is replaced by another of which f is the same
pub kept : {A B : Type 0} (f : A → B) (xs zs : List A) (i : ℕ) (x y : A) → f y ≡ f (get_or xs i x) → map f xs ≡ map f zs →
    map f (set xs i y) ≡ map f zs
kept f xs zs i x y same is = map-set_same f xs i y x same ∙ is

-- one more has the property
pub all_more : {A : Type 0} (P : A → Type 0) (xs : List A) (i n : ℕ) (y : A) → length xs ≡ n → i < n → P y → All P (take i xs) →
    All P (take (i + 1) (set xs i y))
all_more P xs i n y e low here all = All-same P _ _ (take_more_set xs i y (omega arith)) (All-push P (take i xs) y all here)

-- all have it
pub all_whole : {A : Type 0} (P : A → Type 0) (xs : List A) (i : ℕ) → length xs ≤ i → All P (take i xs) → All P xs
all_whole P xs i high all = All-same P _ _ (sym (take_all i xs high)) all

-- the first are changed by h, and now one more
pub changed_more : {A B : Type 0} (f : A → B) (h : B → B) (xs : List A) (rs : List B) (i : ℕ) (x y : A)
    → i < length rs → length xs ≡ length rs → f y ≡ h (f (get_or xs i x))
    → map f xs ≡ map h (take i rs) ++ drop i rs
    → map f (set xs i y) ≡ map h (take (i + 1) rs) ++ drop (i + 1) rs
changed_more f h xs rs i x y low long turn is =
    let front : length (map h (take i rs)) ≡ i = length-map (take i rs) h ∙ length-take-le i rs (omega arith) in
    let split : map f xs ≡ map h (take i rs) ++ get_or rs i (f x) ∷ drop (i + 1) rs = is
    ∙ ap (λ (r : _). map h (take i rs) ++ r) (drop_more rs i (f x) low) in
    let here : f (get_or xs i x) ≡ get_or rs i (f x) =
    sym (get_or-map f xs i x (f x) (omega arith)) ∙ ap (λ (r : _). get_or r i (f x)) split
    ∙ get_or_at (map h (take i rs)) (get_or rs i (f x)) (drop (i + 1) rs) (f x) i front in
    map-set f xs i y
    ∙ ap (λ (r : _). set r i (f y)) split
    ∙ set_at (map h (take i rs)) (get_or rs i (f x)) (drop (i + 1) rs) (f y) i front
    ∙ ap (λ (r : _). map h (take i rs) ++ r ∷ drop (i + 1) rs) (turn ∙ ap h here)
    ∙ sym (append_assoc (map h (take i rs)) (h (get_or rs i (f x)) ∷ []) (drop (i + 1) rs))
    ∙ ap (λ (r : _). r ++ drop (i + 1) rs) (sym (map_more h rs i (f x) low))

-- the rest has the property, without the first of it
pub rest_more : {A : Type 0} (P : A → Type 0) (xs : List A) (i : ℕ) (y : A) → All P (drop i xs) → All P (drop (i + 1) (set xs i y))
rest_more P xs i y all = All-same P _ _ (drop-set-lt (i + 1) xs i y (omega arith)) (All-same P _ _ (sym (drop-drop 1 i xs)) (All-drop P 1 (drop i xs) all))

pub rest_first : {A : Type 0} (P : A → Type 0) (xs : List A) (i n : ℕ) (x : A) → length xs ≡ n → i < n → All P (drop i xs) → P (get_or xs i x)
rest_first P xs i n x e low all = subst P (get_or-drop i xs 0 x ∙ ap (λ (k : ℕ). get_or xs k x) (omega arith))
    (All-get_or P (drop i xs) 0 x (omega (arith, length-drop i xs)) all)

-- one more is asked
pub asked_more : {A : Type 0} (p : A → Bool) (xs zs : List A) (i : ℕ) (x : A) (so_far now : Bool)
    → i < length zs → length xs ≡ length zs
    → so_far ≡ list_any p (take i zs) → now ≡ p (get_or xs i x) → map p xs ≡ map p zs
    → (so_far || now) ≡ list_any p (take (i + 1) zs)
asked_more p xs zs i x so_far now low long before here is =
    let same : p (get_or xs i x) ≡ p (get_or zs i x) =
    sym (get_or-map p xs i x (p x) (omega arith)) ∙ ap (λ (r : _). get_or r i (p x)) is ∙ get_or-map p zs i x (p x) low in
    ap (λ (b : _). b || now) before ∙ ap (λ (b : _). list_any p (take i zs) || b) (here ∙ same) ∙ sym (list_any_more p zs i x low)

-- the same is asked
pub asked_same : {A : Type 0} (p : A → Bool) (xs ys : List A) → map p xs ≡ map p ys → list_any p xs ≡ list_any p ys
asked_same p xs ys is = sym (any_of p xs) ∙ ap (list_any (λ b. b)) is ∙ any_of p ys
  where
    any_of : {A : Type 0} (p : A → Bool) (xs : List A) → list_any (λ b. b) (map p xs) ≡ list_any p xs
    any_of p [] = refl
    any_of p (x ∷ xs) = ap (λ (b : _). p x || b) (any_of p xs)
