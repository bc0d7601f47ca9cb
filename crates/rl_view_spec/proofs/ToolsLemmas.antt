-- Tests over lists, and the places of rows.
use Rattle.std.proofs.Common.{◌≡◌, ℕ, zero, suc, ◌+◌, ◌<◌, List, [], ◌∷◌, Bool, true, false, cond, ◌||◌, ◌⊎◌, length, map}
use Rattle.std.proofs.Common.{Option, Some, None, refl, ap, sym, subst, ◌∙◌, inl, inr, ⊎_elim, arith}
use Rattle.std.specs.Prelude.{Contains, find, filter, slice_get, flat_map}
use Rattle.std.specs.List.{list_any, list_all, enumerate_from}
use Rattle.std.proofs.lemmas.Bool.{and_from, or_cases, both_ways, cases_Bool, true_from_ne_false}
use Rattle.std.proofs.lemmas.List.Folds.{list_any_at, list_all_at}
use Rattle.std.proofs.lemmas.List.Elements.{Contains-append_cases, Contains-append_left, Contains-append_right}

pub contains_head : {X : Type 0} (x : X) (xs : List X) → Contains (x ∷ xs) x
contains_head x xs = (0, omega arith, refl)

pub contains_tail : {X : Type 0} (y : X) (xs : List X) (x : X) → Contains xs x → Contains (y ∷ xs) x
contains_tail y xs x c = (suc c.0, omega (arith, c.1), c.2)

pub contains_cases : {X : Type 0} (y : X) (xs : List X) (x : X) → Contains (y ∷ xs) x → (y ≡ x) ⊎ Contains xs x
contains_cases y xs x (zero, low, e) = inl e
contains_cases y xs x (suc k, low, e) = inr (k, omega arith, e)

pub contains_none : {X : Type 0} (x : X) → Contains [] x → ⊥
contains_none x c = absurd (omega (arith, c.1))

-- each passes
pub each_all : {X : Type 0} (p : X → Bool) (xs : List X) → ((x : X) → Contains xs x → p x ≡ true) → list_all p xs ≡ true
each_all p [] h = refl
each_all p (x ∷ xs) h = and_from (p x) (list_all p xs) (h x (contains_head x xs)) (each_all p xs (λ y c. h y (contains_tail x xs y c)))

pub all_each : {X : Type 0} (p : X → Bool) (xs : List X) (x : X) → list_all p xs ≡ true → Contains xs x → p x ≡ true
all_each p xs x h c = true_from_ne_false (p x) (λ e. both_ways (list_all p xs) (list_all_at p xs c.0 x c.1 (ap p c.2 ∙ e)) h)

-- one passes
pub any_one : {X : Type 0} (p : X → Bool) (xs : List X) → list_any p xs ≡ true → (x : X) × Contains xs x × (p x ≡ true)
any_one p [] h = cc
any_one p (x ∷ xs) h = ⊎_elim (λ e. (x, contains_head x xs, e)) (λ e. let m = any_one p xs e in (m.0, contains_tail x xs m.0 m.1, m.2))
    (or_cases (p x) (list_any p xs) h)

pub one_any : {X : Type 0} (p : X → Bool) (xs : List X) (x : X) → Contains xs x → p x ≡ true → list_any p xs ≡ true
one_any p xs x c h = list_any_at p xs c.0 x c.1 (ap p c.2 ∙ h)

pub any_map : {X Y : Type 0} (q : Y → Bool) (f : X → Y) (xs : List X) → list_any q (map f xs) ≡ list_any (λ x. q (f x)) xs
any_map q f [] = refl
any_map q f (x ∷ xs) = ap (λ b. q (f x) || b) (any_map q f xs)

pub contains_map : {X Y : Type 0} (f : X → Y) (xs : List X) (x : X) → Contains xs x → Contains (map f xs) (f x)
contains_map f [] x c = absurd (contains_none x c)
contains_map f (y ∷ xs) x c = ⊎_elim (λ e. subst (λ z. Contains (f y ∷ map f xs) (f z)) e (contains_head (f y) (map f xs)))
    (λ t. contains_tail (f y) (map f xs) (f x) (contains_map f xs x t)) (contains_cases y xs x c)

pub contains_flat_map : {X Y : Type 0} (f : X → List Y) (xs : List X) (x : X) (y : Y) → Contains xs x → Contains (f x) y → Contains (flat_map f xs) y
contains_flat_map f [] x y c d = absurd (contains_none x c)
contains_flat_map f (z ∷ xs) x y c d = ⊎_elim
    (λ e. Contains-append_left (f z) (flat_map f xs) y (subst (λ w. Contains (f w) y) (sym e) d))
    (λ t. Contains-append_right (f z) (flat_map f xs) y (contains_flat_map f xs x y t d))
    (contains_cases z xs x c)

-- what a list of lists has, one of them has
pub flat_map_contains : {X Y : Type 0} (f : X → List Y) (xs : List X) (y : Y) → Contains (flat_map f xs) y → (x : X) × Contains xs x × Contains (f x) y
flat_map_contains f [] y c = absurd (contains_none y c)
flat_map_contains f (x ∷ xs) y c = ⊎_elim
    (λ h. (x, contains_head x xs, h))
    (λ t. let m = flat_map_contains f xs y t in (m.0, contains_tail x xs m.0 m.1, m.2))
    (Contains-append_cases (f x) (flat_map f xs) y c)

-- what is found passes, and stands somewhere
pub found_place : {X : Type 0} (p : X → Bool) (xs : List X) (x : X) → find p xs ≡ Some x → (k : ℕ) × (slice_get xs k ≡ Some x) × (p x ≡ true)
found_place p [] x h = cc
found_place p (y ∷ xs) x h = ⊎_elim
    (λ e. let g : Some y ≡ Some x = subst (λ (b : Bool). cond b (Some y) (find p xs) ≡ Some x) e h in let same : y
    ≡ x = cc in (zero, g, ap p (sym same) ∙ e))
    (λ e. let m = found_place p xs x (subst (λ (b : Bool). cond b (Some y) (find p xs) ≡ Some x) e h) in (suc m.0, m.1, m.2))
    (cases_Bool (p y))

pub found_in : {X : Type 0} (p : X → Bool) (xs : List X) (x : X) → find p xs ≡ Some x → Contains xs x
found_in p [] x h = cc
found_in p (y ∷ xs) x h = ⊎_elim
    (λ e. let g : Some y ≡ Some x = subst (λ (b : Bool). cond b (Some y) (find p xs) ≡ Some x) e h in let same : y
    ≡ x = cc in (zero, omega arith, same))
    (λ e. contains_tail y xs x (found_in p xs x (subst (λ (b : Bool). cond b (Some y) (find p xs) ≡ Some x) e h)))
    (cases_Bool (p y))

-- where none is found each fails
pub none_found : {X : Type 0} (p : X → Bool) (xs : List X) (x : X) → find p xs ≡ None → Contains xs x → p x ≡ false
none_found p [] x h c = absurd (contains_none x c)
none_found p (y ∷ xs) x h c = ⊎_elim
    (λ e. let g : Some y ≡ None = subst (λ (b : Bool). cond b (Some y) (find p xs) ≡ None) e h in cc)
    (λ e. ⊎_elim (λ s. ap p (sym s) ∙ e) (λ t. none_found p xs x (subst (λ (b : Bool). cond b (Some y) (find p xs) ≡ None) e h) t)
    (contains_cases y xs x c))
    (cases_Bool (p y))

-- where one passes one is found
pub some_found : {X : Type 0} (p : X → Bool) (xs : List X) (x : X) → Contains xs x → p x ≡ true → (y : X) × (find p xs ≡ Some y)
some_found {X = X} p xs x c h = step (find p xs) refl
  where
    step : (o : Option X) → find p xs ≡ o → (y : X) × (find p xs ≡ Some y)
    step None e = absurd (both_ways (p x) (none_found p xs x e c) h)
    step (Some y) e = (y, e)

-- a filter that keeps nothing
pub filter_none : {X : Type 0} (p : X → Bool) (xs : List X) (x : X) → filter p xs ≡ [] → Contains xs x → p x ≡ false
filter_none p [] x h c = absurd (contains_none x c)
filter_none p (y ∷ xs) x h c = ⊎_elim
    (λ e. let g : (y ∷ filter p xs) ≡ [] = subst (λ (b : Bool). cond b (y ∷ filter p xs) (filter p xs) ≡ []) e h in cc)
    (λ e. ⊎_elim (λ s. ap p (sym s) ∙ e) (λ t. filter_none p xs x (subst (λ (b : Bool). cond b (y ∷ filter p xs) (filter p xs) ≡ []) e h) t)
    (contains_cases y xs x c))
    (cases_Bool (p y))

pub contains_filter : {X : Type 0} (p : X → Bool) (xs : List X) (x : X) → Contains xs x → p x ≡ true → Contains (filter p xs) x
contains_filter p [] x c h = absurd (contains_none x c)
contains_filter {X = X} p (y ∷ xs) x c h = ⊎_elim (λ s. here (p y) refl s) (λ t. there (p y) (contains_filter p xs x t h)) (contains_cases y xs x c)
  where
    there : (b : Bool) → Contains (filter p xs) x → Contains (cond b (y ∷ filter p xs) (filter p xs)) x
    there true t = contains_tail y (filter p xs) x t
    there false t = t

    here : (b : Bool) → p y ≡ b → y ≡ x → Contains (cond b (y ∷ filter p xs) (filter p xs)) x
    here true e s = subst (λ (z : X). Contains (y ∷ filter p xs) z) s (contains_head y (filter p xs))
    here false e s = absurd (both_ways (p y) e (ap p s ∙ h))

pub filter_contains : {X : Type 0} (p : X → Bool) (xs : List X) (x : X) → Contains (filter p xs) x → Contains xs x × (p x ≡ true)
filter_contains p [] x c = absurd (contains_none x c)
filter_contains p (y ∷ xs) x c = ⊎_elim
    (λ e. ⊎_elim (λ s. ((zero, omega arith, s), ap p (sym s) ∙ e))
    (λ t. let m = filter_contains p xs x t in (contains_tail y xs x m.0, m.1))
    (contains_cases y (filter p xs) x (subst (λ (b : Bool). Contains (cond b (y ∷ filter p xs) (filter p xs)) x) e c)))
    (λ e. let m = filter_contains p xs x (subst (λ (b : Bool). Contains (cond b (y ∷ filter p xs) (filter p xs)) x) e c) in (contains_tail y xs x m.0, m.1))
    (cases_Bool (p y))

-- the numbers of a list's places
pub numbers_have : {X : Type 0} (n : ℕ) (xs : List X) (k : ℕ) → k < length xs →
    Contains (map (λ (numbered : ℕ × X). numbered.0) (enumerate_from n xs)) (n + k)
numbers_have n [] k h = absurd (omega (arith, h))
numbers_have n (x ∷ xs) zero h = (zero, omega arith, omega arith)
numbers_have {X = X} n (x ∷ xs) (suc k) h = contains_tail n (map (λ (numbered : ℕ × X). numbered.0) (enumerate_from (n + 1) xs)) (n + suc k)
    (subst (λ (m : ℕ). Contains (map (λ (numbered : ℕ × X). numbered.0) (enumerate_from (n + 1) xs)) m) (omega arith)
    (numbers_have (n + 1) xs k (omega arith)))

pub numbers_within : {X : Type 0} (n : ℕ) (xs : List X) (m : ℕ) → Contains (map (λ (numbered : ℕ × X). numbered.0) (enumerate_from n xs)) m →
    m < n + length xs
numbers_within n [] m c = absurd (contains_none m c)
numbers_within {X = X} n (x ∷ xs) m c = ⊎_elim (λ e. omega (arith, e)) (λ t. omega (arith, numbers_within (n + 1) xs m t))
    (contains_cases n (map (λ (numbered : ℕ × X). numbered.0) (enumerate_from (n + 1) xs)) m c)

pub place_there : {X : Type 0} (xs : List X) (k : ℕ) → k < length xs → (x : X) × (slice_get xs k ≡ Some x)
place_there [] k h = absurd (omega (arith, h))
place_there (x ∷ xs) zero h = (x, refl)
place_there (x ∷ xs) (suc k) h = place_there xs k (omega arith)

pub place_in : {X : Type 0} (xs : List X) (k : ℕ) (x : X) → slice_get xs k ≡ Some x → Contains xs x
place_in [] k x h = cc
place_in (y ∷ xs) zero x h = (zero, omega arith, cc)
place_in (y ∷ xs) (suc k) x h = contains_tail y xs x (place_in xs k x h)
