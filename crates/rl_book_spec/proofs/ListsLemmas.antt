-- Places in lists, and numbered lists.
use Rattle.std.proofs.Common.{◌≡◌, ℕ, zero, suc, ◌+◌, List, [], ◌∷◌, ◌++◌, length, Some, refl, ap, sym, subst}
use Rattle.std.proofs.Common.{◌∙◌, ◌⊎◌, ⊎_elim, arith, inl, inr, map}
use Rattle.std.specs.Prelude.{Contains, slice_get, slice_set}
use Rattle.std.specs.List.{enumerate_from}
use Rattle.rl_view_spec.proofs.ToolsLemmas.{contains_head, contains_tail, contains_cases, contains_none}

pub get_front : {X : Type 0} (xs ys : List X) (k : ℕ) (x : X) → slice_get xs k ≡ Some x → slice_get (xs ++ ys) k ≡ Some x
get_front [] ys k x e = cc
get_front (z ∷ xs) ys zero x e = e
get_front (z ∷ xs) ys (suc k) x e = get_front xs ys k x e

pub get_behind : {X : Type 0} (xs ys : List X) (k : ℕ) (x : X) → slice_get ys k ≡ Some x → slice_get (xs ++ ys) (length xs + k) ≡ Some x
get_behind [] ys k x e = let n : 0 + k ≡ k = omega arith in ap (slice_get ys) n ∙ e
get_behind (z ∷ xs) ys k x e = let n : suc (length xs) + k ≡ suc (length xs + k) = omega arith in ap (slice_get (z ∷ (xs ++ ys))) n
    ∙ get_behind xs ys k x e

pub get_set : {X : Type 0} (xs : List X) (k : ℕ) (x y : X) → slice_get xs k ≡ Some x → slice_get (slice_set xs k y) k ≡ Some y
get_set [] k x y e = cc
get_set (z ∷ xs) zero x y e = refl
get_set (z ∷ xs) (suc k) x y e = get_set xs k x y e

pub get_set_other : {X : Type 0} (xs : List X) (k j : ℕ) (y : X) → (k ≡ j → ⊥) → slice_get (slice_set xs j y) k ≡ slice_get xs k
get_set_other [] k j y apart = refl
get_set_other (z ∷ xs) zero zero y apart = absurd (apart refl)
get_set_other (z ∷ xs) zero (suc j) y apart = refl
get_set_other (z ∷ xs) (suc k) zero y apart = refl
get_set_other (z ∷ xs) (suc k) (suc j) y apart = get_set_other xs k j y (λ e. apart (ap suc e))

-- an element at its place is numbered by it
pub numbered : {X : Type 0} (n : ℕ) (xs : List X) (k : ℕ) (x : X) → slice_get xs k ≡ Some x → Contains (enumerate_from n xs) (n + k, x)
numbered n [] k x e = cc
numbered {X = X} n (y ∷ xs) zero x e = let same : y ≡ x = cc in let none : n ≡ n + 0 = omega arith in
    subst (λ (p : ℕ × X). Contains ((n, y) ∷ enumerate_from (n + 1) xs) p) (ap (λ (z : X). (n, z)) same ∙ ap (λ (m : ℕ). (m, x)) none)
    (contains_head (n, y) (enumerate_from (n + 1) xs))
numbered {X = X} n (y ∷ xs) (suc k) x e = let next : (n + 1) + k ≡ n + suc k = omega arith in
    contains_tail (n, y) (enumerate_from (n + 1) xs) (n + suc k, x) (subst (λ (m : ℕ). Contains (enumerate_from (n + 1) xs) (m, x)) next
    (numbered (n + 1) xs k x e))

-- and a numbered element stands there
pub place_of_number : {X : Type 0} (n : ℕ) (xs : List X) (p : ℕ × X) → Contains (enumerate_from n xs) p → (k : ℕ) × (p.0 ≡ n + k)
    × (slice_get xs k ≡ Some p.1)
place_of_number n [] p c = absurd (contains_none p c)
place_of_number {X = X} n (y ∷ xs) p c = ⊎_elim
    (λ e. (zero, sym (ap (λ (q : ℕ × X). q.0) e) ∙ (omega arith), ap (λ (q : ℕ × X). Some q.1) e))
    (λ t. let m = place_of_number (n + 1) xs p t in (suc m.0, m.1 ∙ (omega arith), m.2))
    (contains_cases (n, y) (enumerate_from (n + 1) xs) p c)

-- what stands in two lists, one behind the other
pub get_either : {X : Type 0} (xs ys : List X) (k : ℕ) (x : X) → slice_get (xs ++ ys) k ≡ Some x → (slice_get xs k ≡ Some x)
    ⊎ ((j : ℕ) × (k ≡ length xs + j) × (slice_get ys j ≡ Some x))
get_either [] ys k x e = inr (k, omega arith, e)
get_either (z ∷ xs) ys zero x e = inl e
get_either (z ∷ xs) ys (suc k) x e = ⊎_elim (λ h. inl h) (λ m. inr (m.0, omega (arith, m.1), m.2)) (get_either xs ys k x e)

-- what a list of values has is the value of something
pub map_has : {X Y : Type 0} (f : X → Y) (xs : List X) (y : Y) → Contains (map f xs) y → (x : X) × Contains xs x × (f x ≡ y)
map_has f [] y c = absurd (contains_none y c)
map_has f (x ∷ xs) y c = ⊎_elim
    (λ e. (x, contains_head x xs, e))
    (λ d. let m = map_has f xs y d in (m.0, contains_tail x xs m.0 m.1, m.2))
    (contains_cases (f x) (map f xs) y c)
