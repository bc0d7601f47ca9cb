-- Lists that change by place.
use Rattle.std.proofs.Common.{◌≡◌, ◌≢◌, ℕ, zero, suc, ◌+◌, List, [], ◌∷◌, map, Some, refl, ap, sym, subst, ◌∙◌, arith}
use Rattle.std.specs.Prelude.{slice_get, slice_set}
use Rattle.std.specs.List.{enumerate_from}

-- each element changed by its place
pub placed : {X Y : Type 0} (f : ℕ → Y → Y) (g h : X → Y) (n : ℕ) (xs : List X) →
    ((k : ℕ) (x : X) → slice_get xs k ≡ Some x → f (n + k) (g x) ≡ h x)
    → map (λ (numbered : ℕ × Y). f numbered.0 numbered.1) (enumerate_from n (map g xs)) ≡ map h xs
placed f g h n [] each = refl
placed {X = X} {Y = Y} f g h n (x ∷ xs) each =
    let first : n + 0 ≡ n = omega arith in
    let here : f n (g x) ≡ h x = subst (λ (m : ℕ). f m (g x) ≡ h x) first (each zero x refl) in
    let rest : map (λ (numbered : ℕ × Y). f numbered.0 numbered.1) (enumerate_from (n + 1) (map g xs)) ≡ map h xs =
    placed f g h (n + 1) xs (λ k y s. let next : n + suc k ≡ (n + 1) + k = omega arith in subst (λ (m : ℕ). f m (g y) ≡ h y) next (each (suc k) y s)) in
    ap (λ (y : Y). y ∷ map (λ (numbered : ℕ × Y). f numbered.0 numbered.1) (enumerate_from (n + 1) (map g xs))) here
    ∙ ap (λ (ys : List Y). h x ∷ ys) rest

-- one element changed
pub set_placed : {X Y : Type 0} (g h : X → Y) (xs : List X) (k : ℕ) (x : X) → slice_get xs k ≡ Some x →
    ((j : ℕ) (z : X) → slice_get xs j ≡ Some z → j ≢ k → g z ≡ h z)
    → slice_set (map g xs) k (h x) ≡ map h xs
set_placed g h [] k x there others = cc
set_placed {X = X} {Y = Y} g h (y ∷ xs) zero x there others =
    let same : y ≡ x = cc in
    ap (λ (z : X). h z ∷ map g xs) (sym same) ∙ ap (λ (ys : List Y). h y ∷ ys)
    (all_other xs (λ j z s. others (suc j) z s (λ e. absurd (omega (arith, e)))))
  where
    all_other : (xs : List X) → ((j : ℕ) (z : X) → slice_get xs j ≡ Some z → g z ≡ h z) → map g xs ≡ map h xs
    all_other [] each = refl
    all_other (z ∷ xs) each = ap (λ (w : Y). w ∷ map g xs) (each zero z refl)
        ∙ ap (λ (ys : List Y). h z ∷ ys) (all_other xs (λ j w s. each (suc j) w s))
set_placed {Y = Y} g h (y ∷ xs) (suc k) x there others =
    ap (λ (w : Y). w ∷ slice_set (map g xs) k (h x)) (others zero y refl (λ e. absurd (omega (arith, e))))
    ∙ ap (λ (ys : List Y). h y ∷ ys) (set_placed g h xs k x there (λ j z s ne. others (suc j) z s (λ e. ne (omega (arith, e)))))

pub set_here : {X : Type 0} (xs : List X) (k : ℕ) (x y : X) → slice_get xs k ≡ Some x → slice_get (slice_set xs k y) k ≡ Some y
set_here [] k x y there = cc
set_here (z ∷ xs) zero x y there = refl
set_here (z ∷ xs) (suc k) x y there = set_here xs k x y there

pub set_other : {X : Type 0} (xs : List X) (k j : ℕ) (y : X) → j ≢ k → slice_get (slice_set xs k y) j ≡ slice_get xs j
set_other [] k j y ne = refl
set_other (z ∷ xs) zero zero y ne = absurd (ne refl)
set_other (z ∷ xs) zero (suc j) y ne = refl
set_other (z ∷ xs) (suc k) zero y ne = refl
set_other (z ∷ xs) (suc k) (suc j) y ne = set_other xs k j y (λ e. ne (ap suc e))
