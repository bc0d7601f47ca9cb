-- Lists that change by place.
use Rattle.std.proofs.Common.{◌≡◌, ℕ, zero, suc, ◌+◌, List, [], ◌∷◌, ◌++◌, Bool, true, false, cond, map, Option, Some, None}
use Rattle.std.proofs.Common.{refl, ap, ap₂, subst, ◌∙◌}
use Rattle.std.proofs.Common.{arith}
use Rattle.std.specs.Prelude.{Contains, filter, flat_map, if◌then◌else◌, option_to_list, slice_get}
use Rattle.std.specs.List.{cons_option, enumerate_from, filter_map}
use Rattle.rl_view_spec.proofs.ToolsLemmas.{contains_head, contains_tail}

-- what some elements give, those that pass
pub flat_map_if : {X Y : Type 0} (p : X → Bool) (f : X → List Y) (xs : List X) → flat_map (λ x. if p x then f x else []) xs ≡ flat_map f (filter p xs)
flat_map_if p f [] = refl
flat_map_if {X = X} {Y = Y} p f (x ∷ xs) = step (flat_map_if p f xs) (p x)
  where
    step : flat_map (λ x. if p x then f x else []) xs ≡ flat_map f (filter p xs) → (b : Bool)
        → (if b then f x else []) ++ flat_map (λ x. if p x then f x else []) xs ≡ flat_map f (cond b (x ∷ filter p xs) (filter p xs))
    step rest true = ap (λ (ys : List Y). f x ++ ys) rest
    step rest false = rest

pub flat_map_alike : {X Y : Type 0} (f g : X → List Y) (xs : List X) → ((x : X) → Contains xs x → f x ≡ g x) → flat_map f xs ≡ flat_map g xs
flat_map_alike f g [] each = refl
flat_map_alike {X = X} {Y = Y} f g (x ∷ xs) each =
    ap (λ (ys : List Y). ys ++ flat_map f xs) (each x (contains_head x xs))
    ∙ ap (λ (ys : List Y). g x ++ ys) (flat_map_alike f g xs (λ z c. each z (contains_tail x xs z c)))

-- by the numbers of places and by the elements themselves
pub flat_map_numbers : {X Y : Type 0} (f : ℕ → List Y) (g : X → List Y) (n : ℕ) (xs : List X) →
    ((k : ℕ) (x : X) → slice_get xs k ≡ Some x → f (n + k) ≡ g x)
    → flat_map f (map (λ (numbered : ℕ × X). numbered.0) (enumerate_from n xs)) ≡ flat_map g xs
flat_map_numbers f g n [] each = refl
flat_map_numbers {X = X} {Y = Y} f g n (x ∷ xs) each =
    let first : n + 0 ≡ n = omega arith in
    let here : f n ≡ g x = subst (λ (m : ℕ). f m ≡ g x) first (each zero x refl) in
    ap (λ (ys : List Y). ys ++ flat_map f (map (λ (numbered : ℕ × X). numbered.0) (enumerate_from (n + 1) xs))) here
    ∙ ap (λ (ys : List Y). g x ++ ys) (flat_map_numbers f g (n + 1) xs
    (λ k y s. let next : n + suc k ≡ (n + 1) + k = omega arith in subst (λ (m : ℕ). f m ≡ g y) next (each (suc k) y s)))

-- ---- what some elements have

pub as_list : {X : Type 0} (o : Option X) → cons_option o [] ≡ option_to_list o
as_list None = refl
as_list (Some x) = refl

pub filter_map_alike : {X Y : Type 0} (f g : X → Option Y) (xs : List X) → ((x : X) → Contains xs x → f x ≡ g x)
    → filter_map f xs ≡ filter_map g xs
filter_map_alike f g [] each = refl
filter_map_alike f g (x ∷ xs) each =
    ap₂ cons_option (each x (contains_head x xs)) (filter_map_alike f g xs (λ z c. each z (contains_tail x xs z c)))
