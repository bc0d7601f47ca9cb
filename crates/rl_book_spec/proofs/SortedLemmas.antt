-- A list is sorted in one way: whatever has the same elements and is sorted by the same strict order is `sorted_by`.
use Rattle.std.proofs.Common.{◌≡◌, List, [], ◌∷◌, Bool, true, false, refl, ap₂, sym, subst, ◌∙◌, ⊎_elim}
use Rattle.std.specs.Prelude.{⊤, Contains, if◌then◌else◌}
use Rattle.std.specs.List.Sorted.{IsPermutation}
use Rattle.std.proofs.lemmas.Bool.{both_ways}
use Rattle.std.proofs.lemmas.List.Sorted.{Contains-permutation, IsPermutation-sym}
use Rattle.rl_view_spec.proofs.ToolsLemmas.{contains_cases, contains_head, contains_none, contains_tail}
use Rattle.rl_book_spec.specs.Batches.{insert_by, sorted_by}
use Rattle.rl_book_spec.proofs.BatchesLemmas.{insert_permutes, sorted_permutes}

pub record IsStrict {X : Type 0} (lt : X → X → Bool) : Type 0 where
  pub irreflexive : (x : X) → lt x x ≡ false
  pub transitive : (x y z : X) → lt x y ≡ true → lt y z ≡ true → lt x z ≡ true

-- each element is below all later ones
abbrev pub Ascends : {X : Type 0} → (X → X → Bool) → List X → Type 0
Ascends lt [] = ⊤
Ascends {X} lt (x ∷ xs) = ((y : X) → Contains xs y → lt x y ≡ true) × Ascends lt xs

-- of two elements one is below the other
abbrev pub AreApart : {X : Type 0} → (X → X → Bool) → List X → Type 0
AreApart lt [] = ⊤
AreApart {X} lt (x ∷ xs) = ((y : X) → Contains xs y → lt x y ≡ false → lt y x ≡ true) × AreApart lt xs

insert_ascends : {X : Type 0} (lt : X → X → Bool) → IsStrict lt → (x : X) (xs : List X) → Ascends lt xs
    → ((y : X) → Contains xs y → lt x y ≡ false → lt y x ≡ true) → Ascends lt (insert_by lt x xs)
insert_ascends lt o x [] up apart = ((λ y c. absurd (contains_none y c)), tt)
insert_ascends {X = X} lt o x (y ∷ xs) up apart = step (lt x y) refl (insert_ascends lt o x xs up.1 (λ z c. apart z (contains_tail y xs z c)))
  where
    step : (b : Bool) → lt x y ≡ b → Ascends lt (insert_by lt x xs) → Ascends lt (if b then x ∷ y ∷ xs else y ∷ insert_by lt x xs)
    step true e later = (
      (λ z c. ⊎_elim (λ s. subst (λ (w : X). lt x w ≡ true) s e) (λ t. o.transitive x y z e (up.0 z t)) (contains_cases y xs z c)),
      up,
    )
    step false e later = (
      (λ z c. ⊎_elim (λ s. subst (λ (w : X). lt y w ≡ true) s (apart y (contains_head y xs) e)) (λ t. up.0 z t)
          (contains_cases x xs z (Contains-permutation (insert_by lt x xs) (x ∷ xs) z
          (IsPermutation-sym (x ∷ xs) (insert_by lt x xs) (insert_permutes lt x xs)) c))),
      later,
    )

pub sorted_ascends : {X : Type 0} (lt : X → X → Bool) → IsStrict lt → (xs : List X) → AreApart lt xs → Ascends lt (sorted_by lt xs)
sorted_ascends lt o [] apart = tt
sorted_ascends lt o (x ∷ xs) apart = insert_ascends lt o x (sorted_by lt xs) (sorted_ascends lt o xs apart.1)
    (λ y c. apart.0 y (Contains-permutation (sorted_by lt xs) xs y (IsPermutation-sym xs (sorted_by lt xs) (sorted_permutes lt xs)) c))

one_way : {X : Type 0} (lt : X → X → Bool) → IsStrict lt → (xs ys : List X) → Ascends lt xs → Ascends lt ys
    → ((z : X) → Contains xs z → Contains ys z) → ((z : X) → Contains ys z → Contains xs z) → xs ≡ ys
one_way lt o [] [] a b f g = refl
one_way lt o [] (y ∷ ys) a b f g = absurd (contains_none y (g y (contains_head y ys)))
one_way lt o (x ∷ xs) [] a b f g = absurd (contains_none x (f x (contains_head x xs)))
one_way {X = X} lt o (x ∷ xs) (y ∷ ys) a b f g = ap₂ (λ (z : X) (zs : List X). z ∷ zs) first
    (one_way lt o xs ys a.1 b.1
    (λ z c. ⊎_elim (λ s. absurd (both_ways (lt x x) (o.irreflexive x) (a.0 x (subst (Contains xs) (sym s ∙ sym first) c)))) (λ t. t)
    (contains_cases y ys z (f z (contains_tail x xs z c))))
    (λ z c. ⊎_elim (λ s. absurd (both_ways (lt y y) (o.irreflexive y) (b.0 y (subst (Contains ys) (sym s ∙ first) c)))) (λ t. t)
    (contains_cases x xs z (g z (contains_tail y ys z c)))))
  where
    first : x ≡ y
    first = ⊎_elim (λ s. sym s)
        (λ t. ⊎_elim (λ s. s) (λ u. absurd (both_ways (lt x x) (o.irreflexive x) (o.transitive x y x (a.0 y u) (b.0 x t))))
        (contains_cases x xs y (g y (contains_head y ys))))
        (contains_cases y ys x (f x (contains_head x xs)))

-- so a sort that is no insertion gives the same
pub sorted_is : {X : Type 0} (lt : X → X → Bool) → IsStrict lt → (xs ys : List X) → AreApart lt xs → IsPermutation xs ys → Ascends lt ys → ys
    ≡ sorted_by lt xs
sorted_is lt o xs ys apart moved up = one_way lt o ys (sorted_by lt xs) up (sorted_ascends lt o xs apart)
    (λ z c. Contains-permutation xs (sorted_by lt xs) z (sorted_permutes lt xs) (Contains-permutation ys xs z (IsPermutation-sym xs ys moved) c))
    (λ z c. Contains-permutation xs ys z moved (Contains-permutation (sorted_by lt xs) xs z
    (IsPermutation-sym xs (sorted_by lt xs) (sorted_permutes lt xs)) c))
