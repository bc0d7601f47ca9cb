-- Batches hold the rows that they are made of.
use Rattle.std.proofs.Common.{◌≡◌, ℕ, ◌<◌, List, [], ◌∷◌, ◌++◌, Bool, true, false, ◌⊎◌, length, refl, ap, sym, subst}
use Rattle.std.proofs.Common.{◌∙◌, inl, inr, ⊎_elim, arith, append-nil, append_assoc}
use Rattle.std.specs.Prelude.{Contains, flat_map, fold, if◌then◌else◌}
use Rattle.std.specs.List.Sorted.{IsPermutation}
use Rattle.std.proofs.lemmas.List.Sorted.{IsPermutation-refl, IsPermutation-cons, IsPermutation-insert, IsPermutation-trans, Contains-permutation}
use Rattle.rl_names.specs.declared.query.Query.{Query}
use Rattle.rl_view_spec.proofs.ToolsLemmas.{contains_head, contains_tail, contains_cases, contains_none}
use Rattle.rl_book_spec.specs.Batches.{Numbered, collect, goes_on, insert_by, sorted_by, is_before, rows_of_batches}
use Rattle.rl_book_spec.specs.Laws.{BatchesHoldRows, BatchesAreFilled}

-- ---- collecting

pub collect_all : {X : Type 0} (joins : List X → X → Bool) (batches : List (List X)) (x : X)
    → flat_map (λ (batch : List X). batch) (collect joins batches x) ≡ flat_map (λ (batch : List X). batch) batches ++ x ∷ []
collect_all joins [] x = refl
collect_all {X = X} joins (batch ∷ []) x = step (joins batch x)
  where
    step : (b : Bool) → flat_map (λ (xs : List X). xs) (if b then (batch ++ x ∷ []) ∷ [] else batch ∷ (x ∷ []) ∷ []) ≡ (batch ++ []) ++ x ∷ []
    step true = append-nil (batch ++ x ∷ []) ∙ ap (λ (xs : List X). xs ++ x ∷ []) (sym (append-nil batch))
    step false = ap (λ (xs : List X). xs ++ x ∷ []) (sym (append-nil batch))
collect_all {X = X} joins (batch ∷ next ∷ batches) x =
    ap (λ (xs : List X). batch ++ xs) (collect_all joins (next ∷ batches) x)
    ∙ sym (append_assoc batch (flat_map (λ (xs : List X). xs) (next ∷ batches)) (x ∷ []))

pub fold_collect : {X : Type 0} (joins : List X → X → Bool) (batches : List (List X)) (xs : List X)
    → flat_map (λ (batch : List X). batch) (fold (collect joins) batches xs) ≡ flat_map (λ (batch : List X). batch) batches ++ xs
fold_collect joins batches [] = sym (append-nil (flat_map (λ batch. batch) batches))
fold_collect {X = X} joins batches (x ∷ xs) =
    fold_collect joins (collect joins batches x) xs
    ∙ ap (λ (ys : List X). ys ++ xs) (collect_all joins batches x)
    ∙ append_assoc (flat_map (λ (batch : List X). batch) batches) (x ∷ []) xs

-- ---- sorting

swapped : {X : Type 0} (x y : X) (ys : List X) → IsPermutation (x ∷ y ∷ ys) (y ∷ x ∷ ys)
swapped x y ys = IsPermutation-insert (y ∷ ys) 1 x

pub insert_permutes : {X : Type 0} (before : X → X → Bool) (x : X) (xs : List X) → IsPermutation (x ∷ xs) (insert_by before x xs)
insert_permutes before x [] = IsPermutation-refl (x ∷ [])
insert_permutes {X = X} before x (y ∷ ys) = step (before x y) (insert_permutes before x ys)
  where
    step : (b : Bool) → IsPermutation (x ∷ ys) (insert_by before x ys) → IsPermutation (x ∷ y ∷ ys)
        (if b then x ∷ y ∷ ys else y ∷ insert_by before x ys)
    step true later = IsPermutation-refl (x ∷ y ∷ ys)
    step false later = IsPermutation-trans (x ∷ y ∷ ys) (y ∷ x ∷ ys) (y ∷ insert_by before x ys) (swapped x y ys)
        (IsPermutation-cons y (x ∷ ys) (insert_by before x ys) later)

pub sorted_permutes : {X : Type 0} (before : X → X → Bool) (xs : List X) → IsPermutation xs (sorted_by before xs)
sorted_permutes before [] = IsPermutation-refl []
sorted_permutes before (x ∷ xs) =
    IsPermutation-trans (x ∷ xs) (x ∷ sorted_by before xs) (insert_by before x (sorted_by before xs))
    (IsPermutation-cons x xs (sorted_by before xs) (sorted_permutes before xs))
    (insert_permutes before x (sorted_by before xs))

pub batches_hold_rows : BatchesHoldRows
batches_hold_rows base limit rows =
    subst (λ (all : List Numbered). IsPermutation rows all) (sym (fold_collect (goes_on base limit) [] (sorted_by is_before rows)))
    (sorted_permutes is_before rows)

-- ---- none is empty

abbrev AllFilled : {X : Type 0} → List (List X) → Type 0
AllFilled {X} batches = (batch : List X) → Contains batches batch → 0 < length batch

pub pushed_filled : {X : Type 0} (xs : List X) (x : X) → 0 < length (xs ++ x ∷ [])
pushed_filled [] x = omega arith
pushed_filled (y ∷ xs) x = omega arith

one_filled : {X : Type 0} (x : X) → 0 < length (x ∷ [])
one_filled x = omega arith

collect_filled : {X : Type 0} (joins : List X → X → Bool) (batches : List (List X)) (x : X) → AllFilled batches → AllFilled (collect joins batches x)
collect_filled joins [] x all batch c = ⊎_elim (λ e. subst (λ xs. 0 < length xs) e (one_filled x)) (λ t. absurd (contains_none batch t))
    (contains_cases (x ∷ []) [] batch c)
collect_filled {X = X} joins (first ∷ []) x all batch c = step (joins first x) batch c
  where
    step : (b : Bool) → AllFilled (if b then (first ++ x ∷ []) ∷ [] else first ∷ (x ∷ []) ∷ [])
    step true batch c = ⊎_elim (λ e. subst (λ (xs : List X). 0 < length xs) e (pushed_filled first x)) (λ t. absurd (contains_none batch t))
        (contains_cases (first ++ x ∷ []) [] batch c)
    step false batch c = ⊎_elim (λ e. subst (λ (xs : List X). 0 < length xs) e (all first (contains_head first [])))
        (λ t. ⊎_elim (λ e. subst (λ (xs : List X). 0 < length xs) e (one_filled x)) (λ u. absurd (contains_none batch u))
        (contains_cases (x ∷ []) [] batch t))
        (contains_cases first ((x ∷ []) ∷ []) batch c)
collect_filled {X = X} joins (first ∷ next ∷ batches) x all batch c = ⊎_elim
    (λ e. subst (λ (xs : List X). 0 < length xs) e (all first (contains_head first (next ∷ batches))))
    (λ t. collect_filled joins (next ∷ batches) x (λ other d. all other (contains_tail first (next ∷ batches) other d)) batch t)
    (contains_cases first (collect joins (next ∷ batches) x) batch c)

fold_filled : {X : Type 0} (joins : List X → X → Bool) (batches : List (List X)) (xs : List X) → AllFilled batches
    → AllFilled (fold (collect joins) batches xs)
fold_filled joins batches [] all = all
fold_filled joins batches (x ∷ xs) all = fold_filled joins (collect joins batches x) xs (collect_filled joins batches x all)

pub batches_filled : BatchesAreFilled
batches_filled base limit rows batch c = fold_filled (goes_on base limit) [] (sorted_by is_before rows) (λ batch c. absurd (contains_none batch c)) batch c

-- ---- a row stands in one of the batches

flat_contains : {X : Type 0} (lists : List (List X)) (x : X) → Contains (flat_map (λ (list : List X). list) lists) x → (list : List X)
    × Contains lists list × Contains list x
flat_contains [] x c = absurd (contains_none x c)
flat_contains {X = X} (list ∷ lists) x c = ⊎_elim
    (λ h. (list, contains_head list lists, h))
    (λ t. let m = flat_contains lists x t in (m.0, contains_tail list lists m.0 m.1, m.2))
    (Contains-append_cases list (flat_map (λ (list : List X). list) lists) x c)
  where
    Contains-append_cases : (xs ys : List X) (x : X) → Contains (xs ++ ys) x → Contains xs x ⊎ Contains ys x
    Contains-append_cases [] ys x c = inr c
    Contains-append_cases (z ∷ xs) ys x c = ⊎_elim (λ e. inl (0, omega arith, e))
        (λ t. ⊎_elim (λ h. inl (contains_tail z xs x h)) (λ h. inr h) (Contains-append_cases xs ys x t)) (contains_cases z (xs ++ ys) x c)

pub in_a_batch : (base : Query) (limit : ℕ) (rows : List Numbered) (row : Numbered) → Contains rows row
    → (batch : List Numbered) × Contains (rows_of_batches base limit rows) batch × Contains batch row
in_a_batch base limit rows row c =
    flat_contains (rows_of_batches base limit rows) row (Contains-permutation rows
    (flat_map (λ (batch : List Numbered). batch) (rows_of_batches base limit rows)) row (batches_hold_rows base limit rows) c)
