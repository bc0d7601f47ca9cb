-- Cutting row by row is collecting row by row.
use Rattle.std.proofs.Common.{◌≡◌, ℕ, zero, suc, ◌≤◌, List, [], ◌∷◌, ◌++◌, Bool, true, false, length, map, refl, ap, sym}
use Rattle.std.proofs.Common.{◌∙◌, arith, take, drop, append_assoc, Option, Some, None}
use Rattle.std.specs.Prelude.{fold, if◌then◌else◌}
use Rattle.std.specs.List.{filter_map, cons_option}
use Rattle.std.proofs.lemmas.Bool.{and_parts, leb-true}
use Rattle.rl_names.specs.Name.{is_name}
use Rattle.rl_names.specs.Packing.{front_of, suffix_of, is_dot}
use Rattle.rl_names.proofs.CutLemmas as law
use Rattle.std.proofs.Common.{length-append}
use Rattle.rl_book_spec.specs.Batches.{collect}
use Rattle.rl_batch.specs.Split.{cuts, cuts_from}

collect_last : {X : Type 0} (joins : List X → X → Bool) (done : List (List X)) (batch : List X) (x : X)
    → collect joins (done ++ batch ∷ []) x ≡ done ++ (if joins batch x then (batch ++ x ∷ []) ∷ [] else batch ∷ (x ∷ []) ∷ [])
collect_last joins [] batch x = refl
collect_last {X = X} joins (d ∷ []) batch x = refl
collect_last {X = X} joins (d ∷ e ∷ ds) batch x = ap (λ (all : List (List X)). d ∷ all) (collect_last joins (e ∷ ds) batch x)

fold_cuts : {X : Type 0} (joins : List X → X → Bool) (done : List (List X)) (batch xs : List X) → fold (collect joins) (done ++ batch ∷ []) xs ≡ done
    ++ cuts_from joins batch xs
fold_cuts joins done batch [] = refl
fold_cuts {X = X} joins done batch (x ∷ xs) =
    ap (λ (all : List (List X)). fold (collect joins) all xs) (collect_last joins done batch x)
    ∙ step (joins batch x) (fold_cuts joins done (batch ++ x ∷ []) xs) (fold_cuts joins (done ++ batch ∷ []) (x ∷ []) xs)
  where
    step : (b : Bool) → fold (collect joins) (done ++ (batch ++ x ∷ []) ∷ []) xs ≡ done ++ cuts_from joins (batch ++ x ∷ []) xs
        → fold (collect joins) ((done ++ batch ∷ []) ++ (x ∷ []) ∷ []) xs ≡ (done ++ batch ∷ []) ++ cuts_from joins (x ∷ []) xs
        → fold (collect joins) (done ++ (if b then (batch ++ x ∷ []) ∷ [] else batch ∷ (x ∷ []) ∷ [])) xs
        ≡ done ++ (if b then cuts_from joins (batch ++ x ∷ []) xs else batch ∷ cuts_from joins (x ∷ []) xs)
    step true on off = on
    step false on off =
        ap (λ (all : List (List X)). fold (collect joins) all xs) (sym (append_assoc done (batch ∷ []) ((x ∷ []) ∷ [])))
        ∙ off
        ∙ append_assoc done (batch ∷ []) (cuts_from joins (x ∷ []) xs)

pub fold_is_cuts : {X : Type 0} (joins : List X → X → Bool) (xs : List X) → fold (collect joins) [] xs ≡ cuts joins xs
fold_is_cuts joins [] = refl
fold_is_cuts joins (x ∷ xs) = fold_cuts joins [] (x ∷ []) xs

pub joined : {X : Type 0} (joins : List X → X → Bool) (batch : List X) (x : X) (xs : List X) → joins batch x ≡ true
    → cuts_from joins batch (x ∷ xs) ≡ cuts_from joins (batch ++ x ∷ []) xs
joined joins batch x xs e = ap (λ (b : Bool). if b then cuts_from joins (batch ++ x ∷ []) xs else batch ∷ cuts_from joins (x ∷ []) xs) e

pub parted : {X : Type 0} (joins : List X → X → Bool) (batch : List X) (x : X) (xs : List X) → joins batch x ≡ false
    → cuts_from joins batch (x ∷ xs) ≡ batch ∷ cuts joins (x ∷ xs)
parted joins batch x xs e = ap (λ (b : Bool). if b then cuts_from joins (batch ++ x ∷ []) xs else batch ∷ cuts_from joins (x ∷ []) xs) e

pub map_take : {X Y : Type 0} (f : X → Y) (k : ℕ) (xs : List X) → map f (take k xs) ≡ take k (map f xs)
map_take f zero xs = refl
map_take f (suc k) [] = refl
map_take {Y = Y} f (suc k) (x ∷ xs) = ap (λ (ys : List Y). f x ∷ ys) (map_take f k xs)

pub map_drop : {X Y : Type 0} (f : X → Y) (k : ℕ) (xs : List X) → map f (drop k xs) ≡ drop k (map f xs)
map_drop f zero xs = refl
map_drop f (suc k) [] = refl
map_drop f (suc k) (x ∷ xs) = map_drop f k xs

pub filter_map_push : {X Y : Type 0} (f : X → Option Y) (xs : List X) (x : X) → filter_map f (xs ++ x ∷ []) ≡ filter_map f xs ++ cons_option (f x) []
filter_map_push f [] x = refl
filter_map_push {Y = Y} f (z ∷ xs) x = step (f z) (filter_map_push f xs x)
  where
    step : (o : Option Y) → filter_map f (xs ++ x ∷ []) ≡ filter_map f xs ++ cons_option (f x) [] → cons_option o (filter_map f (xs ++ x ∷ []))
        ≡ cons_option o (filter_map f xs) ++ cons_option (f x) []
    step None later = later
    step (Some y) later = ap (λ (ys : List Y). y ∷ ys) later

pub name_short : (n : List ℕ) → is_name n ≡ true → length n ≤ 255
name_short n h = leb-true _ _ (and_parts _ _ (and_parts _ _ (and_parts _ _ h).0).0).1

pub suffix_short : (n : List ℕ) → length (suffix_of n) ≤ length n
suffix_short n = let whole = ap length (law.cut is_dot n) in let parts = length-append (front_of n) (suffix_of n) in omega (arith, whole, parts)
