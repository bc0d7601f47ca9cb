-- Marked elements, taken from the end.
use Rattle.std.proofs.Common.{◌≡◌, suc, ◌+◌, ◌<◌, Bool, true, false, List, [], ◌∷◌, ◌++◌, length, map, Option, Some, None}
use Rattle.std.proofs.Common.{refl, ap, sym, subst, ◌∙◌, arith, append_assoc, length-append, count_by}
use Rattle.std.specs.Prelude.{if◌then◌else◌, unwrap_or, option_to_list, filter, IsSome}
use Rattle.std.specs.List.Sorted.{IsPermutation}
use Rattle.std.proofs.lemmas.List.Sorted.{IsPermutation-append_comm, IsPermutation-append_right, IsPermutation-trans}
use Rattle.std.proofs.lemmas.List.Sums.{length-filter}
use Rattle.rl_store.specs.Merging.{picked}

pub picked_map : {X : Type 0} (p : X → Bool) (xs : List X) → picked (map p xs) xs ≡ filter p xs
picked_map p [] = refl
picked_map p (x ∷ xs) = ap (λ more. if p x then x ∷ more else more) (picked_map p xs)

length_kept : {X : Type 0} (marks : List Bool) (xs : List X) → length marks ≡ length xs → length (picked marks xs) ≡ length (filter (λ mark. mark) marks)
length_kept [] xs long = refl
length_kept (m ∷ marks) [] long = absurd (omega (arith, long))
length_kept (true ∷ marks) (x ∷ xs) long = ap suc (length_kept marks xs (omega (arith, long)))
length_kept (false ∷ marks) (x ∷ xs) long = length_kept marks xs (omega (arith, long))

pub length_picked : {X : Type 0} (marks : List Bool) (xs : List X) → length marks ≡ length xs → length (picked marks xs) ≡ count_by (λ mark. mark) marks
length_picked marks xs long = length_kept marks xs long ∙ length-filter (λ mark. mark) marks

picked_more : {X : Type 0} (marks : List Bool) (xs : List X) (mark : Bool) (x : X) → length marks ≡ length xs
    → picked (marks ++ mark ∷ []) (xs ++ x ∷ []) ≡ picked marks xs ++ (if mark then x ∷ [] else [])
picked_more [] [] mark x long = refl
picked_more [] (y ∷ xs) mark x long = absurd (omega (arith, long))
picked_more (m ∷ marks) [] mark x long = absurd (omega (arith, long))
picked_more (true ∷ marks) (y ∷ xs) mark x long = ap (λ more. y ∷ more) (picked_more marks xs mark x (omega (arith, long)))
picked_more (false ∷ marks) (y ∷ xs) mark x long = picked_more marks xs mark x (omega (arith, long))

-- what one more pop does
pub record IsPopped {X : Type 0} (marks : List Bool) (xs : List X) (last : List X) (all : List X) : Type 0 where
  pub long : length marks ≡ length xs
  pub is : all ≡ picked marks xs ++ last
  pub count : length all ≡ length (picked marks xs) + length last

pub popped : {X : Type 0} (marks ms : List Bool) (xs ys : List X) (o : Option Bool) (w : Bool) (x : X) → length marks ≡ length xs → xs ≡ ys ++ x ∷ []
    → marks ≡ ms ++ option_to_list o → (0 < length marks → IsSome o) → w ≡ unwrap_or o false
    → IsPopped ms ys (if w then x ∷ [] else []) (picked marks xs)
popped marks ms xs ys None w x long e f there d =
    let n : length xs ≡ length ys + 1 = ap length e ∙ length-append ys (x ∷ []) in
    let none = there (omega (arith, n, long)) in
    cc
popped {X = X} marks ms xs ys (Some mark) w x long e f there d =
    let n : length xs ≡ length ys + 1 = ap length e ∙ length-append ys (x ∷ []) in
    let m : length marks ≡ length ms + 1 = ap length f ∙ length-append ms (mark ∷ []) in
    let short : length ms ≡ length ys = omega (arith, n, m, long) in
    let last : List X = if w then x ∷ [] else [] in
    let whole : picked marks xs ≡ picked ms ys ++ last =
    ap (λ all. picked all xs) f ∙ ap (picked (ms ++ mark ∷ [])) e ∙ picked_more ms ys mark x short
    ∙ ap (λ v. picked ms ys ++ (if v then x ∷ [] else [])) (sym d) in
    record { long = short; is = whole; count = ap length whole ∙ length-append (picked ms ys) last }

pub passed_on : {X : Type 0} (from into left all more : List X) → IsPermutation from (into ++ all) → all ≡ left ++ more
    → IsPermutation from ((into ++ more) ++ left)
passed_on from into left all more moved e =
    let swapped = IsPermutation-append_right into (left ++ more) (more ++ left) (IsPermutation-append_comm left more) in
    IsPermutation-trans from (into ++ (left ++ more)) ((into ++ more) ++ left) (subst (λ zs. IsPermutation from (into ++ zs)) e moved)
    (subst (IsPermutation (into ++ (left ++ more))) (sym (append_assoc into more left)) swapped)
