-- The first five digits of base 36: how they are divided off.
use Rattle.std.proofs.Common.{◌≡◌, ◌<◌, ◌≤◌, ◌+◌, ◌-◌, ◌/◌, ◌%◌, ◌^◌, ℕ, zero, suc, Bool, true, false, cond, List, [], ◌∷◌, ◌++◌, length, take, replicate, refl, sym, ap, ◌∙◌, arith, append_assoc}
use Rattle.std.specs.Prelude.{◌==◌, nat_lt}
use Rattle.std.specs.Fmt.{digit_glyph, digits, digits_onto}
use Rattle.std.proofs.lemmas.Bool.{ltb-true, ltb-false}
use Rattle.std.proofs.lemmas.List.{length-append, take-append-le, replicate-append-replicate, append-nil}
use Rattle.rl_names.specs.Hash.{base_36, padded, version_of_hash}

-- the digits of n that at most `count` steps divide off, and `more` behind them
abbrev divided : ℕ → ℕ → List ℕ → List ℕ
divided count n more = digits_onto count 36 false n more

-- the last digit
abbrev unit : ℕ → ℕ
unit n = digit_glyph false (n % 36)

-- the last `count` digits
abbrev last : ℕ → ℕ → List ℕ
last zero n = []
last (suc count) n = last count (n / 36) ++ unit n ∷ []

divided_last : (count n : ℕ) (more : List ℕ) → n < 36 → divided (suc count) n more ≡ unit n ∷ more
divided_last count n more low =
    let ends : (n / 36 == 0) ≡ true = grind arith in
    ap (λ t. cond t (unit n ∷ more) (divided count (n / 36) (unit n ∷ more))) ends

divided_step : (count n : ℕ) (more : List ℕ) → 36 ≤ n → divided (suc count) n more ≡ divided count (n / 36) (unit n ∷ more)
divided_step count n more high =
    let goes_on : (n / 36 == 0) ≡ false = grind arith in
    ap (λ t. cond t (unit n ∷ more) (divided count (n / 36) (unit n ∷ more))) goes_on

both : (t : Bool) (a b c d more : List ℕ) → a ≡ c ++ more → b ≡ d ++ more → cond t a b ≡ cond t c d ++ more
both true a b c d more first second = first
both false a b c d more first second = second

behind : (count n : ℕ) (more : List ℕ) → divided count n more ≡ divided count n [] ++ more
behind zero n more = refl
behind (suc count) n more = both (n / 36 == 0) (unit n ∷ more) (divided count (n / 36) (unit n ∷ more)) (unit n ∷ []) (divided count (n / 36) (unit n ∷ [])) more refl
    (behind count (n / 36) (unit n ∷ more) ∙ sym (append_assoc (divided count (n / 36) []) (unit n ∷ []) more)
    ∙ ap (λ xs. xs ++ more) (sym (behind count (n / 36) (unit n ∷ []))))

-- more steps divide nothing off that was not
enough : (count n : ℕ) (more : List ℕ) → n < 36 ^ suc count → divided (suc count) n more ≡ divided (suc (suc count)) n more
enough zero n more below =
    let low : n < 36 = omega arith in
    divided_last 0 n more low ∙ sym (divided_last 1 n more low)
enough (suc count) n more below =
    let less : n / 36 < 36 ^ suc count = grind arith in
    ap (λ xs. cond (n / 36 == 0) (unit n ∷ more) xs) (enough count (n / 36) (unit n ∷ more) less)

one_digit : (n : ℕ) → n < 36 → base_36 n ≡ unit n ∷ []
unfolding digits
one_digit n low = divided_last 63 n [] low

one_more : (n : ℕ) → 36 ≤ n → n < 2 ^ 32 → base_36 n ≡ base_36 (n / 36) ++ unit n ∷ []
unfolding digits
one_more n high fits =
    let less : n / 36 < 36 ^ 63 = omega arith in
    divided_step 63 n [] high ∙ enough 62 (n / 36) (unit n ∷ []) less ∙ behind 64 (n / 36) (unit n ∷ [])

-- zeros in front of a number with one digit more
padded_push : (count : ℕ) (xs : List ℕ) (x : ℕ) → padded (suc count) (xs ++ x ∷ []) ≡ padded count xs ++ x ∷ []
padded_push count xs x =
    let one_more : length (xs ++ x ∷ []) ≡ length xs + 1 = length-append xs (x ∷ []) in
    let fewer : suc count - length (xs ++ x ∷ []) ≡ count - length xs = omega arith in
    ap (λ k. replicate k 48 ++ (xs ++ x ∷ [])) fewer ∙ sym (append_assoc (replicate (count - length xs) 48) xs (x ∷ []))

last_zeros : (count : ℕ) → last count 0 ≡ replicate count 48
last_zeros zero = refl
last_zeros (suc count) =
    let more : count + 1 ≡ suc count = omega arith in
    ap (λ xs. xs ++ 48 ∷ []) (last_zeros count) ∙ replicate-append-replicate count 1 48 ∙ ap (λ k. replicate k 48) more

padded_nothing : (count : ℕ) → padded count [] ≡ last count 0
padded_nothing count =
    let all : count - 0 ≡ count = omega arith in
    append-nil (replicate (count - 0) 48) ∙ ap (λ k. replicate k 48) all ∙ sym (last_zeros count)

padded_digit : (count n : ℕ) → n < 36 → padded (suc count) (base_36 n) ≡ last (suc count) n
padded_digit count n low =
    let none : 0 ≡ n / 36 = omega arith in
    ap (padded (suc count)) (one_digit n low) ∙ padded_push count [] (unit n) ∙ ap (λ xs. xs ++ unit n ∷ []) (padded_nothing count)
    ∙ ap (λ m. last count m ++ unit n ∷ []) none

padded_more : (count n : ℕ) (t : Bool) → nat_lt n 36 ≡ t → n < 2 ^ 32 → padded count (base_36 (n / 36)) ≡ last count (n / 36) →
    padded (suc count) (base_36 n) ≡ last (suc count) n
padded_more count n true e fits h = padded_digit count n (ltb-true n 36 e)
padded_more count n false e fits h =
    ap (padded (suc count)) (one_more n (ltb-false n 36 e) fits) ∙ padded_push count (base_36 (n / 36)) (unit n) ∙ ap (λ xs. xs ++ unit n ∷ []) h

padded_is_last : (count n : ℕ) → n < 36 ^ suc count → n < 2 ^ 32 → padded (suc count) (base_36 n) ≡ last (suc count) n
padded_is_last zero n below fits = padded_digit zero n (omega arith)
padded_is_last (suc count) n below fits =
    let less : n / 36 < 36 ^ suc count = grind arith in
    padded_more (suc count) n (nat_lt n 36) refl fits (padded_is_last count (n / 36) less (omega arith))

-- five digits are all of a number below 36 ^ 5
pub five_digits : (n : ℕ) → n < 36 ^ 5 → version_of_hash n ≡ last 5 n
unfolding version_of_hash
five_digits n below = ap (take 5) (padded_is_last 4 n below (omega arith))

-- how many digits there are
longer : (n : ℕ) → 36 ≤ n → n < 2 ^ 32 → length (base_36 n) ≡ length (base_36 (n / 36)) + 1
longer n high fits = ap length (one_more n high fits) ∙ length-append (base_36 (n / 36)) (unit n ∷ [])

not_empty : (n : ℕ) → n < 2 ^ 32 → 1 ≤ length (base_36 n)
not_empty n fits = by (nat_lt n 36) refl
  where
    by : (t : Bool) → nat_lt n 36 ≡ t → 1 ≤ length (base_36 n)
    by true e = let one = ap length (one_digit n (ltb-true n 36 e)) in omega arith
    by false e = let more = longer n (ltb-false n 36 e) fits in omega arith

five_at_least : (n : ℕ) → 36 ^ 4 ≤ n → n < 2 ^ 32 → 5 ≤ length (base_36 n)
five_at_least n large fits =
    let a = longer n (omega arith) fits in
    let b = longer (n / 36) (omega arith) (omega arith) in
    let c = longer (n / 36 / 36) (omega arith) (omega arith) in
    let d = longer (n / 36 / 36 / 36) (omega arith) (omega arith) in
    let e = not_empty (n / 36 / 36 / 36 / 36) (omega arith) in
    omega arith

padded_long : (xs : List ℕ) → 5 ≤ length xs → padded 5 xs ≡ xs
padded_long xs long =
    let none : 5 - length xs ≡ 0 = omega arith in
    ap (λ k. replicate k 48 ++ xs) none

-- a digit behind the fifth changes nothing
pub sixth_digit : (n : ℕ) → 36 ^ 5 ≤ n → n < 2 ^ 32 → version_of_hash (n / 36) ≡ version_of_hash n
unfolding version_of_hash
sixth_digit n large fits =
    let long = five_at_least (n / 36) (omega arith) (omega arith) in
    let longer = five_at_least n (omega arith) fits in
    ap (take 5) (padded_long (base_36 (n / 36)) long) ∙ sym (take-append-le 5 (base_36 (n / 36)) (unit n ∷ []) long)
    ∙ ap (take 5) (sym (one_more n (omega arith) fits)) ∙ ap (take 5) (sym (padded_long (base_36 n) longer))
