-- Texts written one after another.
use Rattle.std.proofs.Common.{◌≡◌, ℕ, zero, suc, ◌+◌, ◌<◌, ◌≤◌, ◌⊎◌, List, [], ◌∷◌, ◌++◌, Bool, true, false, length, map}
use Rattle.std.proofs.Common.{take, get_or, inl, inr, refl, ap, sym, ◌∙◌, arith, append_assoc, append-nil}
use Rattle.std.specs.Prelude.{codes, flat_map, if◌then◌else◌}
use Rattle.std.specs.List.{enumerate_from}
use Rattle.std.proofs.lemmas.List.{flat_map_more, take_all, take_more}
use Rattle.rl_view_spec.specs.Closure.{Text, Registered}
use Rattle.rl_view_spec.specs.Progress.{row_numbers}
use Rattle.rl_script_spec.specs.Output.{line}

-- a piece and the rest of its line
pub line_more : (out before after a b : Text) → before ≡ out ++ a → after ≡ before ++ line b → after ≡ out ++ line (a ++ b)
line_more out before after a b e f =
    f ∙ ap (λ (text : Text). text ++ line b) e ∙ append_assoc out a (line b) ∙ ap (λ (text : Text). out ++ text) (sym (append_assoc a b (10 ∷ [])))

-- two pieces
pub piece_more : (out before after a b : Text) → before ≡ out ++ a → after ≡ before ++ b → after ≡ out ++ (a ++ b)
piece_more out before after a b e f = f ∙ ap (λ (text : Text). text ++ b) e ∙ append_assoc out a b

-- a word, a key, a blank and a number, which make a line
pub run_written : (out word key number out1 out2 out3 out4 out5 : Text) → out1 ≡ out ++ word → out2 ≡ out1 ++ key → out3 ≡ out2 ++ codes " " →
    out4 ≡ out3 ++ number → out5 ≡ out4 ++ line []
    → out5 ≡ out ++ line (word ++ (key ++ codes " " ++ number))
run_written out word key number out1 out2 out3 out4 out5 e1 e2 e3 e4 e5 =
    line_more out out4 out5 (((word ++ key) ++ codes " ") ++ number) []
    (piece_more out out3 out4 ((word ++ key) ++ codes " ") number
    (piece_more out out2 out3 (word ++ key) (codes " ") (piece_more out out1 out2 word key e1 e2) e3) e4) e5
    ∙ ap (λ (text : Text). out ++ line text)
    (append-nil (((word ++ key) ++ codes " ") ++ number)
    ∙ ap (λ (text : Text). text ++ number) (append_assoc word key (codes " "))
    ∙ append_assoc word (key ++ codes " ") number)

-- ---- a text for each row

numbers_at : {X : Type 0} (n : ℕ) (xs : List X) (k d : ℕ) → k < length xs →
    get_or (map (λ (numbered : ℕ × X). numbered.0) (enumerate_from n xs)) k d ≡ n + k
numbers_at n [] k d low = absurd (omega (arith, low))
numbers_at n (x ∷ xs) zero d low = omega arith
numbers_at n (x ∷ xs) (suc k) d low = omega (arith, numbers_at (n + 1) xs k d (omega (arith, low)))

numbers_long : {X : Type 0} (n : ℕ) (xs : List X) → length (map (λ (numbered : ℕ × X). numbered.0) (enumerate_from n xs)) ≡ length xs
numbers_long n [] = refl
numbers_long n (x ∷ xs) = ap suc (numbers_long (n + 1) xs)

numbers_more : (r : Registered) (k : ℕ) → k < length r.rows → take (k + 1) (row_numbers r) ≡ take k (row_numbers r) ++ k ∷ []
numbers_more r k low =
    let inside : k < length (row_numbers r) = omega (arith, numbers_long 0 r.rows) in
    let at : get_or (row_numbers r) k k ≡ k = numbers_at 0 r.rows k k low ∙ omega arith in
    take_more (row_numbers r) k k inside ∙ ap (λ (j : ℕ). take k (row_numbers r) ++ j ∷ []) at

pub rows_more : (f : ℕ → Text) (r : Registered) (k : ℕ) (out before after : Text) → k < length r.rows →
    before ≡ out ++ flat_map f (take k (row_numbers r)) → after ≡ before ++ f k
    → after ≡ out ++ flat_map f (take (k + 1) (row_numbers r))
rows_more f r k out before after low e more =
    more ∙ ap (λ (text : Text). text ++ f k) e ∙ flat_map_more f out (take k (row_numbers r)) k
    ∙ ap (λ (rows : List ℕ). out ++ flat_map f rows) (sym (numbers_more r k low))

pub rows_all : (f : ℕ → Text) (r : Registered) (k : ℕ) (out before : Text) → length r.rows ≤ k →
    before ≡ out ++ flat_map f (take k (row_numbers r)) → before ≡ out ++ flat_map f (row_numbers r)
rows_all f r k out before high e =
    e ∙ ap (λ (rows : List ℕ). out ++ flat_map f rows) (take_all k (row_numbers r) (omega (arith, high, numbers_long 0 r.rows)))

-- what is written where a test passes
pub text_if : (b : Bool) (text before after : Text) → (b ≡ true) × (after ≡ before ++ text) ⊎ (b ≡ false) × (after ≡ before) →
    after ≡ before ++ (if b then text else [])
text_if true text before after (inl e) = e.1
text_if false text before after (inl e) = absurd (cc)
text_if true text before after (inr e) = absurd (cc)
text_if false text before after (inr e) = e.1 ∙ sym (append-nil before)
