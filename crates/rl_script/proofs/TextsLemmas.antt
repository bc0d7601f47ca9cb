-- A line without its carriage return.
use Rattle.std.proofs.Common.{◌≡◌, ◌≢◌, ℕ, List, [], ◌∷◌, ◌++◌, false, Option, Some, None, Bor, refl, ap, sym, arith}
use Rattle.std.specs.Prelude.{◌==◌, MatchOption, unwrap_or}
use Rattle.rl_script_spec.specs.Script.{trimmed}

ne-eqb : (a b : ℕ) → a ≢ b → (a == b) ≡ false
ne-eqb a b n = grind arith

trimmed_push : (xs : List ℕ) → trimmed (xs ++ 13 ∷ []) ≡ xs
trimmed_push [] = refl
trimmed_push (x ∷ []) = refl
trimmed_push (x ∷ y ∷ xs) = ap (λ zs. x ∷ zs) (trimmed_push (y ∷ xs))

trimmed_same : (bs : List ℕ) → ((front : List ℕ) → bs ≢ front ++ 13 ∷ []) → trimmed bs ≡ bs
trimmed_same [] h = refl
trimmed_same (b ∷ []) h = rw (ne-eqb b 13 (λ e. h [] (ap (λ x. x ∷ []) e))) refl
trimmed_same (b ∷ c ∷ cs) h = ap (λ zs. b ∷ zs) (trimmed_same (c ∷ cs) (λ front e. h (b ∷ front) (ap (λ zs. b ∷ zs) e)))

-- what stands before the carriage return, or the line where there is none
pub trimmed_from : (line : Bor (List ℕ)) (stripped : Option (Bor (List ℕ)))
    → MatchOption stripped ((front : List ℕ) → line.now ≢ front ++ 13 ∷ []) (λ front. line.now ≡ front.now ++ 13 ∷ [])
    → (unwrap_or stripped line).now ≡ trimmed line.now
trimmed_from line None none = sym (trimmed_same line.now none)
trimmed_from line (Some front) is = rw is (sym (trimmed_push front.now))
