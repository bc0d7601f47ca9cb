-- The number that digits write grows with each digit.
use Rattle.std.proofs.Common.{◌≡◌, ℕ, ◌+◌, ◌*◌, ◌-◌, ◌<◌, ◌≤◌, List, [], ◌∷◌, length, drop, get_or, arith, refl, suc}
use Rattle.std.proofs.Math.Seq.{drop-cons}
use Rattle.rl_http.specs.Heads.{number_of, number_after}

pub digits_grow : (n : ℕ) (ds : List ℕ) → n ≤ number_after n ds
digits_grow n [] = omega arith
digits_grow n (d ∷ ds) = omega (arith, digits_grow (n * 10 + (d - 48)) ds)

-- what has passed a limit one digit later stays past it
pub digits_pass : (limit n i : ℕ) (all : List ℕ) → i < length all → number_after n (drop i all) ≡ number_of all
    → limit < n * 10 + (get_or all i 0 - 48) → limit < number_of all
digits_pass limit n i all within e h =
    let e2 : drop i all ≡ get_or all i 0 ∷ drop (suc i) all = drop-cons all i 0 within in
    let split : number_after n (drop i all) ≡ number_after (n * 10 + (get_or all i 0 - 48)) (drop (suc i) all) = rw e2 refl in
    omega (arith, digits_grow (n * 10 + (get_or all i 0 - 48)) (drop (suc i) all), split, e)
