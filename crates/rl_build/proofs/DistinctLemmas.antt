-- How many distinct texts there are.
use Rattle.std.proofs.Common.{ℕ, ◌≤◌, Bool, not, filter, List, [], ◌∷◌, length, bytes_eq, arith}
use Rattle.std.proofs.lemmas.List.Sums.{count_by-le-length, length-filter}
use Rattle.rl_names.specs.Packing.{distinct}

pub filter_few : {X : Type 0} (p : X → Bool) (xs : List X) → length (filter p xs) ≤ length xs
filter_few p xs = omega (arith, length-filter p xs, count_by-le-length p xs)

pub distinct_few : (xs : List (List ℕ)) → length (distinct xs) ≤ length xs
distinct_few [] = omega arith
distinct_few (x ∷ xs) = omega (arith, filter_few (λ y. not (bytes_eq x y)) (distinct xs), distinct_few xs)
