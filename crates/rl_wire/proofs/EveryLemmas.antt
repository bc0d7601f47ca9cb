-- What holds of each element, as a loop goes on.
use Rattle.std.proofs.Common.{ℕ, ◌≤◌, List, length, drop, subst, sym}
use Rattle.std.specs.List.{AllByRecursion}
use Rattle.std.proofs.lemmas.List.{drop_all}

-- behind the end there is none
pub none_left : {X : Type 0} (P : X → Type 0) (xs : List X) (i : ℕ) → length xs ≤ i → AllByRecursion P (drop i xs)
none_left P xs i end = subst (AllByRecursion P) (sym (drop_all i xs end)) tt
