-- What has no fault is a name, and nothing else.
use Rattle.std.proofs.Common.{◌≡◌, ◌↔◌, ℕ, zero, suc, ◌+◌, Bool, true, false, ◌&&◌, not, cond, nat_lt, nat_le, ◌==◌, Some, None, List}
use Rattle.std.proofs.Common.{[], ◌∷◌, length, get_or, refl, arith, IsTrue}
use Rattle.std.proofs.lemmas.Bool.{false_from_ne_true}
use Rattle.std.specs.List.{list_all, position_or_len}
use Rattle.std.specs.Option.{option_map_or}
use Rattle.rl_names.specs.Name.{is_name, is_name_byte, name_fault, NameFault, Empty, TooLong, BadByte, LeadingDot, NamesAreFaultless}

one_more : (m n : ℕ) → nat_lt (1 + m) (suc n) ≡ nat_lt m n
one_more m n = grind arith

-- there is a place whose byte does not pass exactly where not all pass
place_or_all : (p : ℕ → Bool) (xs : List ℕ) → nat_lt (position_or_len (λ x. not (p x)) xs) (length xs) ≡ not (list_all p xs)
place_or_all p [] = refl
place_or_all p (x ∷ xs) =
    elim (p x) as (λ v. nat_lt (cond (not (not v)) (1 + position_or_len (λ x. not (p x)) xs) 0) (suc (length xs)) ≡ not (v && list_all p xs)) [
      | true ↦ rw (one_more (position_or_len (λ y. not (p y)) xs) (length xs)) (place_or_all p xs)
      | false ↦ grind arith
    ]

-- the four tests, told apart from each other
told : (n at : ℕ) (none many all dot : Bool)
    → (cond none (Some Empty) (cond many (Some (TooLong n))
    (option_map_or (λ k. Some (BadByte k)) (cond (not all) (Some at) None) (cond dot (Some LeadingDot) None))) ≡ None)
    ↔ ((not none && not many && all && not dot) ≡ true)
told n at true many all dot = (λ e. absurd (cc), λ e. absurd (cc))
told n at false true all dot = (λ e. absurd (cc), λ e. absurd (cc))
told n at false false true true = (λ e. absurd (cc), λ e. absurd (cc))
told n at false false true false = (λ e. refl, λ e. refl)
told n at false false false dot = (λ e. absurd (cc), λ e. absurd (cc))

some_bytes : (n : ℕ) → nat_le 1 n ≡ not (n == 0)
some_bytes zero = refl
some_bytes (suc n) = grind arith

few_bytes : (m n : ℕ) → nat_le n m ≡ not (nat_lt m n)
few_bytes m zero = grind arith
few_bytes m (suc n) = grind arith

pub names_are_faultless : NamesAreFaultless
names_are_faultless bytes =
    let n = length bytes in
    let at = position_or_len (λ b. not (is_name_byte b)) bytes in
    let all = list_all is_name_byte bytes in
    let dot = get_or bytes 0 0 == 46 in
    rw (place_or_all is_name_byte bytes, some_bytes n, few_bytes 255 n) (told n at (n == 0) (nat_lt 255 n) all dot)

pub faultless_name : (bytes : List ℕ) → name_fault bytes ≡ None → IsTrue (is_name bytes)
faultless_name bytes h = (names_are_faultless bytes).0 h

pub faulty_name : (bytes : List ℕ) (e : NameFault) → name_fault bytes ≡ Some e → is_name bytes ≡ false
faulty_name bytes e h =
    false_from_ne_true (is_name bytes) (λ t. let none : name_fault bytes ≡ None = (names_are_faultless bytes).1 t in cc)
