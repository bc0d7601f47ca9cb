-- Fronts of the input as heads.
use Rattle.std.proofs.Common.{◌≡◌, ℕ, ◌+◌, ◌-◌, ◌<◌, ◌≤◌, List, ◌++◌, length, take, drop, Ok, Result}
use Rattle.std.proofs.Common.{ap, sym, subst, ◌∙◌, inl, arith, append_assoc}
use Rattle.std.proofs.lemmas.Grind.{common_steps}
use Rattle.std.proofs.lemmas.List.{take-append-drop}
use Rattle.std.proofs.Math.Seq.{drop-append_seam, take-append-add}
use Rattle.httparse.specs.Grammar.{print_request}
use Rattle.rl_http.specs.declared.heads.Head.{Head}
use Rattle.rl_http.specs.declared.heads.HeadRead.{HeadRead}
use Rattle.rl_http.specs.declared.heads.HeadRead.TheVariants.{Part}
use Rattle.rl_http.specs.Heads.{BeginsWith, ReadsHead}
use Rattle.rl_http.specs.Serving.{looked_at, IsPart}

pub take_all : (n : ℕ) (xs : List ℕ) → length xs ≤ n → take n xs ≡ xs
take_all n xs h = grind (arith, common_steps)

-- what a front of a list begins with, the list begins with
pub front_of : (p r xs : List ℕ) (n : ℕ) → take n xs ≡ p ++ r → xs ≡ p ++ drop (length p) xs
front_of p r xs n e =
    let whole : xs ≡ p ++ (r ++ drop n xs) = sym (take-append-drop n xs) ∙ (ap (λ (t : List ℕ). t ++ drop n xs) e ∙ append_assoc p r (drop n xs)) in
    whole ∙ ap (λ (t : List ℕ). p ++ t) (sym (ap (drop (length p)) whole ∙ drop-append_seam p (r ++ drop n xs)))

pub begins_in : (bytes : List ℕ) (n used : ℕ) (said : Result Head ℕ) → BeginsWith (take n bytes) used said → BeginsWith bytes used said
begins_in bytes n used said b = (
  b.0,
  (b.1.0, front_of (print_request b.0) (drop used (take n bytes)) bytes n b.1.1 ∙ ap (λ (k : ℕ). print_request b.0 ++ drop k bytes) (sym b.2)),
  b.2,
  b.3,
)

-- a head in what is looked at
pub begins_looked : (bytes input : List ℕ) (used : ℕ) (said : Result Head ℕ)
    → bytes ≡ looked_at input → BeginsWith bytes used said → BeginsWith input used said
begins_looked bytes input used said e b = begins_in input 16384 used said (subst (λ (t : List ℕ). BeginsWith t used said) e b)

pub reads_looked : (bytes input : List ℕ) (read : HeadRead) → bytes ≡ looked_at input → ReadsHead bytes read → ReadsHead (looked_at input) read
reads_looked bytes input read e r = subst (λ (t : List ℕ). ReadsHead t read) e r

-- where all is looked at, it ends inside a head
pub is_part : (input : List ℕ) → length input < 16384 → ReadsHead (looked_at input) Part → IsPart input
is_part input short r = inl (short, subst (λ (t : List ℕ). ReadsHead t Part) (take_all 16384 input (omega arith)) r)

pub take_front : (p q : List ℕ) (to : ℕ) → length p ≤ to → take to (p ++ q) ≡ p ++ drop (length p) (take to (p ++ q))
take_front p q to h =
    let split : to ≡ length p + (to - length p) = omega arith in
    let e : take to (p ++ q) ≡ p ++ take (to - length p) q = ap (λ (n : ℕ). take n (p ++ q)) split ∙ take-append-add p q (to - length p) in
    e ∙ ap (λ (t : List ℕ). p ++ t) (sym (ap (drop (length p)) e ∙ drop-append_seam p (take (to - length p) q)))

-- a front that holds the head begins with it
pub begins_cut : (input : List ℕ) (to used : ℕ) (said : Result Head ℕ)
    → used ≤ to → BeginsWith input used said → BeginsWith (take to input) used said
begins_cut input to used said h b =
    let whole : input ≡ print_request b.0 ++ drop used input = b.1.1 in
    let small : length (print_request b.0) ≤ to = omega (arith, b.2) in
    let front : take to input ≡ print_request b.0 ++ drop (length (print_request b.0)) (take to input) =
    subst (λ (t : List ℕ). take to t ≡ print_request b.0 ++ drop (length (print_request b.0)) (take to t)) (sym whole)
    (take_front (print_request b.0) (drop used input) to small) in
    (b.0, (b.1.0, front ∙ ap (λ (k : ℕ). print_request b.0 ++ drop k (take to input)) (sym b.2)), b.2, b.3)
