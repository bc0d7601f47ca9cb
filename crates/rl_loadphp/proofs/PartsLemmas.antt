-- What is said of names is lawful parts.
use Rattle.std.proofs.Common.{◌≡◌, ℕ, zero, suc, ◌+◌, ◌<◌, ◌≤◌, arith, get_or, List, [], ◌∷◌, ◌++◌, length, drop, map}
use Rattle.std.proofs.Common.{Option, Some, None, option_map, IfSome, IsTrue, IsUtf8, sym, subst}
use Rattle.std.specs.List.{AllByRecursion, filter_map, cons_option}
use Rattle.rl_names.specs.Name.{is_version}
use Rattle.rl_wire.specs.Line.{IsPart}
use Rattle.rl_wire.proofs.EveryLemmas.{none_left}
use Rattle.rl_build.specs.declared.context.Context.{Context}
use Rattle.rl_build.specs.declared.payloads.Payload.{Payload}
use Rattle.rl_build.specs.Sight.{Sight}
use Rattle.rl_build.specs.Payload.{version_of, IsBrought}
use Rattle.rl_loadphp.specs.Body.{built, implementation_of, missing_part, parts_of}

-- what a name brings makes a part
pub part_built : (name : List ℕ) (p : Payload) (version : List ℕ) → version ≡ version_of p → IsTrue (is_version version) → IsBrought name p →
    IsPart (built name p)
part_built name p version is lawful brought = (brought.0, subst (λ v. IsTrue (is_version v)) is lawful, brought.1, brought.2, brought.3, brought.4)

pub implementation_part : (o : Option Payload) (name : List ℕ) (p : Payload) (version : List ℕ) → o ≡ Some p → version ≡ version_of p →
    IsTrue (is_version version) → IsBrought name p → IfSome (option_map (built name) o) IsPart
implementation_part o name p version brings is lawful brought =
    let P : Option Payload → Type 0 = λ o. IfSome (option_map (built name) o) IsPart in
    subst P (sym brings) (part_built name p version is lawful brought)

both : {X : Type 0} (P : X → Type 0) (xs ys : List X) → AllByRecursion P xs → AllByRecursion P ys → AllByRecursion P (xs ++ ys)
both P [] ys a b = b
both P (x ∷ xs) ys a b = (a.0, both P xs ys a.1 b)

with_first : {Y : Type 0} (P : Y → Type 0) (o : Option Y) (ys : List Y) → IfSome o P → AllByRecursion P ys → AllByRecursion P (cons_option o ys)
with_first P None ys h all = all
with_first P (Some y) ys h all = (h, all)

each_some : {X Y : Type 0} (P : Y → Type 0) (f : X → Option Y) (xs : List X) → AllByRecursion (λ x. IfSome (f x) P) xs →
    AllByRecursion P (filter_map f xs)
each_some P f [] all = tt
each_some P f (x ∷ xs) all = with_first P (f x) (filter_map f xs) all.0 (each_some P f xs all.1)

states : (names : List (List ℕ)) → AllByRecursion IsUtf8 names → AllByRecursion IsPart (map missing_part names)
states [] all = tt
states (name ∷ names) all = (all.0, states names all.1)

-- behind a loop over the served names
pub all_parts : (s : Sight) (ctx : Context) (items served others missing : List (List ℕ)) (i : ℕ) → items ≡ served → others ≡ missing →
    length items ≤ i
    → (AllByRecursion (λ (name : List ℕ). IfSome (implementation_of s ctx name) IsPart) (drop i items)
    → AllByRecursion (λ (name : List ℕ). IfSome (implementation_of s ctx name) IsPart) items)
    → AllByRecursion IsUtf8 others → AllByRecursion IsPart (parts_of s ctx served missing)
all_parts s ctx items served others missing i same same_too end all utf8 =
    let P : List ℕ → Type 0 = λ name. IfSome (implementation_of s ctx name) IsPart in
    let each : AllByRecursion P served = subst (AllByRecursion P) same (all (none_left P items i end)) in
    both IsPart (filter_map (implementation_of s ctx) served) (map missing_part missing) (each_some IsPart (implementation_of s ctx) served each)
    (states missing (subst (AllByRecursion IsUtf8) same_too utf8))

pub same_parts : (s : Sight) (ctx of_ctx : Context) (served of_served missing of_missing : List (List ℕ)) → ctx ≡ of_ctx → served ≡ of_served →
    missing ≡ of_missing
    → AllByRecursion IsPart (parts_of s ctx served missing) → AllByRecursion IsPart (parts_of s of_ctx of_served of_missing)
same_parts s ctx of_ctx served of_served missing of_missing a b e parts =
    let P : Context → Type 0 = λ x. AllByRecursion IsPart (parts_of s x served missing) in
    let Q : List (List ℕ) → Type 0 = λ ns. AllByRecursion IsPart (parts_of s of_ctx ns missing) in
    let R : List (List ℕ) → Type 0 = λ ns. AllByRecursion IsPart (parts_of s of_ctx of_served ns) in
    subst R e (subst Q b (subst P a parts))

-- what holds of one element and of those behind it
pub one_left : {X : Type 0} (P : X → Type 0) (xs : List X) (i : ℕ) (x : X) → i < length xs → x ≡ get_or xs i x → P x →
    AllByRecursion P (drop (i + 1) xs) → AllByRecursion P (drop i xs)
one_left P [] i x within is h rest = absurd (omega arith)
one_left P (y ∷ ys) zero x within is h rest = (subst P is h, rest)
one_left P (y ∷ ys) (suc i) x within is h rest =
    let next : suc i + 1 ≡ suc (i + 1) = omega arith in
    one_left P ys i x (omega arith) is h (subst (λ n. AllByRecursion P (drop n (y ∷ ys))) next rest)
