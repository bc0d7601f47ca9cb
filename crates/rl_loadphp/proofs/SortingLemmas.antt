-- The names that are served and those that are not, and the answer over them.
use Rattle.std.proofs.Common.{◌≡◌, ℕ, Bool, true, false, not, ◌==◌, nat_lt, List, [], ◌∷◌, length, filter, refl, ap, ◌∙◌, arith}
use Rattle.std.proofs.lemmas.Bool.Decides.{nat_tests}
use Rattle.rl_names.specs.declared.query.Query.{Query}
use Rattle.rl_build.specs.declared.context.Context.{Context}
use Rattle.rl_build.specs.Sight.{Sight}
use Rattle.rl_loadphp.specs.declared.answers.Kind.{Kind}
use Rattle.rl_loadphp.specs.declared.answers.Answer.{Answer}
use Rattle.rl_loadphp.specs.Answer.{age_with}
use Rattle.rl_loadphp.specs.Served.{names_of, query_context, is_own, is_served, served, missing}

pub served_names : (s : Sight) (q : Query) (ctx : Context) (own : Bool) (names these : List (List ℕ))
    → ctx ≡ query_context s.catalogue q → own ≡ is_own s q → names ≡ names_of q
    → these ≡ filter (is_served s ctx own) names → these ≡ served s q
served_names s q ctx own names these same_ctx same_own same_names is =
    is ∙ ap (λ (x : Context). filter (is_served s x own) names) same_ctx
    ∙ ap (λ o. filter (is_served s (query_context s.catalogue q) o) names) same_own
    ∙ ap (filter (is_served s (query_context s.catalogue q) (is_own s q))) same_names

pub missing_names : (s : Sight) (q : Query) (ctx : Context) (own : Bool) (names these : List (List ℕ))
    → ctx ≡ query_context s.catalogue q → own ≡ is_own s q → names ≡ names_of q →
    these ≡ filter (λ (name : List ℕ). not (is_served s ctx own name)) names → these ≡ missing s q
missing_names s q ctx own names these same_ctx same_own same_names is =
    is ∙ ap (λ (x : Context). filter (λ (name : List ℕ). not (is_served s x own name)) names) same_ctx
    ∙ ap (λ o. filter (λ (name : List ℕ). not (is_served s (query_context s.catalogue q) o name)) names) same_own
    ∙ ap (filter (λ (name : List ℕ). not (is_served s (query_context s.catalogue q) (is_own s q) name))) same_names

pub same_answer : (body of_body : List ℕ) (kind of_kind : Kind) (age of_age : ℕ) (private of_private : Bool) → body ≡ of_body → kind ≡ of_kind →
    age ≡ of_age → private ≡ of_private
    → let answer : Answer = record { body = body; kind = kind; max_age = age; private = private } in
    let wanted : Answer = record { body = of_body; kind = of_kind; max_age = of_age; private = of_private } in answer ≡ wanted
same_answer body of_body kind of_kind age of_age private of_private e f g h = rw (e, f, g, h) refl

some_told : (user : List ℕ) → not (length user == 0) ≡ nat_lt 0 (length user)
some_told [] = refl
some_told (b ∷ bs) = grind (arith, nat_tests)

pub told : (empty : Bool) (read user : List ℕ) → empty ≡ (length read == 0) → read ≡ user → not empty ≡ nat_lt 0 (length user)
told empty read user is same = rw (is, same) (some_told user)

-- where no version is told the versions do not matter
pub same_age : (told of_told : List ℕ) (versions these : List (List ℕ)) (empty : Bool) → told ≡ of_told → empty ≡ (length told == 0) →
    (not empty ≡ true → versions ≡ these) → age_with told versions ≡ age_with of_told these
same_age [] of_told versions these empty is e same = rw (← is) refl
same_age (b ∷ bs) of_told versions these empty is e same =
    let some : (length (b ∷ bs) == 0) ≡ false = grind (arith, nat_tests) in
    let wanted : not empty ≡ true = rw (e, some) refl in
    rw (← is, same wanted) refl
