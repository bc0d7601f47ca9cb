-- A query written one parameter after another.
use Rattle.std.proofs.Common.{◌≡◌, ℕ, Bool, true, false, cond, nat_lt, List, [], ◌∷◌, length, filter, refl, ◌∙◌, ap, Result, Ok, Err, IfOk}
use Rattle.std.specs.Prelude.{codes}
use Rattle.form_urlencoded.specs.Form.{extend_pairs, append_pair}
use Rattle.rl_names.specs.declared.query.Query.{Query}
use Rattle.rl_names.specs.declared.text.NoMemory.{NoMemory}
use Rattle.rl_names.specs.Query.{debug_text, only_text, query_text, query_of, IsText}
use Rattle.rl_names.specs.QuerySteps.{with_parameter}
use Rattle.rl_names.proofs.QueryAgainLemmas.{query_is_read_again}

abbrev present : List ℕ × List ℕ → Bool
present pair = nat_lt 0 (length pair.1)

one : (form name value : List ℕ) (ps : List (List ℕ × List ℕ)) →
    extend_pairs form (filter present ((name, value) ∷ ps)) ≡ extend_pairs (with_parameter form name value) (filter present ps)
one form name value ps =
    elim (nat_lt 0 (length value)) as (λ v. extend_pairs form (cond v ((name, value) ∷ filter present ps) (filter present ps))
    ≡ extend_pairs (cond v (append_pair form name value) form) (filter present ps)) [ true ↦ refl | false ↦ refl ]

abbrev pub up_to_lang : Query → List ℕ
up_to_lang q = with_parameter (with_parameter [] (codes "debug") (debug_text q.debug)) (codes "lang") q.lang

abbrev pub up_to_only : Query → List ℕ
up_to_only q = with_parameter (with_parameter (up_to_lang q) (codes "modules") q.modules) (codes "only") (only_text q.only)

abbrev pub up_to_user : Query → List ℕ
up_to_user q = with_parameter (with_parameter (up_to_only q) (codes "skin") q.skin) (codes "user") q.user

pub in_steps : (q : Query) → query_text q ≡ with_parameter (up_to_user q) (codes "version") q.version
in_steps q =
    let t7 : List (List ℕ × List ℕ) = (codes "version", q.version) ∷ [] in
    let t6 : List (List ℕ × List ℕ) = (codes "user", q.user) ∷ t7 in
    let t5 : List (List ℕ × List ℕ) = (codes "skin", q.skin) ∷ t6 in
    let t4 : List (List ℕ × List ℕ) = (codes "only", only_text q.only) ∷ t5 in
    let t3 : List (List ℕ × List ℕ) = (codes "modules", q.modules) ∷ t4 in
    let t2 : List (List ℕ × List ℕ) = (codes "lang", q.lang) ∷ t3 in
    one [] (codes "debug") (debug_text q.debug) t2
    ∙ one (with_parameter [] (codes "debug") (debug_text q.debug)) (codes "lang") q.lang t3
    ∙ one (up_to_lang q) (codes "modules") q.modules t4
    ∙ one (with_parameter (up_to_lang q) (codes "modules") q.modules) (codes "only") (only_text q.only) t5
    ∙ one (up_to_only q) (codes "skin") q.skin t6
    ∙ one (with_parameter (up_to_only q) (codes "skin") q.skin) (codes "user") q.user t7
    ∙ one (up_to_user q) (codes "version") q.version []

pub again : (q : Query) (r : Result (List ℕ) NoMemory) → IfOk r (λ t. t ≡ query_text q) → IfOk r (λ _. IsText q) → IfOk r (λ t. query_of t ≡ q)
again q (Ok t) is utf8 = ap query_of is ∙ query_is_read_again q utf8
again q (Err e) is utf8 = tt
