-- Reading a query pair by pair gives the last value of each parameter, and a query that was written is read again.
use Rattle.std.proofs.Common.{◌≡◌, ℕ, Bool, true, false, cond, List, [], ◌∷◌, Some, None, refl, ap, ◌∙◌, bytes_eq}
use Rattle.std.specs.Prelude.{fold, filter, map, unwrap_or, codes}
use Rattle.std.specs.List.{last_or}
use Rattle.form_urlencoded.specs.Form as form
use Rattle.rl_names.specs.declared.query.Only.{Only}
use Rattle.rl_names.specs.declared.query.Only.TheVariants.{All}
use Rattle.rl_names.specs.declared.query.Query.{Query}
use Rattle.rl_names.specs.Query.{decoded, is_on, last_value, only_of, query_of}
use Rattle.rl_names.specs.QuerySteps.{later_value, no_query, noted_pair}

-- ---- reading

later_debug : Bool → List ℕ × List ℕ → Bool
later_debug debug pair = cond (bytes_eq (decoded pair.0) (codes "debug")) (is_on (decoded pair.1)) debug

later_only : Only → List ℕ × List ℕ → Only
later_only only pair = cond (bytes_eq (decoded pair.0) (codes "only")) (only_of (decoded pair.1)) only

-- each member goes its own way
noted_all : (q : Query) (pairs : List (List ℕ × List ℕ)) → fold noted_pair q pairs ≡ record {
  modules = fold (later_value (codes "modules")) q.modules pairs;
  lang = fold (later_value (codes "lang")) q.lang pairs;
  skin = fold (later_value (codes "skin")) q.skin pairs;
  debug = fold later_debug q.debug pairs;
  only = fold later_only q.only pairs;
  user = fold (later_value (codes "user")) q.user pairs;
  version = fold (later_value (codes "version")) q.version pairs;
}
unfolding later_debug later_only
noted_all q [] = refl
noted_all q (p ∷ ps) = noted_all (noted_pair q p) ps

debug_last : (found : List ℕ) (pairs : List (List ℕ × List ℕ)) →
    fold later_debug (is_on found) pairs ≡ is_on (fold (later_value (codes "debug")) found pairs)
unfolding later_debug
debug_last found [] = refl
debug_last found (p ∷ ps) =
    elim (bytes_eq (decoded p.0) (codes "debug")) as (λ v. fold later_debug (cond v (is_on (decoded p.1)) (is_on found)) ps
    ≡ is_on (fold (later_value (codes "debug")) (cond v (decoded p.1) found) ps)) [
      | true ↦ debug_last (decoded p.1) ps
      | false ↦ debug_last found ps
    ]

only_last : (found : List ℕ) (pairs : List (List ℕ × List ℕ)) →
    fold later_only (only_of found) pairs ≡ only_of (fold (later_value (codes "only")) found pairs)
unfolding later_only
only_last found [] = refl
only_last found (p ∷ ps) =
    elim (bytes_eq (decoded p.0) (codes "only")) as (λ v. fold later_only (cond v (only_of (decoded p.1)) (only_of found)) ps
    ≡ only_of (fold (later_value (codes "only")) (cond v (decoded p.1) found) ps)) [
      | true ↦ only_last (decoded p.1) ps
      | false ↦ only_last found ps
    ]

values_among : List ℕ → List (List ℕ × List ℕ) → List (List ℕ)
values_among name pairs = map (λ pair. decoded pair.1) (filter (λ pair. bytes_eq (decoded pair.0) name) pairs)

later_last : (name found : List ℕ) (pairs : List (List ℕ × List ℕ)) →
    fold (later_value name) found pairs ≡ unwrap_or (last_or (Some found) (values_among name pairs)) []
unfolding values_among
later_last name found [] = refl
later_last name found (p ∷ ps) =
    elim (bytes_eq (decoded p.0) name) as (λ v. fold (later_value name) (cond v (decoded p.1) found) ps
    ≡ unwrap_or (last_or (Some found) (map (λ pair. decoded pair.1)
    (cond v (p ∷ filter (λ pair. bytes_eq (decoded pair.0) name) ps) (filter (λ pair. bytes_eq (decoded pair.0) name) ps)))) []) [
      | true ↦ later_last name (decoded p.1) ps
      | false ↦ later_last name found ps
    ]

or_none : (values : List (List ℕ)) → unwrap_or (last_or (Some []) values) [] ≡ unwrap_or (last_or None values) []
or_none [] = refl
or_none (v ∷ vs) = refl

-- the value that a reading keeps is the last under the name
kept_last : (input name : List ℕ) → fold (later_value name) [] (form.raw_pairs input) ≡ last_value input name
unfolding values_among
kept_last input name = later_last name [] (form.raw_pairs input) ∙ or_none (values_among name (form.raw_pairs input))

by_folds : List ℕ → Query
by_folds input =
    let pairs = form.raw_pairs input in
    record {
      modules = fold (later_value (codes "modules")) [] pairs;
      lang = fold (later_value (codes "lang")) [] pairs;
      skin = fold (later_value (codes "skin")) [] pairs;
      debug = is_on (fold (later_value (codes "debug")) [] pairs);
      only = only_of (fold (later_value (codes "only")) [] pairs);
      user = fold (later_value (codes "user")) [] pairs;
      version = fold (later_value (codes "version")) [] pairs;
    }

folds_are_last : (input : List ℕ) → by_folds input ≡ query_of input
unfolding by_folds
folds_are_last input = rw (
  kept_last input (codes "modules"),
  kept_last input (codes "lang"),
  kept_last input (codes "skin"),
  kept_last input (codes "debug"),
  kept_last input (codes "only"),
  kept_last input (codes "user"),
  kept_last input (codes "version"),
) refl

pub noted_query : (input : List ℕ) → fold noted_pair no_query (form.raw_pairs input) ≡ query_of input
unfolding by_folds
noted_query input =
    let pairs = form.raw_pairs input in
    noted_all no_query pairs ∙ ap (λ d. record (by_folds input) { debug = d; only = fold later_only All pairs }) (debug_last [] pairs)
    ∙ ap (λ o. record (by_folds input) { only = o }) (only_last [] pairs)
    ∙ folds_are_last input
