-- The last value of a form, found pair by pair.
use Rattle.std.proofs.Common.{◌≡◌, ℕ, Bool, true, false, List, [], ◌∷◌, Some, None, refl, ◌∙◌, bytes_eq}
use Rattle.std.specs.Prelude.{fold, filter, map, unwrap_or}
use Rattle.std.specs.List.{last_or}
use Rattle.form_urlencoded.specs.Form as form
use Rattle.rl_names.specs.Query.{decoded, last_value}
use Rattle.rl_http.specs.Forms.{later_value}

abbrev values_in : List ℕ → List (List ℕ × List ℕ) → List (List ℕ)
values_in name pairs = map (λ (pair : List ℕ × List ℕ). decoded pair.1) (filter (λ (pair : List ℕ × List ℕ). bytes_eq (decoded pair.0) name) pairs)

folded : (name found : List ℕ) (pairs : List (List ℕ × List ℕ)) →
    fold (later_value name) found pairs ≡ unwrap_or (last_or (Some found) (values_in name pairs)) []
folded name found [] = refl
folded name found (p ∷ ps) =
    by_test (bytes_eq (decoded p.0) name) refl (folded name (decoded p.1) ps) (folded name found ps)
  where
    by_test : (v : Bool) → bytes_eq (decoded p.0) name ≡ v
        → fold (later_value name) (decoded p.1) ps ≡ unwrap_or (last_or (Some (decoded p.1)) (values_in name ps)) []
        → fold (later_value name) found ps ≡ unwrap_or (last_or (Some found) (values_in name ps)) []
        → fold (later_value name) found (p ∷ ps) ≡ unwrap_or (last_or (Some found) (values_in name (p ∷ ps))) []
    by_test true e h k = rw e h
    by_test false e h k = rw e k

none_found : (values : List (List ℕ)) → unwrap_or (last_or (Some []) values) [] ≡ unwrap_or (last_or None values) []
none_found [] = refl
none_found (v ∷ vs) = refl

pub last_folded : (input name : List ℕ) → fold (later_value name) [] (form.raw_pairs input) ≡ last_value input name
last_folded input name = folded name [] (form.raw_pairs input) ∙ none_found (values_in name (form.raw_pairs input))
