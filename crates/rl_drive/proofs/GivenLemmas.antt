-- What rows were given, by the first outcomes of their names.
use Rattle.std.proofs.Common.{◌≡◌, ℕ, ◌<◌, List, [], ◌∷◌, length, map, get_or, Option, None, ap, ap₂, refl, ◌∙◌}
use Rattle.std.specs.Prelude.{option_map}
use Rattle.std.specs.Option.{option_map_or}
use Rattle.std.proofs.lemmas.Option.{slice_get-get_or, slice_get-map}
use Rattle.rl_names.specs.declared.name.Key.{Key}
use Rattle.rl_names.specs.declared.row.Row.{Row}
use Rattle.rl_view_spec.specs.Closure.{Text}
use Rattle.rl_view_spec.specs.View.{View, Event, Answer, first_of}
use Rattle.rl_view.specs.Heard.{execution_of}
use Rattle.rl_view.specs.Seen.{for_outcomes}
use Rattle.rl_drive.specs.Given.{execution_in, given_in}
use Rattle.rl_drive.specs.Played.{execution_at}
use Rattle.rl_drive.specs.declared.given.Given.{Given}

-- what an outcome gives, whatever the name
abbrev pub hearing : Option Answer → Text → Option (Key × Text)
hearing outcome name = execution_of name outcome

by_names : (one other : Text → Option Answer) (rows : List Row)
    → map (λ (row : Row). hearing (one row.name)) rows ≡ map (λ (row : Row). hearing (other row.name)) rows
    → map (λ (row : Row). execution_of row.name (one row.name)) rows ≡ map (λ (row : Row). execution_of row.name (other row.name)) rows
by_names one other [] e = refl
by_names one other (row ∷ rows) e =
    let first : hearing (one row.name) ≡ hearing (other row.name) = cc in
    let rest : map (λ (row : Row). hearing (one row.name)) rows ≡ map (λ (row : Row). hearing (other row.name)) rows = cc in
    ap₂ (λ (x : Option (Key × Text)) (xs : List (Option (Key × Text))). x ∷ xs) (ap (λ (f : Text → Option (Key × Text)). f row.name) first)
    (by_names one other rows rest)

-- where outcomes give the same, rows were given the same
pub given_alike : (v : View) (one other : List Event) → for_outcomes hearing v one ≡ for_outcomes hearing v other → given_in v one ≡ given_in v other
given_alike v one other e = by_names (first_of v one) (first_of v other) v.registered.rows e

-- what a row was given, by its place
pub given_there : (items : List (Option Given)) (row : ℕ) (d : Option Given) → row < length items →
    execution_at (map execution_in items) row ≡ execution_in (get_or items row d)
given_there items row d low =
    ap (λ (o : Option (Option (Key × Text))). option_map_or (λ (execution : Option (Key × Text)). execution) o None)
    (slice_get-map execution_in items row ∙ ap (option_map execution_in) (slice_get-get_or items row d low))
